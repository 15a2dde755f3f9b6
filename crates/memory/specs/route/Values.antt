-- The bytes of a loaded number by the sources that its taints have. What a load gives is said by `joined` and `extended_of` of
-- bits; that these are its bytes is proved (`extended_sources`).
use Rattle.std.specs.Prelude.{ℕ, List, ltb, get_or}
use Rattle.bits.specs.Choice.{pick}
use Rattle.memory.specs.Sources.{Source, cleared, byte, sign}

-- what fills the bytes above a signed number, by its top byte
abbrev pub sign_copy : ℕ → ℕ
sign_copy b = pick (ltb b 128) 0 255

abbrev pub value_from : List ℕ → Source → ℕ
value_from m cleared = 0
value_from m (byte i) = get_or m i 0
value_from m (sign i) = sign_copy (get_or m i 0)
