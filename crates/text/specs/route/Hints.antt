-- Parts of a hint's name in numbers, the first letter lowest.
use Rattle.std.specs.Prelude.{ℕ, List, [], ◌∷◌, eqb}
use Rattle.bits.specs.Choice.{pick, lookup}

abbrev pub kind_table : List (ℕ × ℕ)
kind_table = (0, 0x64_6c70) ∷ (1, 0x69_6c70) ∷ []

abbrev pub kind_bytes : ℕ → ℕ
kind_bytes kind = lookup 0x74_7370 kind_table kind

abbrev pub policy_bytes : ℕ → ℕ
policy_bytes bit = pick (eqb bit 0) 0x202c_7065_656b 0x202c_6d72_7473
