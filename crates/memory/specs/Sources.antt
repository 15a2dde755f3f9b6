-- Where each byte of a register comes from in a load: 02, CR 13, "A load copies marks byte for byte; sign copies take the mark of
-- the top byte loaded, cleared bytes none".
use Rattle.std.specs.Prelude.{ℕ, zero, suc, ◌+◌, ◌-◌, List, [], ◌∷◌, ◌++◌, map, get_or, replicate}
use Rattle.bits.specs.Bytes.{joined}
use Rattle.memory.specs.Taints.{normal}

-- a byte of memory at an index, its sign, or none
pub data Source : Type 0 where
  cleared : Source
  byte : ℕ → Source
  sign : ℕ → Source

-- n bytes from an index on
unfoldable pub bytes_from : ℕ → ℕ → List Source
bytes_from at zero = []
bytes_from at (suc n) = byte at ∷ bytes_from (suc at) n

-- the sign of the top byte of n
abbrev pub sign_from : ℕ → ℕ → Source
sign_from at zero = cleared
sign_from at (suc n) = sign (at + n)

-- n bytes from an index on, and copies of the sign of the top one up to the extent; the register's bytes above these are cleared
unfoldable pub sources_of : ℕ → ℕ → ℕ → List Source
sources_of at n extent = bytes_from at n ++ replicate (extent - n) (sign_from at n)

-- the taint byte that comes from a source, of the taint bytes of memory
abbrev pub taint_from : List ℕ → Source → ℕ
taint_from k cleared = 0
taint_from k (byte i) = normal (get_or k i 0)
taint_from k (sign i) = normal (get_or k i 0)

-- the taints of a register that is loaded
unfoldable pub loaded_taint : ℕ → ℕ → ℕ → List ℕ → ℕ
loaded_taint at n extent k = joined (map (taint_from k) (sources_of at n extent))
