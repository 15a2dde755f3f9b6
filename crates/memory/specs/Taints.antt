-- Taint bytes: one for each byte of memory, and one for each byte of a register, tainted where it is not 0: 01's marks, and 02's
-- CR 13. A register's are a number of as many bytes as its value has: the taint of byte i is byte i of the number.
use Rattle.std.specs.Prelude.{ℕ, zero, suc, ◌/◌, ◌%◌, Bool, true, false}
use Rattle.bits.specs.Choice.{pick}

abbrev pub tainted : ℕ → Bool
tainted zero = false
tainted (suc k) = true

-- a taint byte as it is copied: 0 or 1
abbrev pub normal : ℕ → ℕ
normal k = pick (tainted k) 1 0

-- byte i of a number
unfoldable pub byte_at : ℕ → ℕ → ℕ
byte_at zero v = v % 256
byte_at (suc i) v = byte_at i (v / 256)
