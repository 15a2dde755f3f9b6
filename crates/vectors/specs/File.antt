-- The thirty-two vector registers of two 64-bit halves each, kept as one array of arrays, and their sixteen marks each, an array of
-- the same form: 02, CR 12 and CR 13. As one number a register is below 2^128, the low half first in memory. A register above 31
-- reads 0, untainted, and setting it changes nothing.
use Rattle.std.specs.Prelude.{ℕ, ◌+◌, ◌*◌, ◌^◌, ◌/◌, ◌<◌, ◌≡◌, Bool, List, [], ◌∷◌, map, eqb, length, get_or, set}
use Rattle.bits.specs.Bytes.{bytes_of, joined}
use Rattle.memory.specs.Taints.{normal}
use Rattle.vectors.specs.declared.Halves.{Halves}
use Rattle.vectors.specs.declared.VectorWrite.{VectorWrite}
use Rattle.vectors.specs.declared.VectorWrites.{VectorWrites}

-- a register as one number
abbrev pub wide : List ℕ → ℕ
wide row = get_or row 0 0 + get_or row 1 0 * 2 ^ 64

abbrev pub number_of : Halves → ℕ
number_of h = h.low + h.high * 2 ^ 64

abbrev pub halves_at : List (List ℕ) → ℕ → Halves
halves_at file n = record { low = get_or (get_or file n []) 0 0; high = get_or (get_or file n []) 1 0 }

abbrev pub with_vector : List (List ℕ) → ℕ → Halves → List (List ℕ)
with_vector file n h = set file n (h.low ∷ h.high ∷ [])

-- what code holds: thirty-two rows of two 64-bit numbers
pub record Held (file : List (List ℕ)) : Type 0 where
  pub count : length file ≡ 32
  pub rows : (i : ℕ) → i < 32 → length (get_or file i []) ≡ 2
  pub halves : (i j : ℕ) → i < 32 → get_or (get_or file i []) j 0 < 2 ^ 64

-- of taints, each byte as 0 or 1
abbrev pub normal_halves : Halves → Halves
normal_halves h = record { low = joined (map normal (bytes_of 8 h.low)); high = joined (map normal (bytes_of 8 h.high)) }

-- ---- slots of the machine: 0 to 31 are general, 32 to 63 are vector registers, and 64 is none

abbrev pub vector_slot : ℕ → Bool
vector_slot slot = eqb (slot / 32) 1

-- ---- what a step writes

abbrev pub files_after : VectorWrites → List (List ℕ) → List (List ℕ)
files_after w file = with_vector (with_vector file w.first.number w.first.value) w.second.number w.second.value

abbrev pub taints_after : VectorWrites → List (List ℕ) → List (List ℕ)
taints_after w file = with_vector (with_vector file w.first.number w.first.taint) w.second.number w.second.taint

-- nothing is written
abbrev pub no_halves : Halves
no_halves = record { low = 0; high = 0 }

abbrev pub no_write : VectorWrite
no_write = record { number = 32; value = no_halves; taint = no_halves }

abbrev pub no_writes : VectorWrites
no_writes = record { first = no_write; second = no_write }
