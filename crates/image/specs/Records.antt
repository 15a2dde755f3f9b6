-- What a line of a HEX text says: its type, its sum, and its bytes at their addresses. 02, CR 10.
use Rattle.std.specs.Prelude.{ℕ, suc, ◌+◌, ◌*◌, ◌%◌, ◌^◌, Bool, false, not, List, [], ◌∷◌, ◌++◌, eqb}
use Rattle.bits.specs.Choice.{pick}
use Rattle.image.specs.Lines.{byte_in, bytes_in, count_in}

abbrev pub type_in : List ℕ → ℕ
type_in l = byte_in l 3

abbrev pub offset_in : List ℕ → ℕ
offset_in l = byte_in l 1 * 256 + byte_in l 2

abbrev pub total : List ℕ → ℕ
total [] = 0
total (b ∷ bs) = b + total bs

-- all bytes of a line, its last the checksum, add up to 0 modulo 256
unfoldable pub sum_in : List ℕ → ℕ
sum_in l = total (bytes_in l 0 (5 + count_in l)) % 256

-- a count that is not 2 in type 04, or not 0 in type 01
unfoldable pub bad_count : List ℕ → Bool
bad_count l = pick (eqb (type_in l) 4) (not (eqb (count_in l) 2)) (pick (eqb (type_in l) 1) (not (eqb (count_in l) 0)) false)

unfoldable pub bad_type : ℕ → Bool
bad_type t = pick (eqb t 0) false (pick (eqb t 1) false (not (eqb t 4)))

abbrev pub is_end : List ℕ → Bool
is_end l = eqb (type_in l) 1

-- the upper half behind a line; no type 04 line with another count is taken
unfoldable pub upper_after : ℕ → List ℕ → ℕ
upper_after upper l = pick (eqb (type_in l) 4) (pick (eqb (count_in l) 2) (byte_in l 4 * 256 + byte_in l 5) upper) upper

-- bytes at addresses from one on, modulo 2^32
abbrev pub placed : ℕ → List ℕ → List (ℕ × ℕ)
placed a [] = []
placed a (b ∷ bs) = (a % 2 ^ 32, b) ∷ placed (suc a) bs

-- the data bytes of a line, each with its address
unfoldable pub places_in : ℕ → List ℕ → List (ℕ × ℕ)
places_in upper l = pick (eqb (type_in l) 0) (placed (upper * 65536 + offset_in l) (bytes_in l 4 (count_in l))) []

-- the data bytes of some lines, in their order
abbrev pub places_of : ℕ → List (List ℕ) → List (ℕ × ℕ)
places_of upper [] = []
places_of upper (l ∷ ls) = places_in upper l ++ places_of (upper_after upper l) ls
