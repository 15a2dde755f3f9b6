-- Bytes parted at a byte: lines at newlines, byte 10, and fields at tabs, byte 9.
use Rattle.std.specs.Prelude.{ℕ, List, [], ◌∷◌, eqb}
use Rattle.bits.specs.Choice.{pick}

-- a byte before the first part
abbrev pub lead : ℕ → List (List ℕ) → List (List ℕ)
lead b [] = (b ∷ []) ∷ []
lead b (p ∷ ps) = (b ∷ p) ∷ ps

-- the parts of some bytes between the bytes s; what there is of no bytes
abbrev pub parts_at : ℕ → List (List ℕ) → List ℕ → List (List ℕ)
parts_at s none [] = none
parts_at s none (b ∷ bs) = pick (eqb b s) ([] ∷ parts_at s none bs) (lead b (parts_at s none bs))

-- the lines, without their newlines; the last may lack its own, and no bytes are no line
abbrev pub lines_of : List ℕ → List (List ℕ)
lines_of bytes = parts_at 10 [] bytes

-- the fields of a line; no bytes are one field
abbrev pub fields_of : List ℕ → List (List ℕ)
fields_of line = parts_at 9 ([] ∷ []) line
