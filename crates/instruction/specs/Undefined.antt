-- When a word of a row is undefined: 01, "Undefined words of the set", in its order, and 02, CR 3 and CR 12. Which of these is a
-- row's stands in the table.
use Rattle.std.specs.Prelude.{ℕ, ◌+◌, ◌*◌, Bool, ◌&&◌, ◌||◌, not, List, [], ◌∷◌, eqb}
use Rattle.bits.specs.Choice.{any}
use Rattle.bits.specs.Fields.{field}

-- bit 26, size and opc side by side, as one number of five bits
abbrev pub size_opc : ℕ → ℕ
size_opc w = field 26 26 w * 16 + field 31 30 w * 4 + field 23 22 w

-- size 10 with opc 11, and size 11 with opc 11; of a vector "a size not 00 with opc bit 1 set"
abbrev pub undefined_codes : List ℕ
undefined_codes =
    0b0_10_11 ∷ 0b0_11_11 ∷ 0b1_01_10 ∷ 0b1_01_11 ∷ 0b1_10_10 ∷ 0b1_10_11 ∷ 0b1_11_10 ∷ 0b1_11_11 ∷ []

unfoldable pub undefined_size : ℕ → Bool
undefined_size w = any (eqb (size_opc w)) undefined_codes

-- or size 11 with opc 10, which is a prefetch elsewhere
unfoldable pub undefined_prefetch : ℕ → Bool
undefined_prefetch w = undefined_size w || eqb (size_opc w) 0b0_11_10

-- or option bit 1 is 0
unfoldable pub undefined_option : ℕ → Bool
undefined_option w = undefined_size w || eqb (field 14 14 w) 0

-- bit 26 and opc of a literal side by side; of a vector opc 11
abbrev pub literal_bits : ℕ → ℕ
literal_bits w = field 26 26 w * 4 + field 31 30 w

unfoldable pub undefined_literal : ℕ → Bool
undefined_literal w = eqb (literal_bits w) 0b1_11

-- opc 11; opc 01 where bit 26 is 0, unless L is 1 and the mode isn't no-allocate
unfoldable pub undefined_pair : ℕ → Bool
undefined_pair w =
    eqb (field 31 30 w) 0b11
    || ((eqb (field 26 26 w) 0 && eqb (field 31 30 w) 0b01) && not (eqb (field 22 22 w) 1 && not (eqb (field 24 23 w) 0b00)))

-- "unused register fields not all ones": Rt2
unfoldable pub undefined_second : ℕ → Bool
undefined_second w = not (eqb (field 14 10 w) 31)

-- or Rs, which only a store-exclusive uses
unfoldable pub undefined_unused : ℕ → Bool
undefined_unused w = undefined_second w || not (eqb (field 20 16 w) 31)
