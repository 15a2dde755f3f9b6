-- What the code looks for in a line: where a byte first stands, and the number of a hex digit.
use Rattle.std.specs.Prelude.{ℕ, zero, suc, ◌-◌, ◌/◌, ◌%◌, List, [], ◌∷◌, ◌++◌, eqb, leb, ltb}
use Rattle.bits.specs.Choice.{pick}
use Rattle.listing.specs.Listing.{hex_digit}

-- how many bytes stand before the first s
abbrev pub until : ℕ → List ℕ → ℕ
until s [] = 0
until s (b ∷ bs) = pick (eqb b s) 0 (suc (until s bs))

-- the number of a digit, or 16
unfoldable pub digit_of : ℕ → ℕ
digit_of b = pick (ltb b 48) 16 (pick (leb b 57) (b - 48) (pick (ltb b 97) 16 (pick (leb b 102) (b - 87) 16)))

-- the last n digits of a number
abbrev pub hex_n : ℕ → ℕ → List ℕ
hex_n zero w = []
hex_n (suc n) w = hex_n n (w / 16) ++ (hex_digit (w % 16) ∷ [])
