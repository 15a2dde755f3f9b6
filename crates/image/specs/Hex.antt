-- A HEX text of an image, for the statement that it is read back: lines of at most 16 bytes, in sixteen digits of either case, a type
-- 04 line before the first and where the upper half changes, and the end. It is no code.
use Rattle.std.specs.Prelude.{ℕ, zero, suc, ◌+◌, ◌-◌, ◌/◌, ◌%◌, ◌<◌, List, [], ◌∷◌, ◌++◌, eqb, length, get_or, take, drop}
use Rattle.bits.specs.Choice.{pick}
use Rattle.image.specs.Records.{total}

-- the sixteen digits in upper case, and in lower case
abbrev pub upper_digits : List ℕ
upper_digits = 48 ∷ 49 ∷ 50 ∷ 51 ∷ 52 ∷ 53 ∷ 54 ∷ 55 ∷ 56 ∷ 57 ∷ 65 ∷ 66 ∷ 67 ∷ 68 ∷ 69 ∷ 70 ∷ []

abbrev pub lower_digits : List ℕ
lower_digits = 48 ∷ 49 ∷ 50 ∷ 51 ∷ 52 ∷ 53 ∷ 54 ∷ 55 ∷ 56 ∷ 57 ∷ 97 ∷ 98 ∷ 99 ∷ 100 ∷ 101 ∷ 102 ∷ []

abbrev pub pairs_text : List ℕ → List ℕ → List ℕ
pairs_text digits [] = []
pairs_text digits (b ∷ bs) = get_or digits (b / 16 % 16) 0 ∷ get_or digits (b % 16) 0 ∷ pairs_text digits bs

-- what a line's bytes are before its checksum
abbrev pub body_of : ℕ → ℕ → List ℕ → List ℕ
body_of kind offset bs = length bs ∷ offset / 256 ∷ offset % 256 ∷ kind ∷ bs

unfoldable pub checksum_of : List ℕ → ℕ
checksum_of bs = (256 - total bs % 256) % 256

-- the line of a type, an offset and some bytes
abbrev pub line_text : List ℕ → ℕ → ℕ → List ℕ → List ℕ
line_text digits kind offset bs = 58 ∷ (pairs_text digits (body_of kind offset bs ++ (checksum_of (body_of kind offset bs) ∷ [])) ++ (10 ∷ []))

abbrev pub upper_text : List ℕ → ℕ → List ℕ
upper_text digits upper = line_text digits 4 0 (upper / 256 ∷ upper % 256 ∷ [])

-- the lines of bytes from an address on, behind an upper half. No more lines are made than the first number says
abbrev pub data_text : List ℕ → ℕ → ℕ → ℕ → List ℕ → List ℕ
data_text digits zero upper a bs = line_text digits 1 0 []
data_text digits (suc n) upper a [] = line_text digits 1 0 []
data_text digits (suc n) upper a (b ∷ bs) =
    pick (eqb upper (a / 65536)) [] (upper_text digits (a / 65536))
    ++ (line_text digits 0 (a % 65536) (take 16 (b ∷ bs))
    ++ data_text digits n (a / 65536) (a + length (take 16 (b ∷ bs))) (drop 16 (b ∷ bs)))

-- no upper half is 65536
unfoldable pub hex_of : List ℕ → ℕ → List ℕ → List ℕ
hex_of digits origin bytes = data_text digits (length bytes) 65536 origin bytes

-- all are bytes
abbrev pub AllBytes : List ℕ → Type 0
AllBytes [] = Unit {0}
AllBytes (b ∷ bs) = (b < 256) × AllBytes bs
