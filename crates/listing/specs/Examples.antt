-- 01's example of a listing: "Lines of text". Its thirteen bytes, and its four lines.
use Rattle.std.specs.Prelude.{ℕ, List, [], ◌∷◌, ◌++◌}
use Prim.Native.String.{String}
use Rattle.ascii.specs.Ascii.{asc}

abbrev pub example_bytes : List ℕ
example_bytes = 0x20 ∷ 0xf0 ∷ 0x5f ∷ 0x38 ∷ 0x00 ∷ 0x00 ∷ 0x00 ∷ 0x91 ∷ 0x21 ∷ 0x84 ∷ 0x40 ∷ 0xf8 ∷ 0xff ∷ []

-- three fields parted by tabs, and a newline
abbrev pub row : String → String → String → List ℕ
row word text answer = asc word ++ (9 ∷ []) ++ asc text ++ (9 ∷ []) ++ asc answer ++ (10 ∷ [])

abbrev pub example_lines : List ℕ
example_lines =
    row "385ff020" "ldurb w0, [x1, #-1]" "0"
    ++ row "91000000" "-" "2"
    ++ row "f8408421" "ldr x1, [x1], #8" "4"
    ++ row "short" "-" "1"
