-- The name of a line: a mnemonic with the first operand's letter, searched among all names.
use Rattle.std.specs.Prelude.{ℕ, zero, suc, ◌+◌, ◌-◌, ◌*◌, ◌%◌, ◌^◌, Bool, ◌&&◌, List, [], ◌∷◌, eqb, length}
use Rattle.bits.specs.Choice.{pick, lookup}
use Rattle.mnemonic.specs.Operands.{letter_of}
use Rattle.mnemonic.specs.route.Parts.{packed}
use Rattle.mnemonic.specs.route.Names.{name_at, name_text, name_operand, name_count}
use Rattle.reader.specs.route.Scan.{key}
use Rattle.reader.specs.Types.{Name}

-- the letter by the key of the first operand: w, x, a vector's, or #
abbrev pub letter_table : List (ℕ × ℕ)
letter_table =
    (key "w,", 0x77) ∷ (key "wzr,", 0x77) ∷ (key "x,", 0x78) ∷ (key "xzr,", 0x78)
    ∷ (key "b,", 0x62) ∷ (key "h,", 0x68) ∷ (key "s,", 0x73) ∷ (key "d,", 0x64) ∷ (key "q,", 0x71) ∷ []

unfoldable pub letter_for : ℕ → ℕ
letter_for operand = lookup 0x23 letter_table operand

-- letters in the highest bytes of a key
abbrev pub aligned : ℕ → ℕ → ℕ
aligned letters count = letters * 2 ^ (8 * (7 - (count + 7) % 8)) % 2 ^ 64

unfoldable pub is_name : Name → ℕ → ℕ → Bool
is_name found name letter = eqb (letter_of (name_operand found)) letter && eqb (aligned (packed (name_text found)) (length (name_text found))) name

-- the last name that it is, of the first n
unfoldable pub searched : ℕ → ℕ → ℕ → Name
searched zero name letter = name_at 0
searched (suc n) name letter = pick (is_name (name_at n) name letter) (name_at n) (searched n name letter)

unfoldable pub name_for : ℕ → ℕ → Name
name_for operand name = searched name_count name (letter_for operand)
