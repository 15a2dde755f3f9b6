-- A text as the reader keeps it: of each word the bytes that are no digits, packed, and the number that its digits make.
use Rattle.std.specs.Prelude.{ℕ, ◌+◌, ◌*◌, ◌/◌, ◌%◌, ltb, get_or, set}
use Prim.Native.String.{String}
use mathlib.Core.List.{List, [], ◌∷◌, foldl}
use Rattle.bits.specs.Choice.{pick, lookup}
use Rattle.ascii.specs.Ascii.{asc}
use Rattle.reader.specs.Types.{Scan}

-- one more byte above those of a key, which holds the last eight, the first of them lowest
abbrev pub packed : ℕ → ℕ → ℕ
packed k byte = k / 256 % 0x100_0000_0000_0000 + byte * 0x100_0000_0000_0000

-- the key of a quoted text
abbrev pub key : String → ℕ
key s = foldl packed 0 (asc s)

abbrev pub keyed : Scan → ℕ → Scan
keyed s byte = record { keys = set s.keys (s.at % 8) (packed (get_or s.keys (s.at % 8) 0) byte); nums = s.nums; at = s.at }

abbrev pub digited : Scan → ℕ → Scan
digited s digit =
    record { keys = s.keys; nums = set s.nums (s.at % 8) (get_or s.nums (s.at % 8) 0 % 1000000000000000000 * 10 + digit); at = s.at }

abbrev pub moved_to : Scan → ℕ → Scan
moved_to s at = record { keys = s.keys; nums = s.nums; at = at }

-- the digits are 48 to 57
unfoldable pub plain_of : Scan → ℕ → Scan
plain_of s byte = pick (ltb byte 48) (keyed s byte) (pick (ltb byte 58) (digited s (byte % 16)) (keyed s byte))

-- a space (32) starts the next word and a bracket (91) word 4; p (112) and z (122), of sp and zr, are also the number 31
abbrev pub step_table : Scan → ℕ → List (ℕ × Scan)
step_table s byte =
    (32, moved_to s (s.at % 8 + 1)) ∷ (91, keyed (moved_to s 4) byte) ∷ (112, keyed (digited s 31) byte)
    ∷ (122, keyed (digited s 31) byte) ∷ []

unfoldable pub step_of : Scan → ℕ → Scan
step_of s byte = lookup (plain_of s byte) (step_table s byte) byte

unfoldable pub scan_start : Scan
scan_start =
    record { keys = 0 ∷ 0 ∷ 0 ∷ 0 ∷ 0 ∷ 0 ∷ 0 ∷ 0 ∷ []; nums = 0 ∷ 0 ∷ 0 ∷ 0 ∷ 0 ∷ 0 ∷ 0 ∷ 0 ∷ []; at = 0 }
