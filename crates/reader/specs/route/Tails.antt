-- What stands behind the base, by the keys of its words.
use Rattle.std.specs.Prelude.{ℕ, ◌%◌, List, [], ◌∷◌, ℤ, pos, neg_ℤ}
use Rattle.bits.specs.Choice.{lookup}
use Rattle.reader.specs.route.Scan.{key}
use Rattle.reader.specs.Types.{Tail, AtOffset, Before, After, Indexed}

abbrev pub tail_table : List (ℕ × Tail)
tail_table =
    (0, AtOffset) ∷ (key "#]", AtOffset) ∷ (key "#-]", AtOffset) ∷ (key "#]!", Before) ∷ (key "#-]!", Before)
    ∷ (key "#", After) ∷ (key "#-", After) ∷ []

unfoldable pub tail_at : ℕ → Tail
tail_at k = lookup Indexed tail_table k

unfoldable pub plus_of : ℕ → ℤ
plus_of n = pos (n % 0x20_0000)

unfoldable pub minus_of : ℕ → ℤ
minus_of n = neg_ℤ (pos (n % 0x20_0000))

abbrev pub offset_table : ℕ → List (ℕ × ℤ)
offset_table n = (key "#-", minus_of n) ∷ (key "#-]", minus_of n) ∷ (key "#-]!", minus_of n) ∷ []

unfoldable pub offset_at : ℕ → ℕ → ℤ
offset_at k n = lookup (plus_of n) (offset_table n) k

abbrev pub option_table : List (ℕ × ℕ)
option_table =
    (0, 0b011) ∷ (key "lsl", 0b011) ∷ (key "uxtw]", 0b010) ∷ (key "uxtw", 0b010) ∷ (key "sxtw]", 0b110) ∷ (key "sxtw", 0b110) ∷ []

unfoldable pub option_at : ℕ → ℕ
option_at k = lookup 0b111 option_table k

abbrev pub scaled_table : List (ℕ × ℕ)
scaled_table = (key "lsl", 1) ∷ (key "uxtw", 1) ∷ (key "sxtw", 1) ∷ (key "sxtx", 1) ∷ []

unfoldable pub scaled_at : ℕ → ℕ
scaled_at k = lookup 0 scaled_table k
