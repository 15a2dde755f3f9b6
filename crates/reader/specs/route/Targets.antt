-- What the first operand is, by its key and its number: a register, or the hint of a prefetch.
use Rattle.std.specs.Prelude.{ℕ, ◌+◌, ◌%◌, List, [], ◌∷◌}
use Rattle.bits.specs.Choice.{lookup}
use Rattle.reader.specs.route.Scan.{key}

-- bits 2..0 of a hint by the number of its name
abbrev pub low_table : List (ℕ × ℕ)
low_table = (3141, 0) ∷ (311, 1) ∷ (3151, 2) ∷ (312, 3) ∷ (3161, 4) ∷ []

unfoldable pub low_bits : ℕ → ℕ
low_bits n = lookup 5 low_table n

-- a name by its letters; all else is its number
abbrev pub target_table : ℕ → List (ℕ × ℕ)
target_table n =
    (key "pldlkeep,", low_bits n) ∷ (key "pldlstrm,", low_bits n)
    ∷ (key "plilkeep,", 8 + low_bits n) ∷ (key "plilstrm,", 8 + low_bits n)
    ∷ (key "pstlkeep,", 16 + low_bits n) ∷ (key "pstlstrm,", 16 + low_bits n)
    ∷ []

unfoldable pub target_at : ℕ → ℕ → ℕ
target_at k n = lookup (n % 32) (target_table n) k
