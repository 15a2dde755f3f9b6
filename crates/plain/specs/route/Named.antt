-- The instruction that numbers name, where they are those of one; what they give elsewhere doesn't matter, since it has other
-- numbers.
use Rattle.std.specs.Prelude.{ℕ, ◌/◌, ◌%◌, List, [], ◌∷◌, ltb}
use Rattle.bits.specs.Choice.{pick, lookup}
use Rattle.instruction.specs.declared.family.Family.{Family}
use Rattle.instruction.specs.declared.family.Instruction.{Instruction}
use Rattle.instruction.specs.declared.family.OffsetOperands.{OffsetOperands}
use Rattle.instruction.specs.Operations.{sized_at, literal_at, pair_at, mode_at, exclusive_at, store_exclusive_at, size_at}
use Rattle.plain.specs.declared.record.Plain.{Plain}

abbrev pub literal_named : Plain → Family
literal_named p = Family.Literal (literal_at p.operation) (record { target = p.target; offset = p.offset })

abbrev pub pair_named : Plain → Family
pair_named p =
    Family.Pair (pair_at p.operation)
    (record { first = p.target; second = p.second; base = p.base; mode = mode_at p.mode; offset = p.offset })

abbrev pub offset_named : Plain → OffsetOperands
offset_named p = record { target = p.target; base = p.base; offset = p.offset }

abbrev pub index_named : Plain → Family
index_named p =
    Family.Register (sized_at p.operation)
    (record { target = p.target; base = p.base; index = p.index; option = p.option; scaled = p.scaled })

-- codes 0 and 1 are those of store-exclusives
abbrev pub exclusive_named : Plain → Family
exclusive_named p =
    pick (ltb (p.operation % 8) 2)
    (Family.StoreExclusive (store_exclusive_at (p.operation % 8))
    (record { size = size_at (p.operation / 8); status = p.status; target = p.target; base = p.base }))
    (Family.Exclusive (exclusive_at (p.operation % 8)) (record { size = size_at (p.operation / 8); target = p.target; base = p.base }))

abbrev pub families : Plain → List (ℕ × Family)
families p =
    (1, literal_named p) ∷ (2, pair_named p) ∷ (3, Family.Ordered (sized_at p.operation) (offset_named p))
    ∷ (4, Family.Unscaled (sized_at p.operation) (offset_named p)) ∷ (5, Family.PostIndex (sized_at p.operation) (offset_named p))
    ∷ (6, Family.PreIndex (sized_at p.operation) (offset_named p)) ∷ (7, index_named p)
    ∷ (8, Family.Unsigned (sized_at p.operation) (offset_named p)) ∷ (9, exclusive_named p) ∷ []

abbrev pub family_named : Plain → Family
family_named p = lookup Family.Empty (families p) p.family

unfoldable pub instruction_named : Plain → Instruction
instruction_named p = record { family = family_named p }
