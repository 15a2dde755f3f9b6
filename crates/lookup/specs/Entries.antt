-- The table of the second decoder: for bits 31 to 22 of a word, which families they allow, and the operation code of these.
use Rattle.std.specs.Prelude.{ℕ, zero, suc, ◌+◌, ◌-◌, ◌*◌, ◌/◌, ◌%◌, ◌^◌, ◌<◌, ◌≡◌, Bool, true, List, [], ◌∷◌, eqb, leb}
use Rattle.bits.specs.Choice.{pick}
use Rattle.bits.specs.Fields.{Bits, field, has}
use Rattle.instruction.specs.declared.row.Row.{Row}
use Rattle.instruction.specs.Table.{columns_of, rows, matches, first_row}
use Rattle.instruction.specs.Undefined.{size_opc, literal_bits, undefined_size, undefined_literal, undefined_pair}
use Rattle.instruction.specs.Operands.{pair_bits}

-- of the bits that a row asks for, those among bits 31..22, counted from 22, and those below
abbrev pub upper : List Bits → List Bits
upper [] = []
upper (b ∷ bs) = pick (leb 22 b.low) (record { low = b.low - 22; width = b.width; value = b.value } ∷ upper bs) (upper bs)

abbrev pub lower : List Bits → List Bits
lower [] = []
lower (b ∷ bs) = pick (leb 22 b.low) (lower bs) (b ∷ lower bs)

-- ten bits allow a row: they have all that it asks of them
abbrev pub allows : ℕ → Row → Bool
allows ten r = has ten (upper (columns_of r).fixed)

-- the family code of a row; rows that only lower bits tell apart have one in common
abbrev pub family_code : Row → ℕ
family_code Row.NoRow = 0
family_code Row.LiteralRow = 1
family_code Row.PairRow = 2
family_code Row.OrderedRow = 3
family_code Row.UnscaledRow = 4
family_code Row.PostRow = 4
family_code Row.PreRow = 4
family_code Row.RegisterRow = 4
family_code Row.UnsignedRow = 5
family_code Row.LoadExclusiveRow = 6
family_code Row.StoreExclusiveRow = 7
family_code Row.AcquireReleaseRow = 8

-- the operation code of a word of a row: what its operation goes by, or 31 where the ten bits make it undefined; in the ninth
-- family, of which they leave nothing undefined, its size, bit 23 and L
abbrev pub operation_code : Row → ℕ → ℕ
operation_code Row.NoRow w = 0
operation_code Row.LiteralRow w = pick (undefined_literal w) 31 (literal_bits w)
operation_code Row.PairRow w = pick (undefined_pair w) 31 (pair_bits w)
operation_code Row.OrderedRow w = pick (undefined_size w) 31 (size_opc w)
operation_code Row.UnscaledRow w = pick (undefined_size w) 31 (size_opc w)
operation_code Row.PostRow w = pick (undefined_size w) 31 (size_opc w)
operation_code Row.PreRow w = pick (undefined_size w) 31 (size_opc w)
operation_code Row.RegisterRow w = pick (undefined_size w) 31 (size_opc w)
operation_code Row.UnsignedRow w = pick (undefined_size w) 31 (size_opc w)
operation_code Row.LoadExclusiveRow w = size_opc w
operation_code Row.StoreExclusiveRow w = size_opc w
operation_code Row.AcquireReleaseRow w = size_opc w

-- an entry: 32 times the family code, and the operation code
abbrev pub entry_for : Row → ℕ → ℕ
entry_for r ten = family_code r * 32 + operation_code r (ten * 2 ^ 22)

unfoldable pub entry_of : ℕ → ℕ
entry_of ten = entry_for (first_row (allows ten) rows) ten

-- the two codes of an entry, and the rows that a family code names
abbrev pub families_in : ℕ → ℕ
families_in entry = entry / 32

abbrev pub code_in : ℕ → ℕ
code_in entry = entry % 32

abbrev pub names : ℕ → Row → Bool
names families r = eqb families (family_code r)

-- some word with these ten bits matches the row
pub record Allowed (ten : ℕ) (r : Row) : Type 0 where
  pub word : ℕ
  pub fits : word < 2 ^ 32
  pub bits : field 31 22 word ≡ ten
  pub matching : matches word r ≡ true

abbrev pub tabulate : ℕ → ℕ → (ℕ → ℕ) → List ℕ
tabulate i zero f = []
tabulate i (suc n) f = f i ∷ tabulate (suc i) n f

-- the 1,024 entries
unfoldable pub entries : List ℕ
entries = tabulate 0 1024 entry_of
