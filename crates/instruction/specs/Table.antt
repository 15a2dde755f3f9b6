-- The table of 01, "The instructions we take", a row for each of its lines and three for the ninth family of 02, CR 3, with what
-- else they say of the row's words; and what that says of a word: whether it is of the set, undefined, allocated, unpredictable, and its instruction.
use Rattle.std.specs.Prelude.{ℕ, Bool, false, ◌&&◌, not, List, [], ◌∷◌}
use Rattle.bits.specs.Choice.{pick, any}
use Rattle.bits.specs.Fields.{Bits, bits, has}
use Rattle.instruction.specs.Types.{Row, Family, Instruction}
use Rattle.instruction.specs.Operands.{sized_in, literal_op_in, literal_in, pair_op_in, pair_in, signed_in, index_in, unsigned_in, exclusive_op_in, store_exclusive_op_in, exclusive_in, store_exclusive_in}
use Rattle.instruction.specs.Undefined.{undefined_size, undefined_prefetch, undefined_option, undefined_literal, undefined_pair, undefined_second, undefined_unused}
use Rattle.instruction.specs.Unpredictable.{unpredictable_base, unpredictable_pair, unpredictable_status}

-- the bits that a word of the row has, when it is undefined and when unpredictable, and the family that it stands for
pub record Columns : Type 0 where
  pub fixed : List Bits
  pub undefined : ℕ → Bool
  pub unpredictable : ℕ → Bool
  pub family : ℕ → Family

-- the columns "Bits 29..27", "25..24" and "Others". "Only words with bit 26 = 0 (general registers)" holds of the ordered and the
-- ninth family; 02, CR 12, adds to the others the words with bit 26 = 1
abbrev pub columns : List Bits → (ℕ → Bool) → (ℕ → Bool) → (ℕ → Family) → Columns
columns fixed undefined unpredictable family =
    record { fixed = fixed; undefined = undefined; unpredictable = unpredictable; family = family }

abbrev pub never : ℕ → Bool
never w = false

-- NoRow asks that bit 26 be 0 and 1, so no word matches it
abbrev pub columns_of : Row → Columns
columns_of Row.NoRow = columns (bits 26 26 0 ∷ bits 26 26 1 ∷ []) never never (λ w. Family.Empty)
columns_of Row.LiteralRow =
    columns (bits 29 27 0b011 ∷ bits 25 24 0b00 ∷ []) undefined_literal never (λ w. Family.Literal (literal_op_in w) (literal_in w))
columns_of Row.PairRow =
    columns (bits 29 27 0b101 ∷ bits 25 25 0 ∷ []) undefined_pair unpredictable_pair (λ w. Family.Pair (pair_op_in w) (pair_in (pair_op_in w) w))
columns_of Row.OrderedRow =
    columns (bits 29 27 0b011 ∷ bits 26 26 0 ∷ bits 25 24 0b01 ∷ bits 21 21 0 ∷ bits 11 10 0b00 ∷ [])
    undefined_prefetch never (λ w. Family.Ordered (sized_in w) (signed_in w))
columns_of Row.UnscaledRow =
    columns (bits 29 27 0b111 ∷ bits 25 24 0b00 ∷ bits 21 21 0 ∷ bits 11 10 0b00 ∷ [])
    undefined_size never (λ w. Family.Unscaled (sized_in w) (signed_in w))
columns_of Row.PostRow =
    columns (bits 29 27 0b111 ∷ bits 25 24 0b00 ∷ bits 21 21 0 ∷ bits 11 10 0b01 ∷ [])
    undefined_prefetch unpredictable_base (λ w. Family.PostIndex (sized_in w) (signed_in w))
columns_of Row.PreRow =
    columns (bits 29 27 0b111 ∷ bits 25 24 0b00 ∷ bits 21 21 0 ∷ bits 11 10 0b11 ∷ [])
    undefined_prefetch unpredictable_base (λ w. Family.PreIndex (sized_in w) (signed_in w))
columns_of Row.RegisterRow =
    columns (bits 29 27 0b111 ∷ bits 25 24 0b00 ∷ bits 21 21 1 ∷ bits 11 10 0b10 ∷ [])
    undefined_option never (λ w. Family.Register (sized_in w) (index_in w))
columns_of Row.UnsignedRow =
    columns (bits 29 27 0b111 ∷ bits 25 24 0b01 ∷ []) undefined_size never (λ w. Family.Unsigned (sized_in w) (unsigned_in (sized_in w) w))
columns_of Row.LoadExclusiveRow =
    columns (bits 29 27 0b001 ∷ bits 26 26 0 ∷ bits 25 24 0b00 ∷ bits 23 23 0 ∷ bits 22 22 1 ∷ bits 21 21 0 ∷ [])
    undefined_unused never (λ w. Family.Exclusive (exclusive_op_in w) (exclusive_in w))
columns_of Row.StoreExclusiveRow =
    columns (bits 29 27 0b001 ∷ bits 26 26 0 ∷ bits 25 24 0b00 ∷ bits 23 23 0 ∷ bits 22 22 0 ∷ bits 21 21 0 ∷ [])
    undefined_second unpredictable_status (λ w. Family.StoreExclusive (store_exclusive_op_in w) (store_exclusive_in w))
columns_of Row.AcquireReleaseRow =
    columns (bits 29 27 0b001 ∷ bits 26 26 0 ∷ bits 25 24 0b00 ∷ bits 23 23 1 ∷ bits 21 21 0 ∷ bits 15 15 1 ∷ [])
    undefined_unused never (λ w. Family.Exclusive (exclusive_op_in w) (exclusive_in w))

abbrev pub rows : List Row
rows =
    Row.LiteralRow ∷ Row.PairRow ∷ Row.OrderedRow ∷ Row.UnscaledRow ∷ Row.PostRow ∷ Row.PreRow ∷ Row.RegisterRow ∷ Row.UnsignedRow
    ∷ Row.LoadExclusiveRow ∷ Row.StoreExclusiveRow ∷ Row.AcquireReleaseRow ∷ []

abbrev pub matches : ℕ → Row → Bool
matches w r = has w (columns_of r).fixed

-- 01's "of the set": some row matches
unfoldable pub in_set : ℕ → Bool
in_set w = any (matches w) rows

-- the first row that passes a test
abbrev pub first_row : (Row → Bool) → List Row → Row
first_row p [] = Row.NoRow
first_row p (r ∷ rs) = pick (p r) r (first_row p rs)

-- the row that a word matches
unfoldable pub row_of : ℕ → Row
row_of w = first_row (matches w) rows

unfoldable pub undefined : ℕ → Bool
undefined w = (columns_of (row_of w)).undefined w

-- 01's "allocated": of the set and not undefined
unfoldable pub allocated : ℕ → Bool
allocated w = in_set w && not (undefined w)

unfoldable pub unpredictable : ℕ → Bool
unpredictable w = (columns_of (row_of w)).unpredictable w

-- the instruction of an allocated word
unfoldable pub instruction_of : ℕ → Instruction
instruction_of w = record { family = (columns_of (row_of w)).family w }
