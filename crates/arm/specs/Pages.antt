-- The page of each row of the table: what it does, of which words it says UNDEFINED and UNPREDICTABLE, and what 01's and 02's
-- rules ask of its registers and its address.
use Rattle.std.specs.Prelude.{ℕ, ◌*◌, ◌^◌, Bool, true, false, eqb}
use Rattle.bits.specs.Choice.{pick}
use Rattle.bits.specs.Fields.{field}
use Rattle.instruction.specs.declared.row.Row.{Row}
use Rattle.instruction.specs.declared.row.Row.TheVariants.{NoRow, LiteralRow, PairRow, OrderedRow, UnscaledRow, PostRow, PreRow, RegisterRow, UnsignedRow, LoadExclusiveRow, StoreExclusiveRow, AcquireReleaseRow}
use Rattle.arm.specs.Pseudocode.{Arm, Operation, hint}
use Rattle.arm.specs.Unscaled.{unscaled_undefined, unscaled}
use Rattle.arm.specs.Ordered.{ordered_undefined, ordered}
use Rattle.arm.specs.Immediate.{index_undefined, unsigned_undefined, overlaps, post_index, pre_index, unsigned}
use Rattle.arm.specs.Indexed.{indexed_undefined, indexed}
use Rattle.arm.specs.Literal.{literal}
use Rattle.arm.specs.Pair.{pair_undefined, pair_wback, pair_overlaps, pair}
use Rattle.arm.specs.VectorImmediate.{vector_scale, scale_undefined, vector_post_index, vector_pre_index, vector_unsigned}
use Rattle.arm.specs.VectorUnscaled.{vector_unscaled}
use Rattle.arm.specs.VectorIndexed.{vector_indexed_undefined, vector_indexed}
use Rattle.arm.specs.VectorLiteral.{vector_literal_undefined, vector_literal}
use Rattle.arm.specs.VectorPair.{vector_pair_undefined, vector_pair_overlaps, vector_pair}
use Rattle.arm.specs.Exclusive.{not_ones, unused_undefined, status_overlaps, load_exclusive, store_exclusive}
use Rattle.arm.specs.AcquireRelease.{acquire_release}

-- what 6 asks of an access: nothing, that it lies in one block of 16 bytes, or that its address is a multiple of its bytes
pub data Alignment : Type 0 where
  anywhere : Alignment
  one_block : Alignment
  multiple : Alignment

-- whether Rt and Rt2 are vector registers; whether Rn is a base, Rm an index and Rt2 a second register; whether the base is written
-- back; whether Rs gets a status; to how many bytes what is loaded is extended with its sign; whether the page says UNDEFINED of the
-- word, and whether CONSTRAINED UNPREDICTABLE
pub record Page : Type 0 where
  pub operation : ℕ → Arm → Operation
  pub vector : Bool
  pub based : Bool
  pub indexed : Bool
  pub paired : Bool
  pub wback : Bool
  pub status : Bool
  pub alignment : Alignment
  pub extent : ℕ
  pub undefined : Bool
  pub unpredictable : Bool

abbrev page : Bool → (ℕ → Arm → Operation) → Bool → Bool → Bool → Bool → Bool → Alignment → ℕ → Bool → Bool → Page
page vector operation based indexed paired wback status alignment extent undefined unpredictable =
    record {
      operation = operation;
      vector = vector;
      based = based;
      indexed = indexed;
      paired = paired;
      wback = wback;
      status = status;
      alignment = alignment;
      extent = extent;
      undefined = undefined;
      unpredictable = unpredictable;
    }

-- size and opc, "opc 01 loads with zeros above, 10 loads signed to 64 bits, 11 loads signed to 32 bits", and of literals and pairs,
-- whose opc 00 has 4 bytes, 01 4 that are signed to 64 bits, or 8, and 10 8, or those. A vector is not extended: those are its bytes
abbrev pub sized_extent : Bool → ℕ → ℕ → ℕ
sized_extent vector size opc = pick vector (2 ^ vector_scale size opc) (pick (eqb (field 1 1 opc) 1) (pick (eqb (field 0 0 opc) 1) 4 8) (2 ^ size))

abbrev pub opc_extent : Bool → ℕ → ℕ
opc_extent vector opc = pick vector (4 * 2 ^ opc) (pick (eqb opc 0b00) 4 8)

-- by bit 26
abbrev pub page_of : Bool → Row → ℕ → Page
page_of vector NoRow word = page vector (λ word s. hint) false false false false false anywhere 0 false false
page_of vector LiteralRow word =
    let opc = field 31 30 word in
    page vector (pick vector vector_literal literal) false false false false false anywhere (opc_extent vector opc)
    (pick vector (vector_literal_undefined opc) false) false
page_of vector PairRow word =
    let opc = field 31 30 word in
    let mode = field 24 23 word in
    let L = field 22 22 word in
    let t2 = field 14 10 word in
    let n = field 9 5 word in
    let t = field 4 0 word in
    page vector (pick vector (vector_pair mode) (pair mode)) true false true (pair_wback word) false anywhere (opc_extent vector opc)
    (pick vector (vector_pair_undefined opc) (pair_undefined mode opc L))
    (pick vector (vector_pair_overlaps L t t2) (pair_overlaps (pair_wback word) L n t t2))
page_of vector OrderedRow word =
    let size = field 31 30 word in
    let opc = field 23 22 word in
    page false ordered true false false false false one_block (sized_extent false size opc) (ordered_undefined size opc) false
page_of vector UnscaledRow word =
    let size = field 31 30 word in
    let opc = field 23 22 word in
    page vector (pick vector vector_unscaled unscaled) true false false false false anywhere (sized_extent vector size opc)
    (pick vector (scale_undefined size opc) (unscaled_undefined size opc)) false
page_of vector PostRow word =
    let size = field 31 30 word in
    let opc = field 23 22 word in
    page vector (pick vector vector_post_index post_index) true false false true false anywhere (sized_extent vector size opc)
    (pick vector (scale_undefined size opc) (index_undefined size opc)) (pick vector false (overlaps true (field 9 5 word) (field 4 0 word)))
page_of vector PreRow word =
    let size = field 31 30 word in
    let opc = field 23 22 word in
    page vector (pick vector vector_pre_index pre_index) true false false true false anywhere (sized_extent vector size opc)
    (pick vector (scale_undefined size opc) (index_undefined size opc)) (pick vector false (overlaps true (field 9 5 word) (field 4 0 word)))
page_of vector RegisterRow word =
    let size = field 31 30 word in
    let opc = field 23 22 word in
    let option = field 15 13 word in
    page vector (pick vector vector_indexed indexed) true true false false false anywhere (sized_extent vector size opc)
    (pick vector (vector_indexed_undefined option size opc) (indexed_undefined option size opc)) false
page_of vector UnsignedRow word =
    let size = field 31 30 word in
    let opc = field 23 22 word in
    page vector (pick vector vector_unsigned unsigned) true false false false false anywhere (sized_extent vector size opc)
    (pick vector (scale_undefined size opc) (unsigned_undefined size opc)) false
page_of vector LoadExclusiveRow word =
    page false load_exclusive true false false false false multiple (2 ^ field 31 30 word) (unused_undefined (field 20 16 word) (field 14 10 word)) false
page_of vector StoreExclusiveRow word =
    page false store_exclusive true false false false true multiple (2 ^ field 31 30 word) (not_ones (field 14 10 word))
    (status_overlaps (field 20 16 word) (field 9 5 word) (field 4 0 word))
page_of vector AcquireReleaseRow word =
    page false acquire_release true false false false false one_block (2 ^ field 31 30 word) (unused_undefined (field 20 16 word) (field 14 10 word)) false
