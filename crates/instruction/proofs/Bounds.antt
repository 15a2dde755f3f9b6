-- The numbers of an instruction that a word stands for are within its family's bounds. Assumes nothing.
use Prim.Native.Nat.{ℕ, ◌*◌, ◌≤◌}
use native.Mathlib.Nat.{mul-le-mul, mul-le-mul_left}
use native.Mathlib.Omega.{arith}
use Rattle.bits.specs.Fields.{field}
use Rattle.bits.proofs.Parts.{part_lt}
use Rattle.bits.proofs.Offsets.{signed_most}
use Rattle.instruction.specs.Types.{Row, SizedOp, OffsetOperands}
use Rattle.instruction.specs.Operations.{sized_bytes, pair_bytes}
use Rattle.instruction.specs.Operands.{sized_in, literal_in, pair_op_in, pair_in, signed_in, index_in, unsigned_in, exclusive_in, store_exclusive_in}
use Rattle.instruction.specs.Table.{columns_of}
use Rattle.instruction.specs.route.Bounds.{LiteralBounds, PairBounds, OffsetBounds, IndexBounds, ExclusiveBounds, StoreExclusiveBounds, Bounded}
use Rattle.instruction.proofs.Codes.{sized, paired}

-- the bound of imm9 is within that of imm12
pub wider : {o : OffsetOperands} → OffsetBounds 256 o → OffsetBounds 65520 o
wider b = record { target = b.target; base = b.base; offset = omega (arith, b.offset) }

module _ (w : ℕ) where
  pub literal_bounds : LiteralBounds (literal_in w)
  unfolding literal_in
  literal_bounds = record { target = part_lt 0 5 w; offset = signed_most 262144 4 (field 23 5 w) (part_lt 5 19 w) }

  pub pair_bounds : PairBounds (pair_in (pair_op_in w) w)
  unfolding pair_in
  pair_bounds =
      let op = pair_op_in w in
      let most = signed_most 64 (pair_bytes op) (field 21 15 w) (part_lt 15 7 w) in
      let sixteen : 64 * pair_bytes op ≤ 64 * 16 = mul-le-mul_left 64 (paired op).most in
      record { first = part_lt 0 5 w; second = part_lt 10 5 w; base = part_lt 5 5 w; offset = omega arith }

  pub signed_bounds : OffsetBounds 256 (signed_in w)
  unfolding signed_in
  signed_bounds = record { target = part_lt 0 5 w; base = part_lt 5 5 w; offset = signed_most 256 1 (field 20 12 w) (part_lt 12 9 w) }

  pub index_bounds : IndexBounds (index_in w)
  unfolding index_in
  index_bounds = record { target = part_lt 0 5 w; base = part_lt 5 5 w; index = part_lt 16 5 w; scaled = part_lt 12 1 w }

  pub unsigned_bounds : (op : SizedOp) → OffsetBounds 65520 (unsigned_in op w)
  unfolding unsigned_in
  unsigned_bounds op =
      let below : field 21 10 w ≤ 4095 = omega (arith, part_lt 10 12 w) in
      let most : field 21 10 w * sized_bytes op ≤ 4095 * 16 = mul-le-mul below (sized op).most in
      record { target = part_lt 0 5 w; base = part_lt 5 5 w; offset = omega arith }

  pub exclusive_bounds : ExclusiveBounds (exclusive_in w)
  unfolding exclusive_in
  exclusive_bounds = record { target = part_lt 0 5 w; base = part_lt 5 5 w }

  pub store_exclusive_bounds : StoreExclusiveBounds (store_exclusive_in w)
  unfolding store_exclusive_in
  store_exclusive_bounds = record { status = part_lt 16 5 w; target = part_lt 0 5 w; base = part_lt 5 5 w }

  pub bounded_in : (r : Row) → Bounded ((columns_of r).family w)
  bounded_in Row.NoRow = tt
  bounded_in Row.LiteralRow = literal_bounds
  bounded_in Row.PairRow = pair_bounds
  bounded_in Row.OrderedRow = signed_bounds
  bounded_in Row.UnscaledRow = signed_bounds
  bounded_in Row.PostRow = signed_bounds
  bounded_in Row.PreRow = signed_bounds
  bounded_in Row.RegisterRow = index_bounds
  bounded_in Row.UnsignedRow = unsigned_bounds (sized_in w)
  bounded_in Row.LoadExclusiveRow = exclusive_bounds
  bounded_in Row.StoreExclusiveRow = store_exclusive_bounds
  bounded_in Row.AcquireReleaseRow = exclusive_bounds
