-- The operands of an allocated word are in the ranges that a line can show. Assumes nothing.
use Prim.Native.Nat.{ℕ, ◌+◌, ◌*◌, ◌<◌}
use mathlib.Core.Path.{◌≡◌, sym}
use mathlib.Core.Bool.{false}
use mathlib.Core.List.{[], ◌∷◌}
use native.Mathlib.Nat.{pos_of_ne-zero}
use native.Mathlib.Omega.{arith}
use borrow.Author.Tests.{eqb-false}
use Rattle.bits.specs.Fields.{part}
use Rattle.bits.proofs.Parts.{part_lt, cut, Has}
use Rattle.instruction.specs.declared.row.Row.{Row}
use Rattle.instruction.specs.declared.row.Row.TheVariants.{NoRow, LiteralRow, PairRow, OrderedRow, UnscaledRow, PostRow, PreRow, RegisterRow, UnsignedRow, LoadExclusiveRow, StoreExclusiveRow, AcquireReleaseRow}
use Rattle.instruction.specs.Undefined.{size_opc, undefined_size, undefined_prefetch, undefined_option}
use Rattle.instruction.specs.Operands.{sized_in, literal_in, pair_op_in, pair_in, signed_in, index_in, unsigned_in}
use Rattle.instruction.specs.Table.{columns_of}
use Rattle.instruction.proofs.Rows.{prefetch_no, option_no}
use Rattle.instruction.proofs.Codes.{sized_code_lem}
use Rattle.instruction.proofs.Bounds.{literal_bounds, pair_bounds, signed_bounds, index_bounds, unsigned_bounds, exclusive_bounds, store_exclusive_bounds}
use Rattle.reader.specs.Types.{Prefetch}
use Rattle.reader.proofs.Families.{OffsetRange, IndexRange, LiteralRange, PairRange, InRange}

-- ---- operations

sized_range : (w : ℕ) → size_opc w < 32
sized_range w = omega (arith, part_lt 26 1 w, part_lt 30 2 w, part_lt 22 2 w)

no_prefetch : (w : ℕ) → undefined_prefetch w ≡ false → ¬ (sized_in w ≡ Prefetch)
unfolding undefined_size sized_in
no_prefetch w u e =
    let p = prefetch_no w u in
    let c = sized_code_lem (size_opc w) (sized_range w) p.0 in
    eqb-false (size_opc w) 0b0_11_10 p.1 (sym (rw e at c))

one_of_four : (k a b : ℕ) → k ≡ a + (1 + b * 2) * 2 → a < 2 → b < 2 → ¬ (k ≡ 2) → ¬ (k ≡ 3) → ¬ (k ≡ 6) → k ≡ 7
one_of_four k a b e h g p q r = omega arith

module _ (w : ℕ) where
  -- ---- operands

  literal_range : LiteralRange (literal_in w)
  literal_range = let b = literal_bounds w in record { target = b.target; offset = omega (arith, b.offset) }

  signed_range : OffsetRange (signed_in w)
  signed_range = let b = signed_bounds w in record { target = b.target; base = b.base; offset = omega (arith, b.offset) }

  unsigned_range : OffsetRange (unsigned_in (sized_in w) w)
  unsigned_range = let b = unsigned_bounds w (sized_in w) in record { target = b.target; base = b.base; offset = omega (arith, b.offset) }

  pair_range : PairRange (pair_in (pair_op_in w) w)
  pair_range =
      let b = pair_bounds w in
      record { first = b.first; second = b.second; base = b.base; offset = omega (arith, b.offset) }

  -- option bit 1 is 1
  index_range : undefined_option w ≡ false → IndexRange (index_in w)
  unfolding index_in
  index_range u =
      let n = pos_of_ne-zero (eqb-false (part 14 1 w) 0 (option_no w u).1) in
      let c : part 13 3 w ≡ part 13 1 w + (part 14 1 w + part 15 1 w * 2) * 2 = omega (arith, cut (3 ∷ []) 13 w, cut (1 ∷ 1 ∷ 1 ∷ []) 13 w) in
      let m : part 13 3 w ≡ part 13 1 w + (1 + part 15 1 w * 2) * 2 = omega (arith, part_lt 14 1 w) in
      let b = index_bounds w in
      record {
        target = b.target;
        base = b.base;
        index = b.index;
        option = one_of_four (part 13 3 w) (part 13 1 w) (part 15 1 w) m (part_lt 13 1 w) (part_lt 15 1 w);
        scaled = b.scaled;
      }

  pub in_range : (r : Row) → Has w (columns_of r).fixed → (columns_of r).undefined w ≡ false → InRange ((columns_of r).family w)
  in_range NoRow h u = absurd (omega arith)
  in_range LiteralRow h u = literal_range
  in_range PairRow h u = pair_range
  in_range OrderedRow h u = (no_prefetch w u, signed_range)
  in_range UnscaledRow h u = signed_range
  in_range PostRow h u = signed_range
  in_range PreRow h u = signed_range
  in_range RegisterRow h u = index_range u
  in_range UnsignedRow h u = unsigned_range
  in_range LoadExclusiveRow h u = exclusive_bounds w
  in_range StoreExclusiveRow h u = store_exclusive_bounds w
  in_range AcquireReleaseRow h u = exclusive_bounds w
