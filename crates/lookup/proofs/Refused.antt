-- A refusal has the empty instruction, whatever the table holds. Assumes nothing.
use Prim.Native.Nat.{ℕ}
use mathlib.Core.Path.{◌≡◌, refl}
use mathlib.Core.Bool.{Bool, true, false, ◌||◌}
use mathlib.Core.List.{List}
use lib.Dec.{eqb}
use lib.ListN.{get_or}
use Rattle.bits.specs.Fields.{field}
use Rattle.instruction.specs.declared.answer.Answer.{Answer}
use Rattle.instruction.specs.declared.family.Family.{Family}
use Rattle.instruction.specs.declared.row.Row.{Row}
use Rattle.instruction.specs.Operations.{literal_at, sized_at, pair_at, exclusive_at, store_exclusive_at}
use Rattle.instruction.specs.Operands.{literal_in, pair_in, signed_in, index_in, unsigned_in, exclusive_in, store_exclusive_in}
use Rattle.instruction.specs.Unpredictable.{unpredictable_base, unpredictable_pair, unpredictable_status}
use Rattle.instruction.specs.Undefined.{undefined_second, undefined_unused}
use Rattle.decoder.specs.Decoding.{decoded_from, empty}
use Rattle.lookup.specs.Entries.{families_in, code_in}
use Rattle.lookup.specs.Lookup.{row_in, seen, with_bit15, examine_as, examine_by, examine_in, decode_in}

seen_empty : (u v : Bool) (f : Family) → ¬ ((decoded_from (seen u v f)).answer ≡ Answer.Done) → (seen u v f).instruction ≡ empty
seen_empty true v f n = refl
seen_empty false true f n = absurd (n refl)
seen_empty false false f n = absurd (n refl)

row_empty : (r : Row) (c w : ℕ) → ¬ ((decoded_from (examine_as r c w)).answer ≡ Answer.Done) → (examine_as r c w).instruction ≡ empty
row_empty Row.NoRow c w n = refl
row_empty Row.LiteralRow c w n = seen_empty (eqb c 31) false (Family.Literal (literal_at c) (literal_in w)) n
row_empty Row.PairRow c w n = seen_empty (eqb c 31) (unpredictable_pair w) (Family.Pair (pair_at c) (pair_in (pair_at c) w)) n
row_empty Row.OrderedRow c w n = seen_empty (eqb c 31 || eqb c 14) false (Family.Ordered (sized_at c) (signed_in w)) n
row_empty Row.UnscaledRow c w n = seen_empty (eqb c 31) false (Family.Unscaled (sized_at c) (signed_in w)) n
row_empty Row.PostRow c w n = seen_empty (eqb c 31 || eqb c 14) (unpredictable_base w) (Family.PostIndex (sized_at c) (signed_in w)) n
row_empty Row.PreRow c w n = seen_empty (eqb c 31 || eqb c 14) (unpredictable_base w) (Family.PreIndex (sized_at c) (signed_in w)) n
row_empty Row.RegisterRow c w n = seen_empty (eqb c 31 || eqb (field 14 14 w) 0) false (Family.Register (sized_at c) (index_in w)) n
row_empty Row.UnsignedRow c w n = seen_empty (eqb c 31) false (Family.Unsigned (sized_at c) (unsigned_in (sized_at c) w)) n
row_empty Row.LoadExclusiveRow c w n = seen_empty (undefined_unused w) false (Family.Exclusive (exclusive_at (with_bit15 c w)) (exclusive_in w)) n
row_empty Row.StoreExclusiveRow c w n = seen_empty (undefined_second w) (unpredictable_status w) (Family.StoreExclusive (store_exclusive_at (with_bit15 c w)) (store_exclusive_in w)) n
row_empty Row.AcquireReleaseRow c w n = seen_empty (undefined_unused w) false (Family.Exclusive (exclusive_at (with_bit15 c w)) (exclusive_in w)) n

pub refused_empty : (table : List ℕ) (w : ℕ) → ¬ ((decode_in table w).answer ≡ Answer.Done) → (decode_in table w).instruction ≡ empty
unfolding examine_in examine_by
refused_empty table w n = let e = get_or table (field 31 22 w) 0 in row_empty (row_in (families_in e) w) (code_in e) w n
