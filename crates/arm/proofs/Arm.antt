-- A step does what Arm's page says, with 01's choices: the page of each row (`row_step`), and the answers before it.
-- Assumes nothing.
use Prim.Native.Nat.{ℕ, ◌+◌, ◌%◌, ◌^◌, ◌≤◌}
use mathlib.Core.Path.{◌≡◌, refl, ap, ◌∙◌}
use mathlib.Core.Bool.{Bool, true, false, not, ◌||◌}
use lib.Dec.{ltb, eqb}
use lib.ListN.{length}
use native.Mathlib.Omega.{arith}
use borrow.Author.Tests.{ltb-false, eqb-true}
use Rattle.bits.specs.Choice.{pick}
use Rattle.bits.specs.Fields.{field}
use Rattle.bits.proofs.Choices.{neither}
use Rattle.bits.proofs.Parts.{Has}
use Rattle.instruction.specs.declared.answer.Answer.TheVariants.{BadWindow, NotInSet, Undefined, Unpredictable}
use Rattle.instruction.specs.declared.row.Row.{Row}
use Rattle.instruction.specs.declared.row.Row.TheVariants.{NoRow, LiteralRow, PairRow, OrderedRow, UnscaledRow, PostRow, PreRow, RegisterRow, UnsignedRow, LoadExclusiveRow, StoreExclusiveRow, AcquireReleaseRow}
use Rattle.instruction.specs.Table.{columns_of, in_set, row_of, undefined, unpredictable}
use Rattle.instruction.proofs.Rows.{row_has}
use Rattle.access.specs.Accesses.{family_access, word_access}
use Rattle.access.proofs.Rows.{row_access}
use Rattle.plan.specs.declared.window.Window.{Window}
use Rattle.plan.specs.Window.{bad_window}
use Rattle.plan.specs.declared.ranges.Reach.{Reach}
use Rattle.plan.specs.declared.ranges.Reach.TheVariants.{Alone}
use Rattle.plan.specs.Ranges.{admit_in}
use Rattle.machine.specs.Machine.{Machine}
use Rattle.machine.specs.Refusals.{bad}
use Rattle.machine.specs.Step.{Step, stopped, step_in, step_of}
use Rattle.machine.specs.route.Parts.{word_step, access_step}
use Rattle.machine.proofs.Answers.{step_in_lem}
use Rattle.machine.specs.Real.{Real}
use Rattle.arm.specs.Pages.{page_of}
use Rattle.arm.specs.Choices.{bad_start, arm_of, arm_step_in, arm_step}
use Rattle.arm.proofs.Conditions.{general, page_conditions}
use Rattle.arm.proofs.Steps.{Ready, Steps}
use Rattle.arm.proofs.Families.{unscaled_step, ordered_step, post_step, pre_step, unsigned_step, indexed_step, literal_step}
use Rattle.arm.proofs.Families.{vector_unscaled_step, vector_post_step, vector_pre_step, vector_unsigned_step, vector_indexed_step, vector_literal_step}
use Rattle.arm.proofs.Pairs.{pair_step, vector_pair_step}
use Rattle.arm.proofs.Exclusives.{load_exclusive_step, store_exclusive_step, acquire_release_step}

-- ---- the page of a word

module _ (w : Window) (m : Machine) (r : Ready w m) (word : ℕ) where
  abbrev Rows : Bool → Row → Type 0
  Rows vector l =
      Has word (columns_of l).fixed → (columns_of l).undefined word ≡ false → (columns_of l).unpredictable word ≡ false
      → word_access word ≡ family_access ((columns_of l).family word) → Steps w m (page_of vector l word) word ((page_of vector l word).operation word (arm_of w m))

  -- the pages of the ordered and the ninth family have no other of vector registers
  row_step : field 26 26 word ≡ 0 → (l : Row) → Rows false l
  row_step b NoRow h u v e = absurd (omega arith)
  row_step b LiteralRow h u v e = literal_step w m r word b e
  row_step b PairRow h u v e = pair_step w m r word b u v e
  row_step b OrderedRow h u v e = ordered_step w m r word b u e false
  row_step b UnscaledRow h u v e = unscaled_step w m r word b u e
  row_step b PostRow h u v e = post_step w m r word b u v e
  row_step b PreRow h u v e = pre_step w m r word b u v e
  row_step b RegisterRow h u v e = indexed_step w m r word b u e
  row_step b UnsignedRow h u v e = unsigned_step w m r word b u e
  row_step b LoadExclusiveRow h u v e = load_exclusive_step w m r word h e
  row_step b StoreExclusiveRow h u v e = store_exclusive_step w m r word e
  row_step b AcquireReleaseRow h u v e = acquire_release_step w m r word h.1.1.1.0 h.1.1.1.1.1.0 e

  vector_step : field 26 26 word ≡ 1 → (l : Row) → Rows true l
  vector_step b NoRow h u v e = absurd (omega arith)
  vector_step b LiteralRow h u v e = vector_literal_step w m r word b u e
  vector_step b PairRow h u v e = vector_pair_step w m r word b u e
  vector_step b OrderedRow h u v e = absurd (omega arith)
  vector_step b UnscaledRow h u v e = vector_unscaled_step w m r word b u e
  vector_step b PostRow h u v e = vector_post_step w m r word b u e
  vector_step b PreRow h u v e = vector_pre_step w m r word b u e
  vector_step b RegisterRow h u v e = vector_indexed_step w m r word b u e
  vector_step b UnsignedRow h u v e = vector_unsigned_step w m r word b u e
  vector_step b LoadExclusiveRow h u v e = absurd (omega arith)
  vector_step b StoreExclusiveRow h u v e = absurd (omega arith)
  vector_step b AcquireReleaseRow h u v e = absurd (omega arith)

  -- by bit 26
  kind_step : (vector : Bool) → eqb (field 26 26 word) 1 ≡ vector → (l : Row) → Rows vector l
  kind_step true e l = vector_step (eqb-true (field 26 26 word) 1 e) l
  kind_step false e l = row_step (general word e) l

  pub page_step : in_set word ≡ true → undefined word ≡ false → unpredictable word ≡ false
      → let page = page_of (eqb (field 26 26 word) 1) (row_of word) word in Steps w m page word (page.operation word (arm_of w m))
  unfolding undefined unpredictable
  page_step t u v = kind_step (eqb (field 26 26 word) 1) refl (row_of word) (row_has word t) u v (row_access word t u)

-- ---- answer 1

pub bad_is : (w : Window) (m : Machine) → bad w m ≡ bad_start w m
unfolding bad_window bad_start
bad_is w m =
    let len = length m.memory in
    go (ltb (2 ^ 64) (w.origin + len)) (ltb len w.readonly) (not (eqb (length m.taints.bytes) len)) (not (eqb (m.pc % 4) 0))
  where
    go : (a b c d : Bool) → pick a true (pick b true (pick c true d)) ≡ (a || b || c || d)
    go true b c d = refl
    go false true c d = refl
    go false false true d = refl
    go false false false d = refl

pub top_is : (w : Window) (m : Machine) → bad_start w m ≡ false → w.origin + length m.memory ≤ 2 ^ 64
unfolding bad_start
top_is w m h = ltb-false (2 ^ 64) (w.origin + length m.memory) (first _ _ _ _ h)
  where
    first : (a b c d : Bool) → (a || b || c || d) ≡ false → a ≡ false
    first a b c d h = (neither a b (neither (a || b) c (neither (a || b || c) d h).0).0).0

-- ---- answers 2 to 4

-- by the table's conditions and by the page's
pub after_class : (x y : Step Machine) (member : Bool) {wrong loose undefined unpredictable : Bool}
    → (member ≡ true → (wrong ≡ undefined) × (loose ≡ unpredictable)) → (member ≡ true → wrong ≡ false → loose ≡ false → x ≡ y)
    → pick (not member) (stopped NotInSet 0) (pick wrong (stopped Undefined 0) (pick loose (stopped Unpredictable 0) x))
    ≡ pick (not member) (stopped NotInSet 0) (pick undefined (stopped Undefined 0) (pick unpredictable (stopped Unpredictable 0) y))
after_class x y false e f = refl
after_class x y true {wrong} {loose} e f = rw (← (e refl).0, ← (e refl).1) (go wrong loose (f refl))
  where
    go : (wrong loose : Bool) → (wrong ≡ false → loose ≡ false → x ≡ y)
        → pick wrong (stopped Undefined 0) (pick loose (stopped Unpredictable 0) x) ≡ pick wrong (stopped Undefined 0) (pick loose (stopped Unpredictable 0) y)
    go true loose f = refl
    go false true f = refl
    go false false f = f refl refl

-- ---- the step

after_bad : (x y : Step Machine) (b : Bool) → (b ≡ false → x ≡ y) → pick b (stopped BadWindow 0) x ≡ pick b (stopped BadWindow 0) y
after_bad x y true f = refl
after_bad x y false f = f refl

-- whatever may be reached
pub step_in_as_arm : (w : Window) (reach : Reach) (word : ℕ) (m : Machine) → Real m → step_in w reach word m ≡ arm_step_in w reach word m
unfolding word_step access_step arm_step_in
step_in_as_arm w reach word m r =
    step_in_lem w reach word m
    ∙ ap (λ (b : Bool). pick b (stopped BadWindow 0) (word_step w.origin (admit_in w reach (length m.memory)) word m)) (bad_is w m)
    ∙ after_bad _ _ (bad_start w m)
    (λ e.
    let ready : Ready w m = record { real = r; top = top_is w m e } in
    after_class _ _ (in_set word) (page_conditions word) (λ t u v. (page_step w m ready word t u v).0 reach))

pub step_as_arm : (w : Window) (word : ℕ) (m : Machine) → Real m → step_of w word m ≡ arm_step w word m
step_as_arm w = step_in_as_arm w Alone
