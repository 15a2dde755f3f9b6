-- The step of one access is that of a page, from a record of what the two agree on (`Agreed`): the tests by cases, then the
-- effect. `hints_step` and `access_step_lem` are what the families use. Assumes nothing.
use Prim.Native.Nat.{ℕ, ◌+◌, ◌-◌, ◌/◌, ◌%◌, ◌^◌, ◌≤◌, ◌<◌}
use mathlib.Core.Path.{◌≡◌, refl, ap, subst, ◌∙◌}
use mathlib.Core.Bool.{Bool, true, false, ◌&&◌, ◌||◌, not}
use mathlib.Core.List.{List}
use native.Mathlib.Omega.{arith}
use lib.Dec.{ltb, leb, eqb}
use lib.ListN.{length, get_or}
use borrow.Author.Tests.{ltb-true, ltb-false, lt-ltb, le-ltb, leb-true, leb-false, eqb-true, eqb-false, not-false}
use Rattle.bits.specs.Choice.{pick}
use Rattle.bits.specs.Fields.{field}
use Rattle.bits.proofs.Choices.{both}
use Rattle.instruction.specs.declared.answer.Answer.TheVariants.{TaintedAddress, Misaligned, OutOfWindow}
use Rattle.access.specs.declared.transfer.Transfer.{Transfer}
use Rattle.access.specs.declared.addressing.Addressing.{Addressing}
use Rattle.access.specs.declared.Access.{Access}
use Rattle.access.specs.declared.Access.TheVariants.{Nothing, Moves}
use Rattle.access.specs.route.Bounds.{Bounded, Within, Moving}
use Rattle.access.proofs.Bounds.{bounded, moving}
use Rattle.vectors.specs.File.{vector_slot}
use Rattle.plan.specs.declared.window.Window.{Window}
use Rattle.plan.specs.Address.{sum_of, address_of}
use Rattle.plan.specs.declared.ranges.Range.{Range}
use Rattle.plan.specs.declared.ranges.Reach.{Reach}
use Rattle.plan.specs.declared.ranges.Reach.TheVariants.{Alone, Ranged}
use Rattle.plan.specs.Refusals.{Refusal, first_of}
use Rattle.plan.specs.Admission.{total_of, misaligned, unaligned, outside, guarded}
use Rattle.plan.specs.Ranges.{range, share, beyond, common, strays, admit_in}
use Rattle.plan.specs.route.Reaches.{reach_of}
use Rattle.plan.specs.Plans.{misaligned_stack}
use Rattle.plan.proofs.Tests.{same_test, admit_placed}
use Rattle.access.specs.Accesses.{word_access}
use Rattle.machine.specs.Monitor.{status_of, monitor_after, written_back, made_of}
use Rattle.machine.specs.Rule.{move_rule}
use Rattle.machine.specs.Machine.{Machine, operands_of, based_values, loaded_values, stored_bytes, effect_of, code_of}
use Rattle.machine.specs.Step.{shown, Step, stopped, moved}
use Rattle.machine.specs.route.Parts.{access_step}
use Rattle.arm.specs.Pseudocode.{Arm, Operation, hint, sp_fault, access}
use Rattle.arm.specs.Marks.{marks_of}
use Rattle.arm.specs.Pages.{Page}
use Rattle.arm.specs.Choices.{marked, misplaced, out_of, shut, lies_in, reach_refusals, page_refusals, after_page, page_moves}
use Rattle.machine.specs.Real.{Real}
use Rattle.arm.proofs.Places.{slot}

-- a machine that there is, in a window that answer 1 passes
pub record Ready (w : Window) (m : Machine) : Type 0 where
  pub real : Real m
  pub top : w.origin + length m.memory ≤ 2 ^ 64

-- the most bytes that an access touches: a pair of vector registers
abbrev pub most_bytes : ℕ
most_bytes = 32

-- an access in a window, none of whose addresses wraps
pub record Inside (w : Window) (address size : ℕ) : Type 0 where
  pub from : w.origin ≤ address
  pub upto : address + size ≤ 2 ^ 64

-- ---- the tests

not_le : (a b : ℕ) → ltb a b ≡ not (leb b a)
not_le a b = go (leb b a) refl
  where
    go : (t : Bool) → leb b a ≡ t → ltb a b ≡ not t
    go true e = le-ltb a b (leb-true b a e)
    go false e = lt-ltb a b (leb-false b a e)

out_is : (w : Window) (m : Machine) (address size : ℕ) → outside size address w.origin (length m.memory) ≡ out_of w m address size
unfolding outside
out_is w m address size =
    rw (not_le address w.origin, not_le (w.origin + length m.memory) (address + size))
    (go (leb w.origin address) (leb (address + size) (w.origin + length m.memory)))
  where
    go : (p q : Bool) → pick (not p) true (not q) ≡ not (p && q)
    go true q = refl
    go false q = refl

inside : (w : Window) (m : Machine) (address size : ℕ) → w.origin + length m.memory ≤ 2 ^ 64 → out_of w m address size ≡ false → Inside w address size
inside w m address size top o =
    let p = both (leb w.origin address) (leb (address + size) (w.origin + length m.memory)) (not-false _ o) in
    record {
      from = leb-true w.origin address p.0;
      upto = omega (arith, leb-true (address + size) (w.origin + length m.memory) p.1);
    }

guard_is : (w : Window) (store : Bool) (address : ℕ) → w.origin ≤ address → guarded store address w ≡ shut w store address
unfolding guarded
guard_is w false address h = refl
guard_is w true address h = same_test address (w.origin + w.readonly) (address - w.origin) w.readonly (λ k. omega arith) (λ k. omega arith)

-- ---- 8 and 12

lies_is : (r : Range) (address size : ℕ) → beyond size address r ≡ not (lies_in r address size)
unfolding outside
lies_is r address size =
    rw (not_le address r.address, not_le (r.address + r.length) (address + size))
    (go (leb r.address address) (leb (address + size) (r.address + r.length)))
  where
    go : (p q : Bool) → pick (not p) true (not q) ≡ not (p && q)
    go true q = refl
    go false q = refl

stray_is : (store own shared : Bool) → (not own && (store || not shared)) ≡ not (own || (not store && shared))
stray_is true true shared = refl
stray_is true false shared = refl
stray_is false true shared = refl
stray_is false false shared = refl

common_is : (store shared : Bool) → pick store shared false ≡ (store && shared)
common_is true shared = refl
common_is false shared = refl

-- what an access inside the window comes to, by what refuses it there
abbrev barred : Window → Reach → Bool → ℕ → ℕ → Step Machine → Step Machine
barred w reach store address size s = first_of stopped s (reach_refusals w reach store address size)

barred_is : (w : Window) (reach : Reach) (store : Bool) (address size : ℕ) → w.origin ≤ address → (s : Step Machine) → first_of stopped s (reach_of w reach store size address) ≡ barred w reach store address size s
unfolding common strays
barred_is w Alone store address size h s = rw (guard_is w store address h)
barred_is w (Ranged r) store address size h s =
    rw (lies_is r.own address size, lies_is r.shared address size, stray_is store (lies_in r.own address size) (lies_in r.shared address size), common_is store (share (range address size) r.shared))

pub same_block : (a n : ℕ) → 0 < n → n ≤ most_bytes → ltb 16 (a % 16 + n) ≡ not (eqb (a / 16) ((a + n - 1) / 16))
same_block a n h k = go (ltb 16 (a % 16 + n)) refl (eqb (a / 16) ((a + n - 1) / 16)) refl
  where
    go : (t : Bool) → ltb 16 (a % 16 + n) ≡ t → (b : Bool) → eqb (a / 16) ((a + n - 1) / 16) ≡ b → t ≡ not b
    go true e true f = absurd (omega (arith, ltb-true 16 (a % 16 + n) e, eqb-true (a / 16) ((a + n - 1) / 16) f))
    go true e false f = refl
    go false e true f = refl
    go false e false f = absurd (eqb-false (a / 16) ((a + n - 1) / 16) f (omega (arith, ltb-false 16 (a % 16 + n) e)))

-- ---- the plan

-- the tests of an access before what it comes to
abbrev tested : Bool → Bool → Bool → Bool → (Step Machine → Step Machine) → ℕ → ℕ → ℕ → ℕ → Machine → Step Machine
tested tainted stray across out fence sp x code status n =
    pick tainted (stopped TaintedAddress 0)
    (pick stray (stopped Misaligned sp)
    (pick across (stopped Misaligned x)
    (pick out (stopped OutOfWindow x)
    (fence (moved n (shown code x status))))))

-- the machine has two tests for 6, of which the first that holds is as good as the other
twice : (across skew : Bool) (x : ℕ) (s : Step Machine) → pick across (stopped Misaligned x) (pick skew (stopped Misaligned x) s) ≡ pick (across || skew) (stopped Misaligned x) s
twice true skew x s = refl
twice false skew x s = refl

planned : (b sp x code status : ℕ) (m n : Machine) (tainted stray across out : Bool) (fence gate : Step Machine → Step Machine) → (stray ≡ true → b ≡ sp) → (out ≡ false → (s : Step Machine) → fence s ≡ gate s) → (out ≡ false → m ≡ n)
    → tested tainted stray across out fence b x code status m ≡ tested tainted stray across out gate sp x code status n
planned b sp x code status m n true stray across out fence gate p g f = refl
planned b sp x code status m n false true across out fence gate p g f = rw (p refl)
planned b sp x code status m n false false true out fence gate p g f = refl
planned b sp x code status m n false false false true fence gate p g f = refl
planned b sp x code status m n false false false false fence gate p g f = g refl (moved m (shown code x status)) ∙ ap (λ (k : Machine). gate (moved k (shown code x status))) (f refl)

same_plan : (F : Bool → Bool → Bool → Bool → ℕ → Step Machine) {p p' q q' r r' s s' : Bool} {x x' : ℕ} → p ≡ p' → q ≡ q' → r ≡ r' → s ≡ s' → x ≡ x'
    → F p q r s x ≡ F p' q' r' s' x'
same_plan F e f g k h = rw (e, f, g, k, h)

-- the access that a page makes, as the machine has it: so many bytes of Rt, of a pair half of them
pub record Moved (l : Page) (word : ℕ) (store : Bool) (size : ℕ) : Type 0 where
  pub transfer : Transfer
  pub addressing : Addressing
  pub access : word_access word ≡ Moves transfer addressing
  pub stores : transfer.store ≡ store
  pub target : transfer.target ≡ slot l.vector (field 4 0 word)
  pub each : transfer.bytes ≡ pick l.paired (size / 2) size
  pub total : total_of transfer ≡ size
  pub some : 0 < size
  pub few : size < 64

abbrev pub Made : Page → ℕ → Operation → Type 0
Made l word hint = Unit {0}
Made l word (sp_fault sp) = Unit {0}
Made l word (access store address size status s) = Moved l word store size

-- the step of a word is that of its page, whatever may be reached
abbrev pub Steps : Window → Machine → Page → ℕ → Operation → Type 0
Steps w m l word o =
    ((reach : Reach) → access_step w.origin (admit_in w reach (length m.memory)) (word_access word) m ≡ first_of stopped (page_moves w word m l o) (page_refusals w reach word m l o))
    × Made l word o

pub hints_step : (w : Window) (m : Machine) (l : Page) (word : ℕ) → word_access word ≡ Nothing → Steps w m l word hint
unfolding access_step
hints_step w m l word e = ((λ reach. rw e), tt)

-- what a page comes to whose stack pointer is not aligned, or is
abbrev pub faulty : Machine → Bool → Operation → Operation
faulty m stray o = pick stray (sp_fault (get_or m.values 31 0)) o

-- what an access and a page agree on
pub record Agreed (w : Window) (m : Machine) (l : Page) (word : ℕ) (t : Transfer) (a : Addressing) (stray : Bool) (address size status : ℕ) (after : Arm) : Type 0 where
  pub access : word_access word ≡ Moves t a
  pub target : t.target ≡ slot l.vector (field 4 0 word)
  pub each : t.bytes ≡ pick l.paired (size / 2) size
  pub total : total_of t ≡ size
  pub mark : (operands_of a m).tainted ≡ marked l word m
  pub stack : misaligned_stack a.base (operands_of a m).base ≡ stray
  pub pointer : stray ≡ true → (operands_of a m).base ≡ get_or m.values 31 0
  pub first : address_of a (operands_of a m) ≡ address
  pub block : (misaligned t.ordered size address || unaligned t.exclusive size address) ≡ misplaced l.alignment address size
  pub told : status_of t address m.monitor ≡ status
  pub registers : Inside w address size
      → let based = based_values a.written (written_back t status (sum_of a (operands_of a m))) m.values in
      pick t.store based (loaded_values (made_of t status) (address - w.origin) based m.memory) ≡ after.registers
  pub marks : Inside w address size
      → move_rule (made_of t status) a.written (address - w.origin) m.taints
      ≡ marks_of l t.store status w.origin word address size m.taints
  pub memory : Inside w address size → pick t.store (stored_bytes (made_of t status) (address - w.origin) m.values m.memory) m.memory ≡ after.memory
  pub monitor : monitor_after t address m.monitor ≡ after.monitor

module _ (w : Window) (m : Machine) (top : w.origin + length m.memory ≤ 2 ^ 64) (l : Page) (word : ℕ) (t : Transfer) (a : Addressing) (stray : Bool)
    (address size status : ℕ) (after : Arm) (g : Agreed w m l word t a stray address size status after) where
  abbrev o : Bool
  o = out_of w m address size

  abbrev left : Machine
  left = after_page w word m l t.store address size status after

  -- what the machine leaves of an access at x with a status
  abbrev made : ℕ → ℕ → Machine
  made x status =
      effect_of (made_of t status) a.written (x - w.origin) (written_back t status (sum_of a (operands_of a m))) (monitor_after t x m.monitor) m

  effect : o ≡ false → made address status ≡ left
  unfolding effect_of
  effect e =
      let h = inside w m address size top e in
      rw (g.registers h, g.memory h, g.marks h, g.monitor)

  -- what refuses an access of k bytes at x inside the window
  abbrev fence : Reach → ℕ → ℕ → Step Machine → Step Machine
  fence reach k x s = first_of stopped s (reach_of w reach t.store k x)

  gate : (reach : Reach) → o ≡ false → (s : Step Machine) → fence reach size address s ≡ barred w reach t.store address size s
  gate reach e = barred_is w reach t.store address size (inside w m address size top e).from

  -- the tests of the plan, each at the page's address and bytes
  abbrev displaced : ℕ → ℕ → Bool
  displaced k x = misaligned t.ordered k x || unaligned t.exclusive k x

  across : displaced (total_of t) (address_of a (operands_of a m)) ≡ misplaced l.alignment address size
  across = ap (displaced (total_of t)) g.first ∙ ap (λ (k : ℕ). displaced k address) g.total ∙ g.block

  out : outside (total_of t) (address_of a (operands_of a m)) w.origin (length m.memory) ≡ o
  out =
      ap (λ (x : ℕ). outside (total_of t) x w.origin (length m.memory)) g.first
      ∙ ap (λ (k : ℕ). outside k address w.origin (length m.memory)) g.total
      ∙ out_is w m address size

  step : (reach : Reach) → access_step w.origin (admit_in w reach (length m.memory)) (word_access word) m
      ≡ tested (marked l word m) stray (misplaced l.alignment address size) o (barred w reach t.store address size) (get_or m.values 31 0) address (code_of t) status left
  unfolding access_step
  step reach =
      let x = address_of a (operands_of a m) in
      let base = (operands_of a m).base in
      ap (λ x. access_step w.origin (admit_in w reach (length m.memory)) x m) g.access
      ∙ ap (λ (es : List Refusal). pick (operands_of a m).tainted (stopped TaintedAddress 0) (pick (misaligned_stack a.base base) (stopped Misaligned base) (first_of stopped (moved (made x (status_of t x m.monitor)) (shown (code_of t) x (status_of t x m.monitor))) es)))
      (admit_placed w reach (length m.memory) t x)
      ∙ ap (λ (s : Step Machine). pick (operands_of a m).tainted (stopped TaintedAddress 0) (pick (misaligned_stack a.base base) (stopped Misaligned base) s))
      (twice (misaligned t.ordered (total_of t) x) (unaligned t.exclusive (total_of t) x) x _)
      ∙ same_plan (λ tainted stray across out x. tested tainted stray across out (fence reach (total_of t) x) base x (code_of t) (status_of t x m.monitor) (made x (status_of t x m.monitor))) g.mark g.stack across out g.first
      ∙ ap (λ (k : ℕ). tested (marked l word m) stray (misplaced l.alignment address size) o (fence reach k address) base address (code_of t) (status_of t address m.monitor) (made address (status_of t address m.monitor))) g.total
      ∙ ap (λ (status : ℕ). tested (marked l word m) stray (misplaced l.alignment address size) o (fence reach size address) base address (code_of t) status (made address status)) g.told
      ∙ planned base (get_or m.values 31 0) address (code_of t) status (made address status) left (marked l word m) stray
      (misplaced l.alignment address size) o (fence reach size address) (barred w reach t.store address size) g.pointer (gate reach) effect

  narrow : Bounded t → (z : Bool) → vector_slot t.target ≡ z → t.extent ≤ 16
  narrow b true e = (b.vector e).extent
  narrow b false e = omega (arith, (b.general e).0)

  few : (x : Access) → x ≡ Moves t a → Within x → Moving x → (0 < total_of t) × (total_of t < 64)
  few x e within moving =
      let b = (subst Within e within).0 in
      let some = (subst Moving e moving).0 in
      let top = narrow b (vector_slot t.target) refl in
      (omega (arith, some), omega (arith, b.wide, b.wider, top))

  moved_by : (store : Bool) → t.store ≡ store → Moved l word store size
  moved_by store e =
      let (some, most) = few (word_access word) g.access (bounded word) (moving word) in
      record {
        transfer = t;
        addressing = a;
        access = g.access;
        stores = e;
        target = g.target;
        each = g.each;
        total = g.total;
        some = rw g.total at some;
        few = rw g.total at most;
      }

  -- with the test of the stack pointer, and what the page then does
  paged : (b store : Bool) → t.store ≡ store → stray ≡ b → Steps w m l word (faulty m b (access store address size status after))
  paged true store e f = ((λ reach. rw (g.total, e, f) at (step reach)), tt)
  paged false store e f = ((λ reach. rw (g.total, e, f) at (step reach)), moved_by store e)

  pub access_step_lem : (store : Bool) → t.store ≡ store → Steps w m l word (faulty m stray (access store address size status after))
  access_step_lem store e = paged stray store e refl
