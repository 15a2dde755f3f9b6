-- What Arm's step answers, from the list of its refusals alone: the first that holds (`answers_in`), so that what is refused
-- changes nothing, a marked address is 5 and a misaligned SP 6. Assumes nothing.
use Prim.Native.Nat.{ℕ, ◌%◌}
use mathlib.Core.Path.{◌≡◌, refl, sym, ap, ◌∙◌}
use mathlib.Core.Bool.{Bool, true, false}
use mathlib.Core.List.{List, [], ◌∷◌, ◌++◌}
use mathlib.Core.Logic.{◌↔◌, inl, inr}
use native.Mathlib.Decide.{ℕ_discrete}
use native.Mathlib.Omega.{arith}
use lib.Dec.{eqb}
use lib.ListN.{get_or}
use Rattle.bits.specs.Choice.{pick}
use Rattle.bits.specs.Fields.{field}
use Rattle.instruction.specs.declared.answer.Answer.{Answer}
use Rattle.instruction.specs.declared.answer.Answer.TheVariants.{Done, BadWindow, TaintedAddress, Misaligned}
use Rattle.instruction.specs.Answers.{answer_number}
use Rattle.instruction.specs.Table.{in_set, row_of}
use Rattle.plan.specs.declared.window.Window.{Window}
use Rattle.plan.specs.declared.ranges.Reach.{Reach}
use Rattle.plan.specs.declared.ranges.Reach.TheVariants.{Alone, Ranged}
use Rattle.plan.specs.Refusals.{Refusal, first_of, answer_in, Given}
use Rattle.plan.proofs.Refusals.{Passed, Each, each_map, first_by, first_map, none_holds, given, by_answer}
use Rattle.machine.specs.Machine.{Machine}
use Rattle.machine.specs.Refusals.{class_refusals}
use Rattle.machine.specs.Step.{Step, stopped, moved, performed}
use Rattle.machine.proofs.Answers.{Refuses, Numbered, Later, Late}
use Rattle.arm.specs.Pseudocode.{Operation, hint, sp_fault, access}
use Rattle.arm.specs.Pages.{Page}
use Rattle.arm.specs.Choices.{bad_start, marked, reach_refusals, page_refusals, page_moves, arm_of, word_page, operation_of, arm_refusals_in, arm_step_in}
use Rattle.arm.proofs.Conditions.{page_conditions}
use Rattle.arm.proofs.Arm.{after_class}
use Rattle.arm.proofs.Stack.{Faults, page_faults}

-- ---- the first that holds

page_moves_lem : (w : Window) (word : ℕ) (m : Machine) (page : Page) (o : Operation) → (performed m (page_moves w word m page o)).answer ≡ Done
page_moves_lem w word m page hint = refl
page_moves_lem w word m page (sp_fault sp) = refl
page_moves_lem w word m page (access store address size status s) = refl

-- a step answers by the first of its refusals that holds, and 0 where none does
pub answers_in : (w : Window) (reach : Reach) (word : ℕ) (m : Machine) → (performed m (arm_step_in w reach word m)).answer ≡ answer_in (arm_refusals_in w reach word m)
unfolding arm_step_in
answers_in w reach word m =
    let done = page_moves w word m (word_page word) (operation_of w word m) in
    first_map (λ (s : Step Machine). (performed m s).answer) stopped done (arm_refusals_in w reach word m)
    ∙ ap (λ (d : Answer). first_of (λ answer address. answer) d (arm_refusals_in w reach word m)) (page_moves_lem w word m (word_page word) (operation_of w word m))

-- a number other than 0 is answered exactly if its test holds and none before it
pub given_in : (w : Window) (reach : Reach) (word : ℕ) (m : Machine) (n : ℕ) → ¬ (n ≡ 0) → (answer_number (performed m (arm_step_in w reach word m)).answer ≡ n) ↔ Given n (arm_refusals_in w reach word m)
given_in w reach word m n z = rw (answers_in w reach word m) (given n z (arm_refusals_in w reach word m))

-- ---- the numbers that are answered

-- all behind the first
abbrev pub later_refusals : Window → Reach → ℕ → Machine → List Refusal
later_refusals w reach word m = class_refusals word ++ page_refusals w reach word m (word_page word) (operation_of w word m)

module _ (P : ℕ → Type 0) (two : P 2) (three : P 3) (four : P 4) (five : P 5) (six : P 6) (seven : P 7) (reach : Reach) (further : (w : Window) (store : Bool) (address size : ℕ) → Each (Numbered P) (reach_refusals w reach store address size)) where
  page_numbers : (w : Window) (word : ℕ) (m : Machine) (page : Page) (o : Operation) → Each (Numbered P) (page_refusals w reach word m page o)
  page_numbers w word m page hint = tt
  page_numbers w word m page (sp_fault sp) = (five, (six, tt))
  page_numbers w word m page (access store address size status s) = (five, (six, (seven, further w store address size)))

  numbers_in : (w : Window) (word : ℕ) (m : Machine) → Each (Numbered P) (later_refusals w reach word m)
  numbers_in w word m = (two, (three, (four, page_numbers w word m (word_page word) (operation_of w word m))))

-- those of a plugin alone have the numbers 2 to 8
alone_later : (w : Window) (store : Bool) (address size : ℕ) → Each (Numbered Later) (reach_refusals w Alone store address size)
alone_later w store address size = ((omega arith, omega arith), tt)

pub numbers_later : (w : Window) (word : ℕ) (m : Machine) → Each (Numbered Later) (later_refusals w Alone word m)
numbers_later = numbers_in Later (omega arith, omega arith) (omega arith, omega arith) (omega arith, omega arith) (omega arith, omega arith) (omega arith, omega arith) (omega arith, omega arith) Alone alone_later

-- and by what may be reached, 12 too
reach_late : (reach : Reach) (w : Window) (store : Bool) (address size : ℕ) → Each (Numbered Late) (reach_refusals w reach store address size)
reach_late Alone w store address size = (inl (omega arith, omega arith), tt)
reach_late (Ranged r) w store address size = (inl (omega arith, omega arith), (inr refl, tt))

pub numbers_late : (w : Window) (reach : Reach) (word : ℕ) (m : Machine) → Each (Numbered Late) (later_refusals w reach word m)
numbers_late w reach = numbers_in Late (inl (omega arith, omega arith)) (inl (omega arith, omega arith)) (inl (omega arith, omega arith)) (inl (omega arith, omega arith)) (inl (omega arith, omega arith)) (inl (omega arith, omega arith)) reach (reach_late reach) w

not_zero : (n : ℕ) → Late n → ¬ (n ≡ 0)
not_zero n (inl l) h = omega (arith, l.0)
not_zero n (inr e) h = omega arith

all_refuse : (w : Window) (reach : Reach) (word : ℕ) (m : Machine) → Each (λ e. ¬ (answer_number e.answer ≡ 0)) (arm_refusals_in w reach word m)
all_refuse w reach word m = (
  (λ h. omega arith),
  each_map {P = Numbered Late} {Q = λ e. ¬ (answer_number e.answer ≡ 0)} (λ e late. not_zero (answer_number e.answer) late) (later_refusals w reach word m) (numbers_late w reach word m),
)

pub refuses_in : (w : Window) (reach : Reach) (word : ℕ) (m : Machine) → Refuses (arm_step_in w reach word m)
unfolding arm_step_in
refuses_in w reach word m =
    first_by Refuses stopped (page_moves w word m (word_page word) (operation_of w word m)) (arm_refusals_in w reach word m) (all_refuse w reach word m) (λ p. moves (word_page word) (operation_of w word m))
  where
    moves : (page : Page) (o : Operation) → Refuses (page_moves w word m page o)
    moves page hint = tt
    moves page (sp_fault sp) = tt
    moves page (access store address size status s) = tt

-- a step that is done passes all
pub passes : (w : Window) (reach : Reach) (word : ℕ) (m : Machine) → answer_number (performed m (arm_step_in w reach word m)).answer ≡ 0 → Passed (arm_refusals_in w reach word m)
passes w reach word m h = none_holds (arm_refusals_in w reach word m) (all_refuse w reach word m) (sym (ap answer_number (answers_in w reach word m)) ∙ h)

-- and does what its page does
passed_first : {A : Type 0} (refuse : Answer → ℕ → A) (done : A) (es : List Refusal) → Passed es → first_of refuse done es ≡ done
passed_first refuse done [] p = refl
passed_first refuse done (e ∷ es) p = rw p.0 (passed_first refuse done es p.1)

pub done_by_page : (w : Window) (reach : Reach) (word : ℕ) (m : Machine) → answer_number (performed m (arm_step_in w reach word m)).answer ≡ 0 → arm_step_in w reach word m ≡ page_moves w word m (word_page word) (operation_of w word m)
unfolding arm_step_in
done_by_page w reach word m h = passed_first stopped (page_moves w word m (word_page word) (operation_of w word m)) (arm_refusals_in w reach word m) (passes w reach word m h)

-- one that is refused changes no register, byte, mark or program counter, and keeps the monitor
pub refused_unchanged : (m : Machine) (s : Step Machine) → ¬ (answer_number (performed m s).answer ≡ 0) → (performed m s).machine ≡ m
refused_unchanged m (stopped answer address) h = refl
refused_unchanged m (moved n shown) h = absurd (h refl)

-- ---- 1 to 4, and then the page

-- 2, 3 and 4 report address 0
pub class_first : (w : Window) (reach : Reach) (word : ℕ) (m : Machine) → let class = answer_in (class_refusals word) in
    arm_step_in w reach word m
    ≡ pick (bad_start w m) (stopped BadWindow 0)
    (pick (eqb (answer_number class) 0) (first_of stopped (page_moves w word m (word_page word) (operation_of w word m)) (page_refusals w reach word m (word_page word) (operation_of w word m))) (stopped class 0))
unfolding arm_step_in
class_first w reach word m =
    let page = first_of stopped (page_moves w word m (word_page word) (operation_of w word m)) (page_refusals w reach word m (word_page word) (operation_of w word m)) in
    ap (pick (bad_start w m) (stopped BadWindow 0))
    (sym (after_class page page (in_set word) (page_conditions word) (λ t u v. refl))
    ∙ by_answer stopped page 0 (class_refusals word) ((refl, (λ h. omega arith)), ((refl, (λ h. omega arith)), ((refl, (λ h. omega arith)), tt))))

-- a base or an index with a marked byte is never used for an access; a lower answer comes first
page_marked : (w : Window) (reach : Reach) (word : ℕ) (m : Machine) (page : Page) (o : Operation) → ¬ (o ≡ hint) → marked page word m ≡ true
    → first_of stopped (page_moves w word m page o) (page_refusals w reach word m page o) ≡ stopped TaintedAddress 0
page_marked w reach word m page hint n e = absurd (n refl)
page_marked w reach word m page (sp_fault sp) n e = rw e
page_marked w reach word m page (access store address size status s) n e = rw e

pub marked_refused : (w : Window) (reach : Reach) (word : ℕ) (m : Machine) → ¬ (operation_of w word m ≡ hint) → marked (word_page word) word m ≡ true → let class = answer_in (class_refusals word) in
    arm_step_in w reach word m ≡ pick (bad_start w m) (stopped BadWindow 0) (pick (eqb (answer_number class) 0) (stopped TaintedAddress 0) (stopped class 0))
marked_refused w reach word m n e =
    class_first w reach word m
    ∙ ap (λ (s : Step Machine). pick (bad_start w m) (stopped BadWindow 0) (pick (eqb (answer_number (answer_in (class_refusals word))) 0) s (stopped (answer_in (class_refusals word)) 0)))
    (page_marked w reach word m (word_page word) (operation_of w word m) n e)

-- ---- the stack pointer (02, CR 1)

-- a page that makes no access, and doesn't hint, is SP's fault
page_stack : (w : Window) (reach : Reach) (word : ℕ) (m : Machine) (page : Page) (o : Operation) → Faults (arm_of w m) o → ¬ (o ≡ hint) → marked page word m ≡ false
    → first_of stopped (page_moves w word m page o) (page_refusals w reach word m page o) ≡ stopped Misaligned (get_or m.values 31 0)
page_stack w reach word m page hint f n e = absurd (n refl)
page_stack w reach word m page (sp_fault sp) f n e = rw e (ap (stopped Misaligned) f)
page_stack w reach word m page (access store address size status s) f n e = absurd f

module _ (w : Window) (reach : Reach) (word : ℕ) (m : Machine) (acts : ¬ (operation_of w word m ≡ hint)) (based : (word_page word).based ≡ true) (stack : field 9 5 word ≡ 31) where
  faults : ¬ (get_or m.values 31 0 % 16 ≡ 0) → Faults (arm_of w m) (operation_of w word m)
  faults h = page_faults (arm_of w m) word stack h (eqb (field 26 26 word) 1) (row_of word) based

  -- an access by SP that 1 to 5 don't refuse is refused with 6 and SP's own value where that is no multiple of 16
  pub stack_refused : bad_start w m ≡ false → answer_number (answer_in (class_refusals word)) ≡ 0 → marked (word_page word) word m ≡ false → ¬ (get_or m.values 31 0 % 16 ≡ 0)
      → arm_step_in w reach word m ≡ stopped Misaligned (get_or m.values 31 0)
  stack_refused b c u h = rw (class_first w reach word m, b, c) (page_stack w reach word m (word_page word) (operation_of w word m) (faults h) acts u)

  no_fault : (o : Operation) → Faults (arm_of w m) o → ¬ (o ≡ hint) → ¬ Passed (page_refusals w reach word m (word_page word) o)
  no_fault hint f n p = n refl
  no_fault (sp_fault sp) f n p = let z : ◌≡◌ {A = ℕ} 0 1 = cc in omega arith
  no_fault (access store address size status s) f n p = f

  -- and one that is done has an SP that is a multiple of 16
  pub stack_aligned : answer_number (performed m (arm_step_in w reach word m)).answer ≡ 0 → get_or m.values 31 0 % 16 ≡ 0
  stack_aligned h = by (ℕ_discrete (get_or m.values 31 0 % 16) 0)
    where
      by : Dec (get_or m.values 31 0 % 16 ≡ 0) → get_or m.values 31 0 % 16 ≡ 0
      by (yes e) = e
      by (no n) = absurd (no_fault (operation_of w word m) (faults n) acts (passes w reach word m h).1.1.1.1)
