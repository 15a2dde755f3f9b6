-- The marks after Arm's step are those of the mark rule for its word and what it shows, and those at the end of a run the rule's over
-- the steps done: a code of 64 or more tells a store, and what is left of it the bytes (`Made`). Assumes nothing.
use Prim.Native.Nat.{ℕ, ◌+◌, ◌%◌, ◌<◌}
use mathlib.Core.Path.{◌≡◌, refl, subst, ◌∙◌}
use mathlib.Core.Bool.{Bool, true, false}
use mathlib.Core.List.{List}
use native.Mathlib.Omega.{arith}
use borrow.Author.Tests.{ne_eqb, le-leb, lt-leb, not-false}
use lib.Dec.{eqb, leb}
use Rattle.bits.specs.Choice.{pick}
use Rattle.instruction.specs.Table.{in_set}
use Rattle.plan.specs.declared.window.Window.{Window}
use Rattle.plan.specs.declared.ranges.Ranges.{Ranges}
use Rattle.plan.specs.declared.ranges.Reach.{Reach}
use Rattle.plan.specs.declared.ranges.Reach.TheVariants.{Alone, Ranged}
use Rattle.plan.proofs.Refusals.{Passed, each, first_by}
use Rattle.machine.specs.Machine.{Machine}
use Rattle.machine.specs.Real.{Real}
use Rattle.machine.specs.Step.{Step, stopped, moved}
use Rattle.machine.proofs.Reals.{RealStep, real_in}
use Rattle.machine.proofs.Taints.{Follows, taints_in}
use Rattle.execution.specs.Walk.{Log, after_steps}
use Rattle.execution.specs.Run.{plain_window}
use Rattle.execution.proofs.Walks.{Leaves, run_rule_in}
use Rattle.arm.specs.Pseudocode.{Operation, hint, sp_fault, access}
use Rattle.arm.specs.Choices.{bad_start, word_page, operation_of, page_moves, arm_refusals_in, arm_step_in, arm_run, bad_turn_start, arm_turn_step, arm_turn, mark_rule}
use Rattle.arm.proofs.Steps.{Made}
use Rattle.arm.proofs.Conditions.{page_conditions}
use Rattle.arm.proofs.Arm.{top_is, page_step, step_in_as_arm}

-- ---- a code

-- "plus 64 for a store": it tells a store, and what is left of it are the bytes
pub code_stores : (store : Bool) (size : ℕ) → size < 64 → leb 64 (size + pick store 64 0) ≡ store
code_stores true size h = le-leb 64 (size + 64) (omega arith)
code_stores false size h = lt-leb 64 (size + 0) (omega arith)

pub code_bytes : (store : Bool) (size : ℕ) → size < 64 → (size + pick store 64 0) % 64 ≡ size
code_bytes true size h = omega arith
code_bytes false size h = omega arith

code_some : (store : Bool) (size : ℕ) → 0 < size → eqb (size + pick store 64 0) 0 ≡ false
code_some true size h = ne_eqb (size + 64) 0 (λ e. omega arith)
code_some false size h = ne_eqb (size + 0) 0 (λ e. omega arith)

-- ---- a step

page_follows : (w : Window) (word : ℕ) (m : Machine) (o : Operation) → Made (word_page word) word o → Follows taints_in (mark_rule w.origin word) m (page_moves w word m (word_page word) o)
unfolding mark_rule
page_follows w word m hint made = refl
page_follows w word m (sp_fault sp) made = refl
page_follows w word m (access store address size status s) made = rw (code_some store size made.some, code_stores store size made.few, code_bytes store size made.few)

-- what is not refused has a page that makes an access of the machine
pub page_made : (w : Window) (reach : Reach) (word : ℕ) (m : Machine) → Real m → Passed (arm_refusals_in w reach word m) → Made (word_page word) word (operation_of w word m)
page_made w reach word m r (window, (member, (wrong, (loose, rest)))) =
    let t = not-false (in_set word) member in
    let conditions = page_conditions word t in
    (page_step w m (record { real = r; top = top_is w m window }) word t (conditions.0 ∙ wrong) (conditions.1 ∙ loose)).1

pub marks_in : (w : Window) (reach : Reach) (word : ℕ) (m : Machine) → Real m → Follows taints_in (mark_rule w.origin word) m (arm_step_in w reach word m)
unfolding arm_step_in
marks_in w reach word m r =
    first_by (Follows taints_in (mark_rule w.origin word) m) stopped (page_moves w word m (word_page word) (operation_of w word m)) (arm_refusals_in w reach word m) (each (λ e. tt) (arm_refusals_in w reach word m))
    (λ p. page_follows w word m (operation_of w word m) (page_made w reach word m r p))

-- ---- a run

-- a step leaves a machine that there is
pub real_step : (w : Window) (reach : Reach) (word : ℕ) (m : Machine) → Real m → Leaves Real (arm_step_in w reach word m)
real_step w reach word m r = leaves (arm_step_in w reach word m) (subst RealStep (step_in_as_arm w reach word m r) (real_in m r w reach word))
  where
    leaves : (s : Step Machine) → RealStep s → Leaves Real s
    leaves (stopped answer address) h = tt
    leaves (moved n shown) h = h

pub marks_of_run : (w : Window) (words : List ℕ) (m : Machine) (l : Log) → Real m
    → (arm_run w words m l).machine.taints ≡ after_steps (mark_rule w.origin) words (arm_run w words m l).log (arm_run w words m l).steps m.taints
marks_of_run w words m l r = run_rule_in Real taints_in (mark_rule w.origin) (arm_step_in w Alone) (real_step w Alone) (marks_in w Alone) (bad_start w) words m l r

pub marks_of_turn : (origin : ℕ) (r : Ranges) (words : List ℕ) (m : Machine) (l : Log) → Real m
    → (arm_turn origin r words m l).machine.taints ≡ after_steps (mark_rule origin) words (arm_turn origin r words m l).log (arm_turn origin r words m l).steps m.taints
marks_of_turn origin r words m l h = run_rule_in Real taints_in (mark_rule origin) (arm_turn_step origin r) (real_step (plain_window origin) (Ranged r)) (marks_in (plain_window origin) (Ranged r)) (bad_turn_start origin r) words m l h
