-- A run is the run of Arm's steps, from a machine that there is: each step leaves one (`real_in`). What is known of the one is then
-- known of the other. Assumes nothing.
use Prim.Native.Nat.{ℕ}
use mathlib.Core.Path.{◌≡◌, refl, ap, subst, ◌∙◌}
use mathlib.Core.Bool.{false}
use mathlib.Core.List.{List, [], ◌∷◌}
use Rattle.instruction.specs.Answers.{answer_number}
use Rattle.plan.specs.declared.window.Window.{Window}
use Rattle.plan.specs.declared.ranges.Ranges.{Ranges}
use Rattle.plan.specs.declared.ranges.Reach.{Reach}
use Rattle.plan.specs.declared.ranges.Reach.TheVariants.{Alone, Ranged}
use Rattle.machine.specs.Machine.{Machine}
use Rattle.machine.specs.declared.Shown.{Shown}
use Rattle.machine.specs.Step.{shown, Step, stopped, moved, step_in}
use Rattle.execution.specs.Walk.{ahead, go_on, walk_of, Log, Result, not_begun, short, run_of}
use Rattle.execution.specs.Ends.{Early}
use Rattle.execution.specs.Run.{machine_run, plain_window, turn_of}
use Rattle.execution.proofs.Refusals.{begun_late, early_unchanged}
use Rattle.machine.specs.Real.{Real}
use Rattle.arm.specs.Choices.{bad_start, arm_step_in, arm_run, arm_turn}
use Rattle.arm.proofs.Arm.{bad_is, step_in_as_arm}
use Rattle.machine.proofs.Reals.{RealStep, real_in}

pub walk_as_arm : (w : Window) (reach : Reach) (words : List ℕ) (m : Machine) → Real m → (last : Shown) → walk_of (step_in w reach) words m last ≡ walk_of (arm_step_in w reach) words m last
unfolding walk_of
walk_as_arm w reach [] m r last = refl
walk_as_arm w reach (x ∷ words) m r last =
    go (λ n h s. walk_as_arm w reach words n h s) (step_in w reach x m) (real_in m r w reach x) ∙ ap (go_on m (walk_of (arm_step_in w reach) words)) (step_in_as_arm w reach x m r)
  where
    go : ((n : Machine) → Real n → (s : Shown) → walk_of (step_in w reach) words n s ≡ walk_of (arm_step_in w reach) words n s)
        → (s : Step Machine) → RealStep s → go_on m (walk_of (step_in w reach) words) s ≡ go_on m (walk_of (arm_step_in w reach) words) s
    go f (stopped answer address) h = refl
    go f (moved n s) h = ap (ahead s) (f n h s)

pub run_as_arm : (w : Window) (words : List ℕ) (m : Machine) (lent : Log) → Real m → machine_run w words m lent ≡ arm_run w words m lent
unfolding run_of
run_as_arm w words m lent r = rw (bad_is w m, walk_as_arm w Alone words m r (shown 0 0 0))

-- and so is a turn, with its ranges
pub turn_as_arm : (origin : ℕ) (r : Ranges) (words : List ℕ) (m : Machine) (lent : Log) → Real m
    → turn_of origin r words m lent ≡ arm_turn origin r words m lent
unfolding run_of
turn_as_arm origin r words m lent h = rw (bad_is (plain_window origin) m, walk_as_arm (plain_window origin) (Ranged r) words m h (shown 0 0 0))

-- ---- 1 and 10 are answered before the first step alone, and then nothing is changed

module _ (w : Window) (words : List ℕ) (m : Machine) (l : Log) (r : Real m) where
  pub run_begun : bad_start w m ≡ false → short words l ≡ false → ¬ Early (answer_number (arm_run w words m l).answer)
  run_begun e g = subst (λ (t : Result Machine). ¬ Early (answer_number t.answer)) (run_as_arm w words m l r) (begun_late w words m l (bad_is w m ∙ e) g)

  pub run_early : Early (answer_number (arm_run w words m l).answer) → arm_run w words m l ≡ not_begun (arm_run w words m l).answer m l
  run_early = subst (λ (t : Result Machine). Early (answer_number t.answer) → t ≡ not_begun t.answer m l) (run_as_arm w words m l r) (early_unchanged w words m l)
