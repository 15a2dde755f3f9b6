-- Answers 1 and 10 are given before the first step alone, and then nothing is changed. Assumes nothing.
use Prim.Native.Nat.{ℕ, ◌+◌, ◌%◌, ◌^◌}
use mathlib.Core.Path.{◌≡◌, refl, ap}
use mathlib.Core.Bool.{Bool, true, false, not}
use mathlib.Core.List.{List, [], ◌∷◌}
use mathlib.Core.Logic.{inl, inr}
use native.Mathlib.Omega.{arith}
use borrow.Author.Tests.{eq-eqb, eqb-true, not-false}
use lib.Dec.{ltb, eqb}
use lib.ListN.{length}
use lib.Seq.{length-sets}
use Rattle.bits.specs.Choice.{pick}
use Rattle.instruction.specs.declared.answer.Answer.{Answer}
use Rattle.instruction.specs.declared.answer.Answer.TheVariants.{Done}
use Rattle.instruction.specs.Answers.{answer_number}
use Rattle.access.specs.declared.transfer.Transfer.{Transfer}
use Rattle.access.specs.declared.Access.{Access}
use Rattle.access.specs.declared.Access.TheVariants.{Nothing, Moves}
use Rattle.plan.specs.declared.window.Window.{Window}
use Rattle.plan.specs.Window.{bad_window}
use Rattle.plan.specs.declared.ranges.Reach.{Reach}
use Rattle.plan.specs.declared.ranges.Reach.TheVariants.{Alone}
use Rattle.plan.specs.Ranges.{admit_in}
use Rattle.plan.proofs.Refusals.{each, each_map, first_by}
use Rattle.access.specs.Accesses.{word_access}
use Rattle.machine.specs.declared.monitor.Monitor.{Monitor}
use Rattle.machine.specs.Rule.{move_rule, stored_taints}
use Rattle.machine.specs.Machine.{Machine, next_pc, stored_bytes, effect_of}
use Rattle.machine.specs.Refusals.{bad, word_refusals, refusals_in}
use Rattle.machine.specs.declared.Shown.{Shown}
use Rattle.machine.specs.Step.{shown, Step, stopped, moved, perform_of, step_in, performed}
use Rattle.machine.proofs.Answers.{answers_in, Numbered, Late, word_late}
use Rattle.execution.specs.Walk.{Walked, go_on, walk_of, Log, Result, not_begun, short, run_of}
use Rattle.execution.specs.Ends.{Early}
use Rattle.execution.specs.Run.{machine_run}

-- ---- a step in a window that is not bad answers neither

abbrev pub Begun : Answer → Type 0
Begun answer = ¬ Early (answer_number answer)

not_early : (n : ℕ) → Late n → ¬ Early n
not_early n (inl l) (inl e) = omega (arith, l.0)
not_early n (inl l) (inr e) = omega (arith, l.1)
not_early n (inr f) (inl e) = omega arith
not_early n (inr f) (inr e) = omega arith

done_begun : Begun Done
done_begun (inl e) = omega arith
done_begun (inr e) = omega arith

step_begun : (w : Window) (reach : Reach) (word : ℕ) (m : Machine) → bad w m ≡ false → Begun (performed m (step_in w reach word m)).answer
step_begun w reach word m e =
    let further = word_refusals (admit_in w reach (length m.memory)) word m in
    rw (answers_in w reach word m, e)
    (first_by Begun (λ answer address. answer) Done further (each_map {P = Numbered Late} {Q = λ e. Begun e.answer} (λ e l. not_early (answer_number e.answer) l) further (word_late w reach word m)) (λ p. done_begun))

-- ---- a window that is not bad stays so: lengths are kept, and pc stays a multiple of 4

last_test : (a b c : Bool) {x y : Bool} → (x ≡ false → y ≡ false) → pick a true (pick b true (pick c true x)) ≡ false → pick a true (pick b true (pick c true y)) ≡ false
last_test true b c h e = e
last_test false true c h e = e
last_test false false true h e = e
last_test false false false h e = h e

aligned : (pc : ℕ) → not (eqb (pc % 4) 0) ≡ false → not (eqb (next_pc pc % 4) 0) ≡ false
aligned pc e =
    let z : pc % 4 ≡ 0 = eqb-true (pc % 4) 0 (not-false (eqb (pc % 4) 0) e) in
    let n : (pc + 4) % 2 ^ 64 % 4 ≡ 0 = omega arith in
    ap not (eq-eqb (next_pc pc % 4) 0 n)

good_next : (w : Window) (len taints pc : ℕ) → bad_window w len taints pc ≡ false → bad_window w len taints (next_pc pc) ≡ false
unfolding bad_window
good_next w len taints pc e = last_test (ltb (2 ^ 64) (w.origin + len)) (ltb len w.readonly) (not (eqb taints len)) (aligned pc) e

kept : (store : Bool) (xs ys : List ℕ) → length ys ≡ length xs → length (pick store ys xs) ≡ length xs
kept true xs ys e = e
kept false xs ys e = refl

effect_good : (w : Window) (t : Transfer) (written at next : ℕ) (r : Monitor) (m : Machine) → bad w m ≡ false → bad w (effect_of t written at next r m) ≡ false
unfolding effect_of move_rule
effect_good w t written at next r m e =
    let bytes = kept t.store m.memory (stored_bytes t at m.values m.memory) (simp length-sets) in
    let taints = kept t.store m.taints.bytes (stored_taints t at m.taints.registers m.taints.bytes) (simp length-sets) in
    rw (bytes, taints) (good_next w (length m.memory) (length m.taints.bytes) m.pc e)

-- ---- and leaves such a window

abbrev Stays : Window → Step Machine → Type 0
Stays w (stopped answer address) = Unit {0}
Stays w (moved n shown) = bad w n ≡ false

module _ (w : Window) (m : Machine) (e : bad w m ≡ false) where
  perform_stays : (x : Access) → Stays w (perform_of w.origin x m)
  perform_stays Nothing = good_next w (length m.memory) (length m.taints.bytes) m.pc e
  perform_stays (Moves t a) = effect_good w _ a.written _ _ _ m e

  step_stays : (reach : Reach) (word : ℕ) → Stays w (step_in w reach word m)
  unfolding step_in
  step_stays reach word =
      first_by (Stays w) stopped (perform_of w.origin (word_access word) m) (refusals_in w reach word m) (each (λ e. tt) (refusals_in w reach word m)) (λ p. perform_stays (word_access word))

-- ---- the walk and the run

module _ (w : Window) (reach : Reach) where
  go_begun : (m : Machine) (rest : Machine → Shown → Walked Machine) → ((n : Machine) (v : Shown) → bad w n ≡ false → Begun (rest n v).answer) → (s : Step Machine) → Begun (performed m s).answer → Stays w s
      → Begun (go_on m rest s).answer
  go_begun m rest k (stopped answer address) b h = b
  go_begun m rest k (moved n v) b h = k n v h

  walk_begun : (ws : List ℕ) (m : Machine) (last : Shown) → bad w m ≡ false → Begun (walk_of (step_in w reach) ws m last).answer
  unfolding walk_of
  walk_begun [] m last e h = done_begun h
  walk_begun (word ∷ ws) m last e h = go_begun m (walk_of (step_in w reach) ws) (walk_begun ws) (step_in w reach word m) (step_begun w reach word m e) (step_stays w m e reach word) h

  -- by a test of which the window's is a part
  module _ (test : Machine → Bool) (part : (m : Machine) → test m ≡ false → bad w m ≡ false) (ws : List ℕ) (m : Machine) (l : Log) where
    abbrev ran : Result Machine
    ran = run_of test (step_in w reach) ws m l

    -- a run that is begun answers neither 1 nor 10
    pub begun_in : test m ≡ false → short ws l ≡ false → Begun (run_of test (step_in w reach) ws m l).answer
    unfolding run_of
    begun_in e g = rw (e, g) (walk_begun ws m (shown 0 0 0) (part m e))

    early_at : (y z : Bool) → test m ≡ y → short ws l ≡ z → Early (answer_number ran.answer) → ran ≡ not_begun ran.answer m l
    unfolding run_of
    early_at true z e g h = rw e
    early_at false true e g h = rw (e, g)
    early_at false false e g h = absurd (begun_in e g h)

    -- a run that answers 1 or 10 has changed no register, byte, taint, PC or monitor, and nothing of the trace or the statuses
    pub early_in : let t = run_of test (step_in w reach) ws m l in
        Early (answer_number t.answer) → t ≡ not_begun t.answer m l
    early_in = early_at (test m) (short ws l) refl refl

-- of a plugin alone
module _ (w : Window) (ws : List ℕ) (m : Machine) (l : Log) where
  pub begun_late : bad w m ≡ false → short ws l ≡ false → Begun (machine_run w ws m l).answer
  begun_late = begun_in w Alone (bad w) (λ m e. e) ws m l

  pub early_unchanged : Early (answer_number (machine_run w ws m l).answer) → machine_run w ws m l ≡ not_begun (machine_run w ws m l).answer m l
  early_unchanged = early_in w Alone (bad w) (λ m e. e) ws m l
