-- A turn is one of Arm's steps, from a machine that there is, and leaves one (`turn_real`): so what is known of turns, and of a sequence
-- of them (`play_as_arm`), is known of Arm's. Assumes nothing.
use Prim.Native.Nat.{ℕ, ◌+◌, ◌%◌}
use mathlib.Core.Path.{◌≡◌, refl, sym, ap, subst, ◌∙◌}
use mathlib.Core.Bool.{false, ◌||◌}
use mathlib.Core.List.{List, [], ◌∷◌}
use lib.Dec.{leb}
use lib.ListN.{length}
use Rattle.instruction.specs.Answers.{answer_number}
use Rattle.plan.specs.declared.ranges.Ranges.{Ranges}
use Rattle.plan.specs.declared.ranges.Reach.TheVariants.{Ranged}
use Rattle.plan.specs.Ranges.{bad_ranges}
use Rattle.machine.specs.declared.Shown.{Shown}
use Rattle.machine.specs.Machine.{Machine}
use Rattle.machine.specs.Real.{Real}
use Rattle.machine.specs.Step.{Step, stopped, moved, performed}
use Rattle.execution.specs.Walk.{Log, Result, not_begun, short}
use Rattle.execution.specs.Ends.{Early}
use Rattle.execution.specs.Run.{plain_window, turn_of, turn_step}
use Rattle.execution.proofs.Walks.{Leaves}
use Rattle.arm.specs.Pseudocode.{Operation, hint, sp_fault, access}
use Rattle.arm.specs.Choices.{page_moves, word_page, operation_of, arm_turn_step, bad_turn_start, arm_turn}
use Rattle.arm.proofs.Arm.{bad_is, step_in_as_arm}
use Rattle.arm.proofs.Answers.{passes, done_by_page}
use Rattle.arm.proofs.Runs.{turn_as_arm}
use Rattle.arm.proofs.Steps.{Made}
use Rattle.arm.proofs.Rules.{real_step, page_made, code_stores, code_bytes}
use Rattle.turns.specs.Sight.{In, Allowed, Sees, Framed}
use Rattle.turns.specs.Turns.{World, own_machine, other_machine, swapped, Turn, ours, theirs, after_ours, after_theirs, reported, play_of, SameOrder, ShowsPlay}
use Rattle.turns.specs.Views.{Unchanged, SameOver, FilledOver}
use Rattle.turns.proofs.Frames.{Leads, run_leads, turn_framed}
use Rattle.turns.proofs.Views.{real_over, isolation, demand_3_each, other_half_each}
use Rattle.turns.proofs.Answers.{turn_early, turn_begun, turn_allowed}

-- ---- a turn

module _ (origin : ℕ) (r : Ranges) (ws : List ℕ) (m : Machine) (l : Log) (real : Real m) where
  -- what is known of the machine's turn is known of Arm's
  by_arm : (P : Result Machine → Type 0) → P (turn_of origin r ws m l) → P (arm_turn origin r ws m l)
  by_arm P h = subst P (turn_as_arm origin r ws m l real) h

  pub arm_early : Early (answer_number (arm_turn origin r ws m l).answer) → arm_turn origin r ws m l ≡ not_begun (arm_turn origin r ws m l).answer m l
  arm_early = by_arm (λ t. Early (answer_number t.answer) → t ≡ not_begun t.answer m l) (turn_early origin r ws m l)

  pub arm_begun : bad_turn_start origin r m ≡ false → short ws l ≡ false → ¬ Early (answer_number (arm_turn origin r ws m l).answer)
  arm_begun e g =
      by_arm (λ t. ¬ Early (answer_number t.answer))
      (turn_begun origin r ws m l (ap (λ b. b || bad_ranges r origin (length m.memory)) (bad_is (plain_window origin) m) ∙ e) g)

  pub arm_framed : Framed (λ i. ¬ In r.own (origin + i)) m (arm_turn origin r ws m l).machine
  arm_framed = by_arm (λ t. Framed (λ i. ¬ In r.own (origin + i)) m t.machine) (turn_framed origin r ws m l)

abbrev Stays : Machine → Machine → Type 0
Stays m n = Real m → Real n

turn_real : (origin : ℕ) (r : Ranges) (ws : List ℕ) (m : Machine) (l : Log) → Real m → Real (arm_turn origin r ws m l).machine
turn_real origin r ws m l =
    run_leads Stays (λ m h. h) (λ a b c f g h. g (f h)) (arm_turn_step origin r) (λ word m. leads m (arm_turn_step origin r word m) (real_step (plain_window origin) (Ranged r) word m)) (bad_turn_start origin r) ws m l
  where
    leads : (m : Machine) (s : Step Machine) → (Real m → Leaves Real s) → Leads Stays m s
    leads m (stopped answer address) h = tt
    leads m (moved n shown) h = h

abbrev code_in : Step Machine → ℕ
code_in (stopped answer address) = 0
code_in (moved n s) = s.code

-- every access that is done is allowed
module _ (origin : ℕ) (r : Ranges) (word : ℕ) (m n : Machine) (s : Shown) where
  allowed_by : (o : Operation) → Made (word_page word) word o → turn_step origin r word m ≡ moved n s → page_moves (plain_window origin) word m (word_page word) o ≡ moved n s → ¬ (s.code ≡ 0)
      → Allowed r (leb 64 s.code) s.address (s.code % 64)
  allowed_by hint made e f z = absurd (z (sym (ap code_in f)))
  allowed_by (sp_fault sp) made e f z = absurd (z (sym (ap code_in f)))
  allowed_by (access store address size status after) made e f z =
      let code = ap code_in f in
      let allowed = turn_allowed origin r m n s made.transfer made.addressing word e made.access in
      rw (← code, code_stores store size made.few, code_bytes store size made.few, ← made.stores, ← made.total) allowed

  pub arm_allowed : Real m → arm_turn_step origin r word m ≡ moved n s → ¬ (s.code ≡ 0) → Allowed r (leb 64 s.code) s.address (s.code % 64)
  arm_allowed real e z =
      let done : answer_number (performed m (arm_turn_step origin r word m)).answer ≡ 0 = ap (λ (t : Step Machine). answer_number (performed m t).answer) e in
      allowed_by (operation_of (plain_window origin) word m) (page_made (plain_window origin) (Ranged r) word m real (passes (plain_window origin) (Ranged r) word m done))
      (step_in_as_arm (plain_window origin) (Ranged r) word m real ∙ e) (sym (done_by_page (plain_window origin) (Ranged r) word m done) ∙ e) z

-- ---- a sequence of turns

module _ (origin : ℕ) where
  play_as_arm : (r : Ranges) (ts : List Turn) (w : World) → Real (own_machine w) → Real (other_machine w) → play_of (turn_of origin) r ts w ≡ play_of (arm_turn origin) r ts w
  unfolding play_of
  play_as_arm r [] w own other = refl
  play_as_arm r (ours ws l ∷ ts) w own other =
      let t = arm_turn origin r ws (own_machine w) l in
      let left = turn_real origin r ws (own_machine w) l own in
      ap (λ (t : Result Machine). reported l t (play_of (turn_of origin) r ts (after_ours w t.machine))) (turn_as_arm origin r ws (own_machine w) l own)
      ∙ ap (reported l t) (play_as_arm r ts (after_ours w t.machine) left (real_over (other_machine w) t.machine other left.bytes))
  play_as_arm r (theirs ws l ∷ ts) w own other =
      let t = arm_turn origin (swapped r) ws (other_machine w) l in
      let left = turn_real origin (swapped r) ws (other_machine w) l other in
      ap (λ (t : Result Machine). play_of (turn_of origin) r ts (after_theirs w t.machine)) (turn_as_arm origin (swapped r) ws (other_machine w) l other)
      ∙ play_as_arm r ts (after_theirs w t.machine) (real_over (own_machine w) t.machine own left.bytes) left

  -- what two sequences show
  shows_as_arm : (R : Machine → Machine → Type 0) (r : Ranges) (ts us : List Turn) (w v : World) → Real (own_machine w) → Real (other_machine w) → Real (own_machine v) → Real (other_machine v)
      → ShowsPlay R (play_of (turn_of origin) r ts w) (play_of (turn_of origin) r us v) → ShowsPlay R (play_of (arm_turn origin) r ts w) (play_of (arm_turn origin) r us v)
  shows_as_arm R r ts us w v own other own' other' h = rw (← play_as_arm r ts w own other, ← play_as_arm r us v own' other') h

  module _ (r : Ranges) {ts us : List Turn} (order : SameOrder ts us) (w v : World) (other : Real (other_machine w)) (other' : Real (other_machine v)) where
    pub arm_isolation : Unchanged (Sees origin r) (own_machine w) (own_machine v) → ShowsPlay (Unchanged (Sees origin r)) (play_of (arm_turn origin) r ts w) (play_of (arm_turn origin) r us v)
    arm_isolation h = shows_as_arm (Unchanged (Sees origin r)) r ts us w v h.real other h.other other' (isolation origin r order w v h)

    pub arm_demand_3 : SameOver (Sees origin r) (own_machine w) (own_machine v) → ShowsPlay (SameOver (Sees origin r)) (play_of (arm_turn origin) r ts w) (play_of (arm_turn origin) r us v)
    arm_demand_3 h = shows_as_arm (SameOver (Sees origin r)) r ts us w v h.real other h.other other' (demand_3_each origin r order w v h)

    pub arm_other_half : FilledOver (Sees origin r) (own_machine w) (own_machine v) → ShowsPlay (FilledOver (Sees origin r)) (play_of (arm_turn origin) r ts w) (play_of (arm_turn origin) r us v)
    arm_other_half h = shows_as_arm (FilledOver (Sees origin r)) r ts us w v h.real other h.other other' (other_half_each origin r order w v h)
