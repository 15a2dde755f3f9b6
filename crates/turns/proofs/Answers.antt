-- How turns are refused, and what they keep: 02, CR 11. Assumes nothing.
use Prim.Native.Nat.{ℕ}
use mathlib.Core.Path.{◌≡◌, sym, ap, subst}
use mathlib.Core.Bool.{false}
use mathlib.Core.List.{List}
use lib.ListN.{length}
use native.Mathlib.Omega.{arith}
use Rattle.instruction.specs.declared.answer.Answer.{Answer}
use Rattle.instruction.specs.Answers.{answer_number}
use Rattle.access.specs.declared.transfer.Transfer.{Transfer}
use Rattle.access.specs.declared.addressing.Addressing.{Addressing}
use Rattle.access.specs.declared.Access.{Access}
use Rattle.access.specs.declared.Access.TheVariants.{Moves}
use Rattle.access.specs.Accesses.{word_access}
use Rattle.plan.specs.declared.ranges.Ranges.{Ranges}
use Rattle.plan.specs.declared.ranges.Reach.TheVariants.{Ranged}
use Rattle.plan.specs.Refusals.{Refusal}
use Rattle.plan.specs.Address.{address_of}
use Rattle.plan.specs.Admission.{total_of}
use Rattle.plan.specs.Ranges.{bad_ranges, admit_in}
use Rattle.plan.proofs.Refusals.{Passed, each, first_by}
use Rattle.machine.specs.Machine.{Machine, operands_of}
use Rattle.machine.specs.Refusals.{bad, access_refusals, refusals_in}
use Rattle.machine.specs.Step.{Step, stopped, moved, perform_of, step_in}
use Rattle.machine.specs.declared.Shown.{Shown}
use Rattle.execution.specs.Walk.{Log, not_begun, short}
use Rattle.execution.specs.Ends.{Early}
use Rattle.execution.specs.Run.{plain_window, bad_turn, turn_step, turn_of}
use Rattle.execution.proofs.Refusals.{early_in, begun_in}
use Rattle.execution.proofs.Turns.{neither_first}
use Rattle.turns.specs.Sight.{Allowed}
use Rattle.turns.proofs.Ranges.{ranges_allow}

module _ (origin : ℕ) (r : Ranges) where
  window_fine : (m : Machine) → bad_turn origin r m ≡ false → bad (plain_window origin) m ≡ false
  window_fine m e = neither_first (bad (plain_window origin) m) (bad_ranges r origin (length m.memory)) e

  module _ (ws : List ℕ) (m : Machine) (l : Log) where
    -- a turn that answers 1 or 10 has changed nothing
    pub turn_early : Early (answer_number (turn_of origin r ws m l).answer) → turn_of origin r ws m l ≡ not_begun (turn_of origin r ws m l).answer m l
    turn_early = early_in (plain_window origin) (Ranged r) (bad_turn origin r) window_fine ws m l

    -- one that is begun answers neither
    pub turn_begun : bad_turn origin r m ≡ false → short ws l ≡ false → ¬ Early (answer_number (turn_of origin r ws m l).answer)
    turn_begun = begun_in (plain_window origin) (Ranged r) (bad_turn origin r) window_fine ws m l

-- ---- every access that is done is allowed

abbrev address_in : Step Machine → ℕ
address_in (stopped answer address) = address
address_in (moved n s) = s.address

not_moved : (answer : Answer) (address : ℕ) (n : Machine) (s : Shown) {B : Type 0} → ◌≡◌ {A = Step Machine} (stopped answer address) (moved n s) → B
not_moved answer address n s h = absurd (let z : ◌≡◌ {A = ℕ} 0 1 = cc in omega arith)

module _ (origin : ℕ) (r : Ranges) (m n : Machine) (s : Shown) (t : Transfer) (a : Addressing) where
  abbrev admit : Transfer → ℕ → List Refusal
  admit = admit_in (plain_window origin) (Ranged r) (length m.memory)

  allowed_at : Passed (access_refusals admit (Moves t a) m) → perform_of origin (Moves t a) m ≡ moved n s → Allowed r t.store s.address (total_of t)
  allowed_at p h = subst (λ (x : ℕ). Allowed r t.store x (total_of t)) (ap address_in h) (ranges_allow origin r (length m.memory) t (address_of a (operands_of a m)) p.1.1)

  pub turn_allowed : (word : ℕ) → turn_step origin r word m ≡ moved n s → word_access word ≡ Moves t a → Allowed r t.store s.address (total_of t)
  unfolding step_in
  turn_allowed word done e =
      let es = refusals_in (plain_window origin) (Ranged r) word m in
      first_by (λ (x : Step Machine). x ≡ moved n s → Allowed r t.store s.address (total_of t)) stopped (perform_of origin (word_access word) m) es
      (each (λ e. not_moved e.answer e.address n s) es)
      (λ p. subst (λ (x : Access). Passed (access_refusals admit x m) → perform_of origin x m ≡ moved n s → Allowed r t.store s.address (total_of t)) (sym e) allowed_at p.1.1.1.1) done
