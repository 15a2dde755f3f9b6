-- The loop of a run goes by decisions: what one comes to is the step that the definition makes. Assumes nothing.
use Prim.Native.Nat.{ℕ, ◌+◌, ◌*◌, ◌≤◌, ◌<◌}
use mathlib.Core.Path.{◌≡◌, sym, ap, ◌∙◌}
use mathlib.Core.List.{List}
use native.Mathlib.Omega.{arith}
use lib.ListN.{length, drop, get_or, set, length-set}
use Rattle.instruction.specs.declared.answer.Answer.{Answer}
use Rattle.machine.specs.declared.Shown.{Shown}
use Rattle.machine.specs.Machine.{Machine}
use Rattle.machine.specs.Step.{shown, Step, stopped, moved}
use Rattle.machine.specs.route.Writing.{ended}
use Rattle.machine.proofs.Writing.{steps, kept}
use Rattle.execution.specs.Walk.{Log, log, walk_of, glue}
use Rattle.execution.proofs.Walks.{noted, walk_more, walk_stop}

-- the loop's invariant before word i, from a machine and a log at its start: the lists are as long as they were, with room for
-- every word, and what is done, with what is still to do from here, is the whole
abbrev pub Going : (ℕ → Machine → Step Machine) → List ℕ → Machine → Log → ℕ → Machine → Log → Shown → Type 0
Going f ws m₀ l₀ i m l last =
    (i ≤ length ws) × (length m.memory ≡ length m₀.memory) × (length m.taints.bytes ≡ length m₀.taints.bytes) × (length l.trace ≡ length l₀.trace) × (length l.statuses ≡ length l₀.statuses)
    × (length ws * 2 ≤ length l.trace) × (length ws ≤ length l.statuses)
    × (glue i l (walk_of f (drop i ws) m last) ≡ glue 0 l₀ (walk_of f ws m₀ (shown 0 0 0)))

module _ (f : ℕ → Machine → Step Machine) (ws : List ℕ) (m₀ : Machine) (l₀ : Log) (i : ℕ) (m : Machine) (l : Log) (last : Shown) (below : i < length ws)
    (inv : Going f ws m₀ l₀ i m l last) where
  -- a step that is done, and noted, leads on to the next
  pub goes_on : {n : Machine} {v : Shown} {trace statuses : List ℕ} → length n.memory ≡ length m.memory → length n.taints.bytes ≡ length m.taints.bytes
      → (trace ≡ (noted i l v).trace) × (statuses ≡ (noted i l v).statuses)
      → record { step = moved n v; machine = n } ≡ ended m (f (get_or ws i 0) m) → Going f ws m₀ l₀ (i + 1) n (log trace statuses) v
  goes_on {n} {v} {trace} {statuses} memory taint (d, g) told =
      let t : length trace ≡ length l.trace = ap length d ∙ length-set (set l.trace (i * 2) v.code) (i * 2 + 1) v.address ∙ length-set l.trace (i * 2) v.code in
      let s : length statuses ≡ length l.statuses = ap length g ∙ length-set l.statuses i v.status in (
        omega (arith, below),
        memory ∙ inv.1,
        taint ∙ inv.2,
        t ∙ inv.3,
        s ∙ inv.4,
        omega (arith, t, inv.5),
        omega (arith, s, inv.6),
        rw (d, g) (sym (walk_more f ws i m l last below (sym (steps m (f (get_or ws i 0) m) told))) ∙ inv.7),
      )

  -- a step that is refused ends the run, and leaves the machine as it was
  pub stops : {n : Machine} {answer : Answer} {address : ℕ} → record { step = stopped answer address; machine = n } ≡ ended m (f (get_or ws i 0) m)
      → record { machine = n; log = l; steps = i; answer = answer; shown = shown 0 address 0 } ≡ glue 0 l₀ (walk_of f ws m₀ (shown 0 0 0))
  stops told = rw (kept m (f (get_or ws i 0) m) told) (walk_stop f ws i m l last below (sym (steps m (f (get_or ws i 0) m) told))) ∙ inv.7
