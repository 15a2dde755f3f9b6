-- What a turn leaves as it was: the bytes and taint bytes that it changes lie in its own range. Assumes nothing.
use Prim.Native.Nat.{ℕ, ◌+◌, ◌-◌, ◌≤◌, ◌<◌}
use mathlib.Core.Path.{◌≡◌, refl, ◌∙◌}
use mathlib.Core.Bool.{Bool, true, false, ◌||◌}
use mathlib.Core.List.{List, [], ◌∷◌, map}
use mathlib.Core.Logic.{inl, inr}
use native.Mathlib.Decide.{dec_lt}
use native.Mathlib.Omega.{arith}
use lib.ListN.{length, get_or}
use lib.Seq.{sets, length-sets}
use Rattle.bits.specs.Choice.{pick}
use Rattle.bits.specs.Bytes.{bytes_of}
use Rattle.bits.proofs.Bytes.{length_bytes}
use Rattle.bits.proofs.Choices.{pick_by}
use Rattle.memory.specs.Taints.{normal}
use Rattle.memory.proofs.Taints.{normal_length}
use Rattle.instruction.specs.declared.answer.Answer.TheVariants.{BadWindow}
use Rattle.access.specs.declared.transfer.Transfer.{Transfer}
use Rattle.access.specs.declared.Access.{Access}
use Rattle.access.specs.declared.Access.TheVariants.{Nothing, Moves}
use Rattle.access.specs.Accesses.{word_access}
use Rattle.plan.specs.declared.window.Window.{Window}
use Rattle.plan.specs.declared.ranges.Ranges.{Ranges}
use Rattle.plan.specs.declared.ranges.Reach.{Reach}
use Rattle.plan.specs.declared.ranges.Reach.TheVariants.{Ranged}
use Rattle.plan.specs.Address.{address_of}
use Rattle.plan.specs.Admission.{total_of}
use Rattle.plan.specs.Ranges.{bad_ranges, admit_in}
use Rattle.plan.proofs.Refusals.{Passed, each, first_by}
use Rattle.machine.specs.declared.Shown.{Shown}
use Rattle.machine.specs.declared.monitor.Monitor.{Monitor}
use Rattle.machine.specs.Monitor.{fails, made_of, status_of}
use Rattle.machine.specs.Rule.{move_rule}
use Rattle.machine.specs.Machine.{Machine, operands_of, effect_of}
use Rattle.machine.specs.Refusals.{bad, access_refusals, refusals_in}
use Rattle.machine.specs.Step.{shown, Step, stopped, moved, perform_of, step_in}
use Rattle.machine.proofs.Reals.{Below, bytes_below}
use Rattle.machine.proofs.Taints.{Apart, sets_kept}
use Rattle.execution.specs.Walk.{Walked, go_on, walk_of, Log, Result, short, not_begun, run_of}
use Rattle.execution.specs.Run.{plain_window, bad_turn, turn_step, turn_of}
use Rattle.turns.specs.Sight.{In, Sees, Framed}
use Rattle.turns.specs.Turns.{swapped}
use Rattle.turns.proofs.Ranges.{ranges_stay, other_unseen}

-- ---- a relation that each step leads along, from the start of a run to its end

abbrev pub Leads : {A : Type 0} → (A → A → Type 0) → A → Step A → Type 0
Leads R m (stopped answer address) = Unit {0}
Leads R m (moved n s) = R m n

module _ {A : Type 0} (R : A → A → Type 0) (same : (m : A) → R m m) (then : (a b c : A) → R a b → R b c → R a c) (f : ℕ → A → Step A) (steps : (w : ℕ) (m : A) → Leads R m (f w m)) where
  go_leads : (m : A) (rest : A → Shown → Walked A) → ((n : A) (s : Shown) → R n (rest n s).machine) → (s : Step A) → Leads R m s → R m (go_on m rest s).machine
  go_leads m rest k (stopped answer address) h = same m
  go_leads m rest k (moved n s) h = then m n (rest n s).machine h (k n s)

  walk_leads : (ws : List ℕ) (m : A) (last : Shown) → R m (walk_of f ws m last).machine
  unfolding walk_of
  walk_leads [] m last = same m
  walk_leads (w ∷ ws) m last = go_leads m (walk_of f ws) (walk_leads ws) (f w m) (steps w m)

  pub run_leads : (bad : A → Bool) (ws : List ℕ) (m : A) (l : Log) → R m (run_of bad f ws m l).machine
  unfolding run_of
  run_leads bad ws m l =
      let P : Result A → Type 0 = (λ (t : Result A). R m t.machine) in
      pick_by P (bad m) (λ e. same m) (λ e. pick_by P (short ws l) (λ g. same m) (λ g. walk_leads ws m (shown 0 0 0)))

-- ---- one access

apart : (i at n : ℕ) → (at ≤ i → i < at + n → ⊥) → Apart i at n
apart i at n h = before (dec_lt i at)
  where
    behind : at ≤ i → Dec (i < at + n) → Apart i at n
    behind l (yes g) = absurd (h l g)
    behind l (no g) = inr (omega arith)

    before : Dec (i < at) → Apart i at n
    before (yes l) = inl l
    before (no l) = behind (omega arith) (dec_lt i (at + n))

module _ (places : ℕ → Type 0) where
  same_framed : (m : Machine) → Framed places m m
  same_framed m = record { size = refl; room = refl; bytes = λ i s. refl; taints = λ i s. refl }

  then_framed : (a b c : Machine) → Framed places a b → Framed places b c → Framed places a c
  then_framed a b c f g =
      record { size = g.size ∙ f.size; room = g.room ∙ f.room; bytes = λ i s. g.bytes i s ∙ f.bytes i s; taints = λ i s. g.taints i s ∙ f.taints i s }

  module _ (t : Transfer) (written at next : ℕ) (monitor : Monitor) (m : Machine) (away : t.store ≡ true → (i : ℕ) → at ≤ i → i < at + total_of t → ¬ places i) where
    effect_at : (z : Bool) → t.store ≡ z → Framed places m (effect_of t written at next monitor m)
    unfolding effect_of move_rule
    effect_at true e =
        let v : ℕ = get_or m.values t.target 0 in
        let w : ℕ = get_or m.values t.second 0 in
        let p : ℕ = get_or m.taints.registers t.target 0 in
        let q : ℕ = get_or m.taints.registers t.second 0 in
        let first : (i : ℕ) → places i → Apart i at t.bytes = λ i s. apart i at t.bytes (λ a b. away e i (omega arith) (omega arith) s) in
        let second : (i : ℕ) → places i → Apart i (at + t.bytes) t.more = λ i s. apart i (at + t.bytes) t.more (λ a b. away e i (omega arith) (omega arith) s) in
        rw e
        (record {
          size = simp length-sets;
          room = simp length-sets;
          bytes = λ i s.
              sets_kept (bytes_of t.more w) (sets m.memory at (bytes_of t.bytes v)) (at + t.bytes) i (rw (length_bytes t.more w) (second i s))
              ∙ sets_kept (bytes_of t.bytes v) m.memory at i (rw (length_bytes t.bytes v) (first i s));
          taints = λ i s.
              sets_kept (map normal (bytes_of t.more q)) (sets m.taints.bytes at (map normal (bytes_of t.bytes p))) (at + t.bytes) i (rw (normal_length t.more q) (second i s))
              ∙ sets_kept (map normal (bytes_of t.bytes p)) m.taints.bytes at i (rw (normal_length t.bytes p) (first i s));
        })
    effect_at false e = rw e (record { size = refl; room = refl; bytes = λ i s. refl; taints = λ i s. refl })

    effect_framed : Framed places m (effect_of t written at next monitor m)
    effect_framed = effect_at t.store refl

  -- a store that fails moves no more than one that doesn't
  made_at : (z : Bool) (b c : ℕ) → pick z 0 b + pick z 0 c ≤ b + c
  made_at true b c = omega arith
  made_at false b c = omega arith

  -- ---- a step whose stores stay away

  module _ (w : Window) (reach : Reach) (away : (len : ℕ) (t : Transfer) (a : ℕ) → Passed (admit_in w reach len t a) → t.store ≡ true → (i : ℕ) → a - w.origin ≤ i → i < a - w.origin + total_of t → ¬ places i) where
    perform_framed : (m : Machine) (x : Access) → Passed (access_refusals (admit_in w reach (length m.memory)) x m) → Leads (Framed places) m (perform_of w.origin x m)
    perform_framed m Nothing p = record { size = refl; room = refl; bytes = λ i s. refl; taints = λ i s. refl }
    perform_framed m (Moves t a) p =
        let at : ℕ = address_of a (operands_of a m) in
        let status : ℕ = status_of t at m.monitor in
        effect_framed (made_of t status) a.written (at - w.origin) _ _ m
        (λ s i l h. away (length m.memory) t at p.1.1 s i l (omega (arith, h, made_at (fails t status) t.bytes t.more)))

    step_framed : (word : ℕ) (m : Machine) → Leads (Framed places) m (step_in w reach word m)
    unfolding step_in
    step_framed word m =
        first_by (Leads (Framed places) m) stopped (perform_of w.origin (word_access word) m) (refusals_in w reach word m)
        (each (λ e. tt) (refusals_in w reach word m)) (λ p. perform_framed m (word_access word) p.1.1.1.1)

-- ---- a turn

-- the bytes and taint bytes that a turn changes lie in its own range
pub turn_framed : (origin : ℕ) (r : Ranges) (ws : List ℕ) (m : Machine) (l : Log) → Framed (λ i. ¬ In r.own (origin + i)) m (turn_of origin r ws m l).machine
turn_framed origin r ws m l =
    let places : ℕ → Type 0 = (λ (i : ℕ). ¬ In r.own (origin + i)) in
    run_leads (Framed places) (same_framed places) (then_framed places) (turn_step origin r)
    (step_framed places (plain_window origin) (Ranged r) (λ len t a p s i l h n. n (ranges_stay origin r len t a p s i l h)))
    (bad_turn origin r) ws m l

-- ranges that make every turn answer 1 leave all as it is
idle_at : (b c : Bool) (m : Machine) (x y : Result Machine) → x.machine ≡ m → c ≡ true → (pick (b || c) x y).machine ≡ m
idle_at true c m x y h e = h
idle_at false true m x y h e = h
idle_at false false m x y h e = absurd (let z : ◌≡◌ {A = ℕ} 0 1 = cc in omega arith)

turn_idle : (origin : ℕ) (r : Ranges) (ws : List ℕ) (m : Machine) (l : Log) → bad_ranges r origin (length m.memory) ≡ true → (turn_of origin r ws m l).machine ≡ m
unfolding run_of
turn_idle origin r ws m l e = idle_at (bad (plain_window origin) m) (bad_ranges r origin (length m.memory)) m (not_begun BadWindow m l) _ refl e

module _ (origin : ℕ) (r : Ranges) (ws : List ℕ) (m : Machine) (l : Log) where
  unseen_at : (z : Bool) → bad_ranges (swapped r) origin (length m.memory) ≡ z → Framed (Sees origin r) m (turn_of origin (swapped r) ws m l).machine
  unseen_at true e = rw (turn_idle origin (swapped r) ws m l e) (same_framed (Sees origin r) m)
  unseen_at false e =
      let f = turn_framed origin (swapped r) ws m l in
      let out : (i : ℕ) → Sees origin r i → ¬ In r.other (origin + i) = other_unseen origin r (length m.memory) e in
      record { size = f.size; room = f.room; bytes = λ i s. f.bytes i (out i s); taints = λ i s. f.taints i (out i s) }

  -- a turn of the other leaves what we may read as it was
  pub turn_unseen : Framed (Sees origin r) m (turn_of origin (swapped r) ws m l).machine
  turn_unseen = unseen_at (bad_ranges (swapped r) origin (length m.memory)) refl

-- ---- bytes stay bytes, whatever the registers hold

abbrev Small : Machine → Machine → Type 0
Small m n = Below 256 m.memory → Below 256 n.memory

small_perform : (origin : ℕ) (x : Access) (m : Machine) → Leads Small m (perform_of origin x m)
unfolding effect_of
small_perform origin Nothing m = λ h. h
small_perform origin (Moves t a) m = λ h.
    pick_by (Below 256) t.store (λ e. bytes_below _ _ _ _ (bytes_below _ _ _ m.memory h)) (λ e. h)

small_step : (w : Window) (reach : Reach) (word : ℕ) (m : Machine) → Leads Small m (step_in w reach word m)
unfolding step_in
small_step w reach word m =
    first_by (Leads Small m) stopped (perform_of w.origin (word_access word) m) (refusals_in w reach word m) (each (λ e. tt) (refusals_in w reach word m)) (λ p. small_perform w.origin (word_access word) m)

pub turn_small : (origin : ℕ) (r : Ranges) (ws : List ℕ) (m : Machine) (l : Log) → Below 256 m.memory → Below 256 (turn_of origin r ws m l).machine.memory
turn_small origin r ws m l = run_leads Small (λ m h. h) (λ a b c f g h. g (f h)) (turn_step origin r) (small_step (plain_window origin) (Ranged r)) (bad_turn origin r) ws m l
