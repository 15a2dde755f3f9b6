-- Of the trace and statuses that a run leaves no question about its steps is refused with 17 or 18, and what is told is the machine's own
-- mark at that step. Assumes nothing.
use Rattle.std.proofs.Common.{◌≡◌, ℕ, zero, suc, ◌+◌, ◌*◌, ◌<◌, ◌≤◌, Bool, true, false, not, ltb, List, [], ◌∷◌, length, get_or, take, sym, refl, ap, ◌∙◌, subst, zero-add, arith, le-ltb, eq-eqb}
use borrow.Author.Tests.{not-false}
use lib.Seq.{length-sets, take-length}
use Rattle.bits.specs.Choice.{pick}
use Rattle.bits.proofs.Choices.{pick_by}
use Rattle.instruction.specs.declared.answer.Answer.TheVariants.{Done}
use Rattle.instruction.specs.Table.{in_set, undefined, unpredictable}
use Rattle.decoder.specs.Decoding.{class_of}
use Rattle.access.specs.declared.transfer.Transfer.{Transfer}
use Rattle.access.specs.declared.Access.{Access}
use Rattle.access.specs.declared.Access.TheVariants.{Nothing, Moves}
use Rattle.access.specs.Accesses.{word_access}
use Rattle.plan.specs.declared.window.Window.{Window}
use Rattle.plan.specs.Refusals.{Refusal, answer_in}
use Rattle.plan.specs.Address.{address_of}
use Rattle.plan.specs.Admission.{admit_of}
use Rattle.plan.proofs.Refusals.{Passed, each, first_by}
use Rattle.machine.specs.declared.monitor.Monitor.{Monitor}
use Rattle.machine.specs.declared.Shown.{Shown}
use Rattle.machine.specs.Monitor.{store_exclusive, matches, status_of}
use Rattle.machine.specs.Rule.{Taints, word_rule}
use Rattle.machine.specs.Machine.{Machine, operands_of, effect_of, code_of}
use Rattle.machine.specs.Refusals.{access_refusals, refusals, bad}
use Rattle.machine.specs.Step.{shown, Step, stopped, moved, perform_of, step_in, step_of}
use Rattle.machine.proofs.Taints.{Follows, taints_in, taints_by_rule}
use Rattle.execution.specs.Walk.{Walked, go_on, walk_of, numbers_of, statuses_of, Log, logged, short, run_of, shown_at, after_steps, too_short}
use Rattle.execution.specs.Ends.{alone}
use Rattle.execution.specs.Run.{machine_run}
use Rattle.execution.proofs.Walks.{numbers_long, statuses_long, long_enough, walk_short, trace_begins, statuses_begin, log_of, after_cons, after_log, same_at}
use Rattle.why.specs.Trace.{is_refused, wrong_step, some_step, wrong_at, wrong_trace}

-- ---- a step that is done is not wrong

none_first : (es : List Refusal) → Passed es → answer_in es ≡ Done
none_first [] p = refl
none_first (e ∷ es) p = rw p.0 (none_first es p.1)

class_done : (word : ℕ) → not (in_set word) ≡ false → undefined word ≡ false → unpredictable word ≡ false → is_refused (class_of word) ≡ false
unfolding class_of
class_done word a b c =
    let i : in_set word ≡ true = not-false (in_set word) a in
    rw (i, b, c)

status_small : (t : Transfer) (a : ℕ) (r : Monitor) → ltb 1 (status_of t a r) ≡ false
unfolding status_of
status_small t a r = pick_by (λ (n : ℕ). ltb 1 n ≡ false) (store_exclusive t) (λ e. pick_by (λ (n : ℕ). ltb 1 n ≡ false) (matches r a t.bytes) (λ e. refl) (λ e. refl)) (λ e. refl)

abbrev Right : Window → ℕ → ℕ → Step Machine → Type 0
Right w len word (stopped answer address) = Unit {0}
Right w len word (moved n s) = (wrong_step w len word s ≡ false) × (length n.memory ≡ len)

kept : (store : Bool) (xs ys : List ℕ) → length ys ≡ length xs → length (pick store ys xs) ≡ length xs
kept true xs ys e = e
kept false xs ys e = refl

module _ (w : Window) (word : ℕ) (m : Machine) where
  abbrev len : ℕ
  len = length m.memory

  perform_right : (x : Access) → word_access word ≡ x → is_refused (class_of word) ≡ false → Passed (access_refusals (admit_of w len) x m) → Right w len word (perform_of w.origin x m)
  unfolding wrong_step effect_of
  perform_right Nothing e c p = (rw (c, e), refl)
  perform_right (Moves t a) e c p =
      let address = address_of a (operands_of a m) in
      let d : answer_in (admit_of w len t address) ≡ Done = none_first (admit_of w len t address) p.1.1 in
      (rw (c, status_small t address m.monitor, e, eq-eqb (code_of t) (code_of t) refl, d), kept t.store m.memory _ (simp length-sets))

  step_right : Right w len word (step_of w word m)
  unfolding step_in
  step_right =
      first_by (Right w len word) stopped (perform_of w.origin (word_access word) m) (refusals w word m) (each (λ e. tt) (refusals w word m))
      (λ p. perform_right (word_access word) refl (class_done word p.1.0 p.1.1.0 p.1.1.1.0) p.1.1.1.1)

-- ---- the walk

none : Shown
none = shown 0 0 0

abbrev AllRight : Window → ℕ → List ℕ → List Shown → Type 0
AllRight w len ws ss = (k : ℕ) → k < length ss → wrong_step w len (get_or ws k 0) (shown_at (log_of ss) k) ≡ false

shown_later : (s : Shown) (ss : List Shown) (k : ℕ) → shown_at (log_of (s ∷ ss)) (suc k) ≡ shown_at (log_of ss) k
shown_later s ss k =
    let d : suc k * 2 ≡ suc (suc (k * 2)) = omega arith in
    let e : suc k * 2 + 1 ≡ suc (suc (k * 2 + 1)) = omega arith in
    rw (e, d)

module _ (w : Window) (len : ℕ) where
  go_right : (word : ℕ) (ws : List ℕ) (m : Machine) (rest : Machine → Shown → Walked Machine) → ((n : Machine) (s : Shown) → length n.memory ≡ len → AllRight w len ws (rest n s).done) → (s : Step Machine) → Right w len word s
      → AllRight w len (word ∷ ws) (go_on m rest s).done
  go_right word ws m rest k (stopped answer address) h i l = absurd (omega arith)
  go_right word ws m rest k (moved n s) h zero l = h.0
  go_right word ws m rest k (moved n s) h (suc i) l = rw (shown_later s (rest n s).done i) (k n s h.1 i (omega arith))

  walk_right : (ws : List ℕ) (m : Machine) (last : Shown) → length m.memory ≡ len → AllRight w len ws (walk_of (step_of w) ws m last).done
  unfolding walk_of
  walk_right [] m last e = λ i l. absurd (omega arith)
  walk_right (word ∷ ws) m last e = go_right word ws m (walk_of (step_of w) ws) (walk_right ws) (step_of w word m) (subst (λ (n : ℕ). Right w n word (step_of w word m)) e (step_right w word m))

-- ---- the log of a run

-- a walk's own log, and the log that a run leaves, up to the steps done
module _ {A : Type 0} (f : ℕ → A → Step A) (ws : List ℕ) (m : A) (l : Log) (e : short ws l ≡ false) where
  abbrev done : List Shown
  done = (walk_of f ws m none).done

  trace_same : take ((0 + length done) * 2) (numbers_of done) ≡ take ((0 + length done) * 2) (logged 0 l done).trace
  unfolding none
  trace_same =
      let numbers : (0 + length done) * 2 ≡ length (numbers_of done) = rw (zero-add, numbers_long done) in
      ap (λ (k : ℕ). take k (numbers_of done)) numbers ∙ take-length (numbers_of done) ∙ sym (trace_begins f ws m l e)

  statuses_same : take (0 + length done) (statuses_of done) ≡ take (0 + length done) (logged 0 l done).statuses
  unfolding none
  statuses_same =
      let statuses : 0 + length done ≡ length (statuses_of done) = rw (zero-add, statuses_long done) in
      ap (λ (k : ℕ). take k (statuses_of done)) statuses ∙ take-length (statuses_of done) ∙ sym (statuses_begin f ws m l e)

  -- what a run notes of a step done
  noted_at : (k : ℕ) → k < length done → shown_at (logged 0 l done) k ≡ shown_at (log_of done) k
  noted_at k h =
      let n = 0 + length done in
      let a = same_at (λ (w : ℕ) (s : Shown) (b : ℕ). b) (numbers_of done) (logged 0 l done).trace (n * 2) (k * 2) trace_same (omega arith) in
      let b = same_at (λ (w : ℕ) (s : Shown) (b : ℕ). b) (numbers_of done) (logged 0 l done).trace (n * 2) (k * 2 + 1) trace_same (omega arith) in
      let c = same_at (λ (w : ℕ) (s : Shown) (b : ℕ). b) (statuses_of done) (logged 0 l done).statuses n k statuses_same (omega arith) in
      rw (a, b, c)

no_wrong : (f : ℕ → Bool) (n : ℕ) → ((k : ℕ) → k < n → f k ≡ false) → some_step f n ≡ false
unfolding some_step
no_wrong f zero h = refl
no_wrong f (suc n) h = rw (h n (omega arith)) (no_wrong f n (λ k l. h k (omega arith)))

right_trace : (w : Window) (len : ℕ) (ws : List ℕ) (l : Log) (steps : ℕ) → steps ≤ length ws → steps * 2 ≤ length l.trace → steps ≤ length l.statuses → ((k : ℕ) → k < steps → wrong_at w len ws l k ≡ false)
    → wrong_trace w len ws l steps ≡ false
unfolding wrong_trace too_short
right_trace w len ws l steps a b c h = rw (le-ltb (length ws) steps a, le-ltb (length l.trace) (steps * 2) b, le-ltb (length l.statuses) steps c) (no_wrong (wrong_at w len ws l) steps h)

module _ (w : Window) (ws : List ℕ) (m : Machine) (l : Log) where
  abbrev ran_done : List Shown
  ran_done = (walk_of (step_of w) ws m none).done

  begun_right : short ws l ≡ false → wrong_trace w (length m.memory) ws (logged 0 l ran_done) (0 + length ran_done) ≡ false
  begun_right e =
      let few : length ran_done ≤ length ws = walk_short (step_of w) ws m none in
      let room = long_enough ws l e in
      let t : (0 + length ran_done) * 2 ≤ length (logged 0 l ran_done).trace = rw length-sets (omega (arith, room.0)) in
      let s : 0 + length ran_done ≤ length (logged 0 l ran_done).statuses = rw length-sets (omega (arith, room.1)) in
      right_trace w (length m.memory) ws (logged 0 l ran_done) (0 + length ran_done) (omega arith) t s
      (λ k h. rw (noted_at (step_of w) ws m l e k (omega arith)) (walk_right w (length m.memory) ws m none refl k (omega arith)))

  right_run_at : (y z : Bool) → bad w m ≡ y → short ws l ≡ z → wrong_trace w (length m.memory) ws (machine_run w ws m l).log (machine_run w ws m l).steps ≡ false
  unfolding run_of none
  right_run_at true z e g = rw e (right_trace w (length m.memory) ws l 0 (omega arith) (omega arith) (omega arith) (λ k h. absurd (omega arith)))
  right_run_at false true e g = rw (e, g) (right_trace w (length m.memory) ws l 0 (omega arith) (omega arith) (omega arith) (λ k h. absurd (omega arith)))
  right_run_at false false e g = rw (e, g) (begun_right g)

  -- 17 does not refuse the trace and the statuses that a run leaves
  pub run_right : wrong_trace w (length m.memory) ws (machine_run w ws m l).log (machine_run w ws m l).steps ≡ false
  run_right = right_run_at (bad w m) (short ws l) refl refl

-- ---- the machine's taints before each of its steps

module _ {A B : Type 0} (part : A → B) (rule : ℕ → Shown → B → B) (f : ℕ → A → Step A) (follows : (w : ℕ) (m : A) → Follows part (rule w) m (f w m)) where
  abbrev Each : List ℕ → List ℕ → A → Shown → Walked A → ℕ → Type 0
  Each vs ws m v t j = part (walk_of f vs m v).machine ≡ after_steps rule ws (log_of t.done) j (part m)

  go_each : (w : ℕ) (ws : List ℕ) (m : A) (v : Shown) (j : ℕ) → (s : Step A) → Follows part (rule w) m s → ((n : A) (s : Shown) → j ≤ length (walk_of f ws n s).done → Each (take j ws) ws n s (walk_of f ws n s) j)
      → suc j ≤ length (go_on m (walk_of f ws) s).done → part (go_on m (walk_of f (take j ws)) s).machine ≡ after_steps rule (w ∷ ws) (log_of (go_on m (walk_of f ws) s).done) (suc j) (part m)
  go_each w ws m v j (stopped answer address) e k h = absurd (omega arith)
  go_each w ws m v j (moved n s) e k h =
      let d = (walk_of f ws n s).done in
      k n s (omega arith) ∙ ap (after_steps rule ws (log_of d) j) e ∙ sym (after_cons rule w ws s d j (part m))

  walk_each : (ws : List ℕ) (m : A) (last v : Shown) (j : ℕ) → j ≤ length (walk_of f ws m last).done → Each (take j ws) ws m v (walk_of f ws m last) j
  unfolding walk_of after_steps
  walk_each ws m last v zero h = refl
  walk_each [] m last v (suc j) h = absurd (omega arith)
  walk_each (w ∷ ws) m last v (suc j) h = go_each w ws m v j (f w m) (follows w m) (λ n s l. walk_each ws n s s j l) h

module _ (w : Window) (ws : List ℕ) (m : Machine) (l : Log) (j : ℕ) where
  abbrev rule : ℕ → Shown → Taints → Taints
  rule = word_rule w.origin

  begun_each : short ws l ≡ false → j ≤ 0 + length (ran_done w ws m l) → (alone (step_of w) ws m j).machine.taints ≡ after_steps rule ws (logged 0 l (ran_done w ws m l)) j m.taints
  unfolding none
  begun_each e h =
      let d = ran_done w ws m l in
      walk_each taints_in rule (step_of w) (taints_by_rule w) ws m none none j (omega arith)
      ∙ after_log rule ws (log_of d) (logged 0 l d) (0 + length d) j m.taints (trace_same (step_of w) ws m l e) (statuses_same (step_of w) ws m l e) h

  each_at : (y z : Bool) → bad w m ≡ y → short ws l ≡ z → j ≤ (machine_run w ws m l).steps → (alone (step_of w) ws m j).machine.taints ≡ after_steps rule ws (machine_run w ws m l).log j m.taints
  unfolding run_of none walk_of after_steps
  each_at true z e g h =
      let n : j ≡ 0 = omega (arith, rw e at h) in
      rw n
  each_at false true e g h =
      let n : j ≡ 0 = omega (arith, rw (e, g) at h) in
      rw n
  each_at false false e g h = rw (e, g) (begun_each g (rw (e, g) at h))

  -- the taints of the machine just before the step at j are those of the rule over the run's log
  pub run_each : j ≤ (machine_run w ws m l).steps → (alone (step_of w) ws m j).machine.taints ≡ after_steps (word_rule w.origin) ws (machine_run w ws m l).log j m.taints
  run_each = each_at (bad w m) (short ws l) refl refl
