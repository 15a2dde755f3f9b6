-- Demand 3 and its other half, of a step and of a run: one law of machines that are viewed alike (`step_shows`, `run_shown`), for two
-- relations. And the taints of a run. Assumes nothing.
use Prim.Native.Nat.{ℕ, ◌-◌, ◌≤◌, ◌<◌}
use mathlib.Core.Path.{◌≡◌, refl, sym, ap, ◌∙◌}
use mathlib.Core.Bool.{Bool, true, false}
use mathlib.Core.List.{List}
use native.Mathlib.Decide.{dec_lt}
use native.Mathlib.Omega.{arith}
use lib.ListN.{length, get_or, get_or-eq_default}
use lib.Seq.{ext_get_or}
use Rattle.memory.specs.Taints.{tainted}
use Rattle.access.specs.declared.transfer.Transfer.{Transfer}
use Rattle.plan.specs.declared.window.Window.{Window}
use Rattle.plan.specs.declared.ranges.Reach.{Reach}
use Rattle.plan.specs.declared.ranges.Reach.TheVariants.{Alone}
use Rattle.plan.specs.Admission.{total_of}
use Rattle.plan.specs.Ranges.{admit_in}
use Rattle.plan.proofs.Refusals.{Passed}
use Rattle.plan.proofs.Tests.{same_lengths}
use Rattle.machine.specs.Rule.{word_rule}
use Rattle.machine.specs.Machine.{Machine}
use Rattle.machine.specs.Refusals.{bad}
use Rattle.machine.specs.Step.{Step, stopped, moved, step_in, step_of}
use Rattle.machine.proofs.Taints.{taints_in, taints_by_rule}
use Rattle.machine.specs.Real.{Real}
use Rattle.machine.proofs.Reals.{RealStep, real_in}
use Rattle.secrecy.specs.Shows.{Shows}
use Rattle.secrecy.specs.route.Alike.{View, by_taint, Copied, Anywhere, Alike}
use Rattle.secrecy.proofs.Agreement.{Seen}
use Rattle.secrecy.proofs.Steps.{step_alike}
use Rattle.secrecy.proofs.Halves.{secret, opposed}
use Rattle.execution.specs.Walk.{Log, Result, run_of, after_steps}
use Rattle.execution.specs.Run.{machine_run}
use Rattle.execution.specs.Secrecy.{Related, Same, Filled, SameRoom, ShowsRun}
use Rattle.execution.proofs.Walks.{run_shows, run_log, run_rule}

-- a relation of machines that is a view of them, once they have a taint byte for each byte
pub record Shaped (sees : ℕ → Type 0) (view : View) (R : Machine → Machine → Type 0) : Type 0 where
  pub real : (m n : Machine) → R m n → Real m
  pub other : (m n : Machine) → R m n → Real n
  pub pc : (m n : Machine) → R m n → m.pc ≡ n.pc
  pub memories : (m n : Machine) → R m n → length n.memory ≡ length m.memory
  pub taints : (m n : Machine) → R m n → length n.taints.bytes ≡ length m.taints.bytes
  pub to : (m n : Machine) → length m.memory ≡ length m.taints.bytes → R m n → Alike sees view m n
  pub from : (m n : Machine) → Real m → Real n → Alike sees view m n → R m n

module _ {sees : ℕ → Type 0} {view : View} (copied : Copied view) {R : Machine → Machine → Type 0} (shape : Shaped sees view R) (w : Window) (reach : Reach)
    (safe : (len : ℕ) (t : Transfer) (a : ℕ) → Passed (admit_in w reach len t a) → t.store ≡ false → Seen sees (a - w.origin) (total_of t)) where
  shows_as : (s t : Step Machine) → RealStep s → RealStep t → Shows (Alike sees view) s t → Shows R s t
  shows_as (stopped answer address) (stopped another place) r q h = h
  shows_as (stopped answer address) (moved n seen) r q h = h
  shows_as (moved m shown) (stopped another place) r q h = h
  shows_as (moved m shown) (moved n seen) r q h = (shape.from m n r q h.0, h.1)

  -- answer 1 is the same for both
  pub bad_same : (m n : Machine) → R m n → bad w m ≡ bad w n
  bad_same m n h = rw (shape.memories m n h, shape.taints m n h, shape.pc m n h)

  step_at_lem : (m n : Machine) → R m n → (word : ℕ) (z : Bool) → bad w m ≡ z → Shows R (step_in w reach word m) (step_in w reach word n)
  unfolding step_in
  step_at_lem m n h word true e =
      let other : bad w n ≡ true = sym (bad_same m n h) ∙ e in
      rw (e, other) (refl, refl)
  step_at_lem m n h word false e =
      let long : length m.memory ≡ length m.taints.bytes = sym (same_lengths w (length m.memory) (length m.taints.bytes) m.pc e) in
      let real = shape.real m n h in
      let other = shape.other m n h in
      shows_as (step_in w reach word m) (step_in w reach word n) (real_in m real w reach word) (real_in n other w reach word)
      (step_alike sees view copied w reach safe m n real other (shape.to m n long h) word)

  -- a step shows the same of machines in such a relation, and leaves such machines
  pub step_shows : (m n : Machine) → R m n → (word : ℕ) → Shows R (step_in w reach word m) (step_in w reach word n)
  step_shows m n h word = step_at_lem m n h word (bad w m) refl

  -- and so does a run
  module _ (test : Machine → Bool) (same : (m n : Machine) → R m n → test m ≡ test n) (words : List ℕ) (m n : Machine) (h : R m n) where
    pub run_shown : (l k : Log) → SameRoom l k → ShowsRun R (run_of test (step_in w reach) words m l) (run_of test (step_in w reach) words n k)
    run_shown l k room = run_shows R (step_in w reach) (λ word p q s. step_shows p q s word) test same words m n h l k room

    -- which leaves the same log where the same is lent
    pub run_logs : (l : Log) → (run_of test (step_in w reach) words m l).log ≡ (run_of test (step_in w reach) words n l).log
    run_logs l = run_log R (step_in w reach) (λ word p q s. step_shows p q s word) test same words m n h l

-- ---- by taint, over all of memory

module _ {related : Bool → ℕ → ℕ → Type 0} (copied : Copied (by_taint related)) where
  -- a byte behind the end is 0 in both
  pub past_end : (k x y : List ℕ) → length x ≡ length k → length y ≡ length k → (i : ℕ) → (i < length k → related (tainted (get_or k i 0)) (get_or x i 0) (get_or y i 0)) → related (tainted (get_or k i 0)) (get_or x i 0) (get_or y i 0)
  past_end k x y left right i h = at (dec_lt i (length k))
    where
      at : Dec (i < length k) → related (tainted (get_or k i 0)) (get_or x i 0) (get_or y i 0)
      at (yes l) = h l
      at (no f) =
          let p : length k ≤ i = omega arith in
          let q : length x ≤ i = omega (arith, left) in
          let r : length y ≤ i = omega (arith, right) in
          rw (get_or-eq_default k, get_or-eq_default x, get_or-eq_default y) (copied.alike 0)

  to_alike : {m n : Machine} → length m.memory ≡ length m.taints.bytes → Related related m n → Alike Anywhere (by_taint related) m n
  to_alike {m} {n} long h =
      record {
        pc = h.pc;
        monitor = h.monitor;
        registers = record { taints = h.other.marks ∙ sym h.real.marks; left = h.real.registers ∙ sym h.real.marks; right = h.other.registers ∙ sym h.real.marks; each = λ slot s i. (h.marks slot i, h.registers slot i) };
        bytes =
            record {
              taints = ap length (sym h.taints);
              left = long;
              right = h.memories ∙ long;
              each = λ i s. (ap (λ (k : List ℕ). get_or k i 0) h.taints, past_end m.taints.bytes m.memory n.memory long (h.memories ∙ long) i (h.bytes i));
            };
      }

  from_alike : {m n : Machine} → Real m → Real n → Alike Anywhere (by_taint related) m n → Related related m n
  from_alike {m} {n} real other h =
      record {
        real = real;
        other = other;
        pc = h.pc;
        monitor = h.monitor;
        marks = λ slot i. (h.registers.each slot tt i).0;
        taints = ext_get_or 0 m.taints.bytes n.taints.bytes (sym h.bytes.taints) (λ i l. (h.bytes.each i tt).0);
        registers = λ slot i. (h.registers.each slot tt i).1;
        memories = h.bytes.right ∙ sym h.bytes.left;
        bytes = λ i l. (h.bytes.each i tt).1;
      }

  related_shape : Shaped Anywhere (by_taint related) (Related related)
  related_shape =
      record {
        real = λ m n h. h.real;
        other = λ m n h. h.other;
        pc = λ m n h. h.pc;
        memories = λ m n h. h.memories;
        taints = λ m n h. ap length (sym h.taints);
        to = λ m n long h. to_alike long h;
        from = λ m n real other h. from_alike real other h;
      }

  -- a step shows the same of machines whose bytes are related by their taints, and leaves such machines; and so does a run
  module _ (w : Window) where
    pub step_related : (m n : Machine) → Related related m n → (word : ℕ) → Shows (Related related) (step_of w word m) (step_of w word n)
    step_related = step_shows copied related_shape w Alone (λ len t a e s i l g. tt)

    pub run_related : (words : List ℕ) (m n : Machine) (l k : Log) → Related related m n → SameRoom l k → ShowsRun (Related related) (machine_run w words m l) (machine_run w words n k)
    run_related words m n l k h room = run_shown copied related_shape w Alone (λ len t a e s i l g. tt) (bad w) (λ m n. bad_same copied related_shape w Alone (λ len t a e s i l g. tt) m n) words m n h l k room

-- two runs of the same words in the same window, from machines that differ only in what is tainted, with traces
-- and status lists of the same length, show the same and end in such machines
pub demand_3 : (w : Window) (words : List ℕ) (m n : Machine) (l k : Log) → Same m n → SameRoom l k → ShowsRun Same (machine_run w words m l) (machine_run w words n k)
demand_3 = run_related secret

-- its other half: from machines whose tainted bytes are all 0 and all 255, and which are else alike, they end in such machines
pub other_half : (w : Window) (words : List ℕ) (m n : Machine) (l k : Log) → Filled m n → SameRoom l k → ShowsRun Filled (machine_run w words m l) (machine_run w words n k)
other_half = run_related opposed

-- the taints at the end of a run are the taint rule's, applied in order to each step done, at its word and at
-- what trace and statuses show of it
pub taints_of_run : (w : Window) (words : List ℕ) (m : Machine) (l : Log)
    → (machine_run w words m l).machine.taints ≡ after_steps (word_rule w.origin) words (machine_run w words m l).log (machine_run w words m l).steps m.taints
taints_of_run w words m l = run_rule taints_in (word_rule w.origin) (step_of w) (taints_by_rule w) (bad w) words m l

-- all of it, of what equals a run
pub record Promised (w : Window) (words : List ℕ) (m : Machine) (l : Log) (t : Result Machine) : Type 0 where
  pub exact : t ≡ machine_run w words m l
  pub rule : t.machine.taints ≡ after_steps (word_rule w.origin) words t.log t.steps m.taints
  pub secret : (n : Machine) (k : Log) → Same m n → SameRoom l k → ShowsRun Same t (machine_run w words n k)
  pub filled : (n : Machine) (k : Log) → Filled m n → SameRoom l k → ShowsRun Filled t (machine_run w words n k)

pub promised : (w : Window) (words : List ℕ) (m : Machine) (l : Log) {t : Result Machine} → t ≡ machine_run w words m l → Promised w words m l t
promised w words m l e =
    record {
      exact = e;
      rule = rw e (taints_of_run w words m l);
      secret = λ n k h room. rw e (demand_3 w words m n l k h room);
      filled = λ n k h room. rw e (other_half w words m n l k h room);
    }
