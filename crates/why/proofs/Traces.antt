-- What a trace is that answer 17 does not refuse. Assumes nothing.
use Rattle.std.proofs.Common.{◌≡◌, ℕ, zero, suc, ◌+◌, ◌-◌, ◌*◌, ◌^◌, ◌<◌, ◌≤◌, Bool, true, false, not, eqb, ltb, List, length, get_or, sym, refl, subst, arith, ltb-false, eqb-true}
use native.Mathlib.Decide.{ℕ_discrete}
use borrow.Author.Tests.{not-false}
use Rattle.bits.specs.Choice.{pick}
use Rattle.instruction.specs.Answers.{answer_number}
use Rattle.decoder.specs.Decoding.{class_of}
use Rattle.access.specs.declared.transfer.Transfer.{Transfer}
use Rattle.access.specs.declared.Access.{Access}
use Rattle.access.specs.declared.Access.TheVariants.{Nothing, Moves}
use Rattle.access.specs.Accesses.{word_access}
use Rattle.plan.specs.declared.window.Window.{Window}
use Rattle.plan.specs.Window.{bad_window}
use Rattle.plan.specs.Refusals.{answer_in}
use Rattle.plan.specs.Admission.{total_of, outside, admit_of}
use Rattle.plan.proofs.Refusals.{Passed, none_holds}
use Rattle.machine.specs.declared.Shown.{Shown}
use Rattle.machine.specs.Machine.{code_of}
use Rattle.execution.specs.Walk.{Log, shown_at, too_short}
use Rattle.why.specs.Trail.{Past}
use Rattle.why.specs.Trace.{is_refused, wrong_access, wrong_step, some_step, wrong_at, wrong_trace}
use Rattle.why.proofs.Trails.{total_in, Inside}

-- a test before others that refuses
pub passes : (a : Bool) {b : Bool} → pick a true b ≡ false → (a ≡ false) × (b ≡ false)
passes true e = absurd (let z : ◌≡◌ {A = ℕ} 0 1 = cc in omega arith)
passes false e = (refl, e)

-- and one that must hold
pub meets : (a : Bool) {b : Bool} → pick a b true ≡ false → (a ≡ true) × (b ≡ false)
meets true e = (refl, e)
meets false e = absurd (let z : ◌≡◌ {A = ℕ} 0 1 = cc in omega arith)

pub no_step : (f : ℕ → Bool) (n i : ℕ) → some_step f n ≡ false → i < n → f i ≡ false
unfolding some_step
no_step f zero i e h = absurd (omega arith)
no_step f (suc n) i e h = go (λ l. no_step f n i (passes (f n) e).1 l) (ℕ_discrete i n)
  where
    go : (i < n → f i ≡ false) → Dec (i ≡ n) → f i ≡ false
    go k (yes d) = subst (λ (k : ℕ). f k ≡ false) (sym d) (passes (f n) e).0
    go k (no d) = k (omega arith)

-- no admitted access lies outside
pub outside_not : (total a origin len : ℕ) → outside total a origin len ≡ false → (origin ≤ a) × (a + total ≤ origin + len)
unfolding outside
outside_not total a origin len e =
    let t = passes (ltb a origin) e in
    (ltb-false a origin t.0, ltb-false (origin + len) (a + total) t.1)

admitted : (w : Window) (len : ℕ) (t : Transfer) (a : ℕ) → is_refused (answer_in (admit_of w len t a)) ≡ false → (w.origin ≤ a) × (a + total_of t ≤ w.origin + len)
unfolding admit_of
admitted w len t a e =
    let z : answer_number (answer_in (admit_of w len t a)) ≡ 0 = eqb-true _ 0 (not-false _ e) in
    let p : Passed (admit_of w len t a) = none_holds (admit_of w len t a) ((λ h. omega arith), ((λ h. omega arith), ((λ h. omega arith), ((λ h. omega arith), tt)))) z in
    outside_not (total_of t) a w.origin len p.1.1.0

access_inside : (w : Window) (len : ℕ) (x : Access) (code address : ℕ) → wrong_access w len x code address ≡ false → address - w.origin + total_in x ≤ len
access_inside w len Nothing code address e =
    let z : address ≡ 0 = eqb-true address 0 (not-false _ (meets (eqb code 0) e).1) in
    omega arith
access_inside w len (Moves t a) code address e =
    let h = admitted w len t address (meets (eqb code (code_of t)) e).1 in
    omega arith

step_inside : (w : Window) (len word : ℕ) (s : Shown) → wrong_step w len word s ≡ false → s.address - w.origin + total_in (word_access word) ≤ len
unfolding wrong_step
step_inside w len word s e =
    let a = (passes (is_refused (class_of word)) e).1 in
    access_inside w len (word_access word) s.code s.address (passes (ltb 1 s.status) a).1

-- the lists are long enough
pub record Long (ws : List ℕ) (l : Log) (steps : ℕ) : Type 0 where
  pub words : steps ≤ length ws
  pub trace : steps * 2 ≤ length l.trace
  pub statuses : steps ≤ length l.statuses

module _ (w : Window) (len : ℕ) (ws : List ℕ) (l : Log) (steps : ℕ) (e : wrong_trace w len ws l steps ≡ false) where
  pub long : Long ws l steps
  unfolding wrong_trace too_short
  long =
      let a = passes (ltb (length ws) steps) e in
      let b = passes (too_short steps (length l.trace) (length l.statuses)) a.1 in
      let c = passes (ltb (length l.trace) (steps * 2)) b.0 in
      record { words = ltb-false _ _ a.0; trace = ltb-false _ _ c.0; statuses = ltb-false _ _ c.1 }

  pub right_at : (i : ℕ) → i < steps → wrong_step w len (get_or ws i 0) (shown_at l i) ≡ false
  unfolding wrong_trace
  right_at i h =
      let a = passes (ltb (length ws) steps) e in
      let b = passes (too_short steps (length l.trace) (length l.statuses)) a.1 in
      no_step (wrong_at w len ws l) steps i b.1 h

pub record Good (w : Window) (len marks : ℕ) : Type 0 where
  pub ends : w.origin + len ≤ 2 ^ 64
  pub readonly : w.readonly ≤ len
  pub taints : marks ≡ len

pub good : (w : Window) (len taints : ℕ) → bad_window w len taints 0 ≡ false → Good w len taints
unfolding bad_window
good w len taints e =
    let a = passes (ltb (2 ^ 64) (w.origin + len)) e in
    let b = passes (ltb len w.readonly) a.1 in
    let c = passes (not (eqb taints len)) b.1 in
    record { ends = ltb-false _ _ a.0; readonly = ltb-false _ _ b.0; taints = eqb-true taints len (not-false _ c.0) }

-- every access of a trace that is not wrong lies in memory
pub inside : (w : Window) (len : ℕ) (g : Past) (steps : ℕ) → g.origin ≡ w.origin → length g.start.bytes ≡ len → wrong_trace w len g.words g.log steps ≡ false → Inside g steps
inside w len g steps o k e i h =
    rw (o, k) (step_inside w len (get_or g.words i 0) (shown_at g.log i) (right_at w len g.words g.log steps e i h))
