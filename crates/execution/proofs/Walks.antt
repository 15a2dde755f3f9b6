-- Laws of a run, over any machine and any step. Assumes nothing.
use Prim.Native.Nat.{ℕ, zero, suc, ◌+◌, ◌*◌, ◌≤◌, ◌<◌}
use mathlib.Core.Path.{◌≡◌, refl, sym, ap, ◌∙◌}
use mathlib.Core.Bool.{Bool, true, false}
use mathlib.Core.List.{List, [], ◌∷◌}
use mathlib.Core.Logic.{◌⊎◌, inl, inr}
use native.Mathlib.Nat.{add-zero, zero-add}
use native.Mathlib.Omega.{arith}
use borrow.Author.Tests.{ltb-false}
use lib.Dec.{ltb}
use Rattle.bits.specs.Choice.{pick}
use lib.ListN.{length, take, drop, get_or, set, drop_of_length-le}
use lib.Seq.{take-length, drop-cons, get_or-take}
use Rattle.bits.proofs.Lists.{sets_front}
use Rattle.instruction.specs.declared.answer.Answer.{Answer}
use Rattle.instruction.specs.declared.answer.Answer.TheVariants.{Done, BadWindow, NoRoom}
use Rattle.instruction.specs.Answers.{answer_number}
use Rattle.machine.specs.declared.Shown.{Shown}
use Rattle.machine.specs.Step.{shown, Step, stopped, moved, Outcome}
use Rattle.machine.proofs.Answers.{Refuses}
use Rattle.machine.proofs.Taints.{Follows}
use Rattle.secrecy.specs.Shows.{Shows}
use Rattle.execution.specs.Walk.{Walked, halted, ahead, go_on, walk_of, numbers_of, statuses_of, Log, log, logged, Result, glue, not_begun, too_short, short, run_of, after_steps}
use Rattle.execution.specs.Ends.{alone, Kept, Tried, Ends, last_of}
use Rattle.execution.specs.Secrecy.{SameRoom, ShowsRun}

-- ---- the loop

-- a log with what the step at i showed
abbrev pub noted : ℕ → Log → Shown → Log
noted i l s = log (set (set l.trace (i * 2) s.code) (i * 2 + 1) s.address) (set l.statuses i s.status)

-- a walk that halts at once adds nothing
halts : {A : Type 0} (i : ℕ) (m : A) (l : Log) (answer : Answer) (s : Shown) → record { machine = m; log = l; steps = i; answer = answer; shown = s } ≡ glue i l (halted m answer s)
halts i m l answer s = rw add-zero

module _ {A : Type 0} (f : ℕ → A → Step A) (ws : List ℕ) (i : ℕ) (m : A) (l : Log) (last : Shown) (below : i < length ws) where
  -- a step done
  pub walk_more : {n : A} {s : Shown} → f (get_or ws i 0) m ≡ moved n s
      → glue i l (walk_of f (drop i ws) m last) ≡ glue (i + 1) (noted i l s) (walk_of f (drop (i + 1) ws) n s)
  unfolding walk_of
  walk_more {n} {s} e =
      let t : Walked A = walk_of f (drop (suc i) ws) n s in
      let p : (i + 1) * 2 ≡ suc (suc (i * 2)) = omega arith in
      let q : i * 2 + 1 ≡ suc (i * 2) = omega arith in
      let g : i + 1 ≡ suc i = omega arith in
      let k : i + suc (length t.done) ≡ suc i + length t.done = omega arith in
      rw (p, q, g, drop-cons ws i 0, e, k)

  -- a step refused
  pub walk_stop : {answer : Answer} {address : ℕ} → f (get_or ws i 0) m ≡ stopped answer address
      → record { machine = m; log = l; steps = i; answer = answer; shown = shown 0 address 0 } ≡ glue i l (walk_of f (drop i ws) m last)
  unfolding walk_of
  walk_stop {answer} {address} e = rw (drop-cons ws i 0, e) (halts i m l answer (shown 0 address 0))

-- no word left
pub walk_end : {A : Type 0} (f : ℕ → A → Step A) (ws : List ℕ) (i : ℕ) (m : A) (l : Log) (last : Shown) → length ws ≤ i
    → record { machine = m; log = l; steps = i; answer = Done; shown = last } ≡ glue i l (walk_of f (drop i ws) m last)
unfolding walk_of
walk_end f ws i m l last h = rw (drop_of_length-le ws) (halts i m l Done last)

-- ---- lengths

-- two numbers for each step done
pub numbers_long : (ss : List Shown) → length (numbers_of ss) ≡ length ss * 2
numbers_long [] = refl
numbers_long (s ∷ ss) = omega (arith, numbers_long ss)

pub statuses_long : (ss : List Shown) → length (statuses_of ss) ≡ length ss
statuses_long [] = refl
statuses_long (s ∷ ss) = ap suc (statuses_long ss)

-- a log that is not too short has room for every word
enough_at : (words trace statuses : ℕ) (b : Bool) → ltb trace (words * 2) ≡ b → pick b true (ltb statuses words) ≡ false → (words * 2 ≤ trace) × (words ≤ statuses)
enough_at words trace statuses true e h = absurd (let z : ◌≡◌ {A = ℕ} 0 1 = cc in omega arith)
enough_at words trace statuses false e h = (ltb-false trace (words * 2) e, ltb-false statuses words h)

pub long_enough : (ws : List ℕ) (l : Log) → short ws l ≡ false → (length ws * 2 ≤ length l.trace) × (length ws ≤ length l.statuses)
unfolding too_short
long_enough ws l e = enough_at (length ws) (length l.trace) (length l.statuses) (ltb (length l.trace) (length ws * 2)) refl e

module _ {A : Type 0} (f : ℕ → A → Step A) where
  go_short : (m : A) (rest : A → Shown → Walked A) (l : ℕ) → ((n : A) (s : Shown) → length (rest n s).done ≤ l) → (t : Step A) → length (go_on m rest t).done ≤ suc l
  go_short m rest l k (stopped answer address) = omega arith
  go_short m rest l k (moved n s) = omega (arith, k n s)

  -- no more steps than words
  pub walk_short : (ws : List ℕ) (m : A) (last : Shown) → length (walk_of f ws m last).done ≤ length ws
  unfolding walk_of
  walk_short [] m last = omega arith
  walk_short (w ∷ ws) m last = go_short m (walk_of f ws) (length ws) (walk_short ws) (f w m)

  module _ (ws : List ℕ) (m : A) (l : Log) (e : short ws l ≡ false) where
    abbrev pub walked : List Shown
    walked = (walk_of f ws m (shown 0 0 0)).done

    -- what the trace of a walk begins with, and its statuses
    pub trace_begins : take ((0 + length walked) * 2) (logged 0 l walked).trace ≡ numbers_of walked
    trace_begins =
        let fit : length (numbers_of walked) ≤ length l.trace = omega (arith, (long_enough ws l e).0, numbers_long walked, walk_short ws m (shown 0 0 0)) in
        rw (zero-add, ← numbers_long walked) (sets_front (numbers_of walked) l.trace fit)

    pub statuses_begin : take (0 + length walked) (logged 0 l walked).statuses ≡ statuses_of walked
    statuses_begin =
        let fit : length (statuses_of walked) ≤ length l.statuses = omega (arith, (long_enough ws l e).1, statuses_long walked, walk_short ws m (shown 0 0 0)) in
        rw (zero-add, ← statuses_long walked) (sets_front (statuses_of walked) l.statuses fit)

-- ---- two runs

record ShowsWalk {A : Type 0} (R : A → A → Type 0) (t u : Walked A) : Type 0 where
  pub machine : R t.machine u.machine
  pub done : t.done ≡ u.done
  pub answer : t.answer ≡ u.answer
  pub shown : t.shown ≡ u.shown

module _ {A : Type 0} (R : A → A → Type 0) (f : ℕ → A → Step A) (shows : (w : ℕ) (m n : A) → R m n → Shows R (f w m) (f w n)) where
  go_shows : (m n : A) (rest : A → Shown → Walked A) → R m n → ((p q : A) (s : Shown) → R p q → ShowsWalk R (rest p s) (rest q s)) → (s t : Step A) → Shows R s t → ShowsWalk R (go_on m rest s) (go_on n rest t)
  go_shows m n rest r k (stopped answer address) (stopped other place) h = record { machine = r; done = refl; answer = h.0; shown = rw h.1 }
  go_shows m n rest r k (stopped answer address) (moved q seen) h = absurd h
  go_shows m n rest r k (moved p s) (stopped other place) h = absurd h
  go_shows m n rest r k (moved p s) (moved q seen) h =
      let t = k p q seen h.0 in
      rw h.1 (record { machine = t.machine; done = rw t.done; answer = t.answer; shown = t.shown })

  walk_shows : (ws : List ℕ) (m n : A) (last : Shown) → R m n → ShowsWalk R (walk_of f ws m last) (walk_of f ws n last)
  unfolding walk_of
  walk_shows [] m n last r = record { machine = r; done = refl; answer = refl; shown = refl }
  walk_shows (w ∷ ws) m n last r = go_shows m n (walk_of f ws) r (walk_shows ws) (f w m) (f w n) (shows w m n r)

  module _ (bad : A → Bool) (alike : (m n : A) → R m n → bad m ≡ bad n) (ws : List ℕ) (m n : A) (r : R m n) (u v : Log) (room : SameRoom u v) where
    short_same : short ws u ≡ short ws v
    short_same = rw (room.trace, room.statuses)

    begun : short ws u ≡ false → ShowsRun R (glue 0 u (walk_of f ws m (shown 0 0 0))) (glue 0 v (walk_of f ws n (shown 0 0 0)))
    begun e =
        let l : ShowsWalk R (walk_of f ws m (shown 0 0 0)) (walk_of f ws n (shown 0 0 0)) = walk_shows ws m n (shown 0 0 0) r in
        let d : short ws v ≡ false = sym short_same ∙ e in
        record {
          machine = l.machine;
          trace = trace_begins f ws m u e ∙ ap numbers_of l.done ∙ sym (trace_begins f ws n v d);
          statuses = statuses_begin f ws m u e ∙ ap statuses_of l.done ∙ sym (statuses_begin f ws n v d);
          steps = ap (λ (ss : List Shown). 0 + length ss) l.done;
          answer = l.answer;
          shown = l.shown;
        }

    run_at : (y z : Bool) → bad m ≡ y → short ws u ≡ z → ShowsRun R (run_of bad f ws m u) (run_of bad f ws n v)
    unfolding run_of
    run_at true z e g = rw (← alike m n r, e) (record { machine = r; trace = refl; statuses = refl; steps = refl; answer = refl; shown = refl })
    run_at false true e g = rw (← alike m n r, e, ← short_same, g) (record { machine = r; trace = refl; statuses = refl; steps = refl; answer = refl; shown = refl })
    run_at false false e g = rw (← alike m n r, e, ← short_same, g) (begun g)

    -- a step that keeps a relation and shows the same makes a run that does
    pub run_shows : ShowsRun R (run_of bad f ws m u) (run_of bad f ws n v)
    run_shows = run_at (bad m) (short ws u) refl refl

  -- and leaves the same log where the same is lent
  module _ (bad : A → Bool) (alike : (m n : A) → R m n → bad m ≡ bad n) (ws : List ℕ) (m n : A) (r : R m n) (u : Log) where
    log_at : (y z : Bool) → bad m ≡ y → short ws u ≡ z → (run_of bad f ws m u).log ≡ (run_of bad f ws n u).log
    unfolding run_of
    log_at true z e g = rw (← alike m n r, e)
    log_at false true e g = rw (← alike m n r, e, g)
    log_at false false e g = rw (← alike m n r, e, g) (ap (logged 0 u) (walk_shows ws m n (shown 0 0 0) r).done)

    pub run_log : (run_of bad f ws m u).log ≡ (run_of bad f ws n u).log
    run_log = log_at (bad m) (short ws u) refl refl

-- ---- a rule over the steps done

-- a log of just these steps
abbrev pub log_of : List Shown → Log
log_of ss = log (numbers_of ss) (statuses_of ss)

module _ {B : Type 0} (rule : ℕ → Shown → B → B) where
  -- one step more at the front
  pub after_cons : (w : ℕ) (ws : List ℕ) (s : Shown) (ss : List Shown) (j : ℕ) (b : B) → after_steps rule (w ∷ ws) (log_of (s ∷ ss)) (suc j) b ≡ after_steps rule ws (log_of ss) j (rule w s b)
  unfolding after_steps
  after_cons w ws s ss zero b = refl
  after_cons w ws s ss (suc j) b =
      let d : suc j * 2 ≡ suc (suc (j * 2)) = omega arith in
      let e : suc j * 2 + 1 ≡ suc (suc (j * 2 + 1)) = omega arith in
      rw (e, d, ← after_cons w ws s ss j b)

  pub same_at : (t u : List ℕ) (n i : ℕ) → take n t ≡ take n u → i < n → get_or t i 0 ≡ get_or u i 0
  same_at t u n i e l = sym (get_or-take n t i 0 l) ∙ ap (λ (v : List ℕ). get_or v i 0) e ∙ get_or-take n u i 0 l

  -- what a log holds of the first steps decides
  pub after_log : (ws : List ℕ) (t u : Log) (n j : ℕ) (b : B) → take (n * 2) t.trace ≡ take (n * 2) u.trace → take n t.statuses ≡ take n u.statuses → j ≤ n
      → after_steps rule ws t j b ≡ after_steps rule ws u j b
  unfolding after_steps
  after_log ws t u n zero b e f h = refl
  after_log ws t u n (suc j) b e f h =
      rw (same_at t.trace u.trace (n * 2) (j * 2) e (omega arith), same_at t.trace u.trace (n * 2) (j * 2 + 1) e (omega arith), same_at t.statuses u.statuses n j f (omega arith), after_log ws t u n j b e f (omega arith))

-- a step that moves leaves a machine of which this holds
abbrev pub Leaves : {A : Type 0} → (A → Type 0) → Step A → Type 0
Leaves P (stopped answer address) = Unit {0}
Leaves P (moved n s) = P n

-- of machines of which something holds that every step keeps
module _ {A B : Type 0} (P : A → Type 0) (part : A → B) (rule : ℕ → Shown → B → B) (f : ℕ → A → Step A) (keeps : (w : ℕ) (m : A) → P m → Leaves P (f w m)) (follows : (w : ℕ) (m : A) → P m → Follows part (rule w) m (f w m)) where
  abbrev Ruled : List ℕ → B → Walked A → Type 0
  Ruled ws b t = part t.machine ≡ after_steps rule ws (log_of t.done) (length t.done) b

  go_rule : (w : ℕ) (ws : List ℕ) (m : A) (rest : A → Shown → Walked A) → ((n : A) (s : Shown) → P n → Ruled ws (part n) (rest n s)) → (s : Step A) → Leaves P s → Follows part (rule w) m s → Ruled (w ∷ ws) (part m) (go_on m rest s)
  unfolding after_steps
  go_rule w ws m rest k (stopped answer address) h e = refl
  go_rule w ws m rest k (moved n s) h e =
      let d = (rest n s).done in
      k n s h ∙ ap (after_steps rule ws (log_of d) (length d)) e ∙ sym (after_cons rule w ws s d (length d) (part m))

  walk_rule : (ws : List ℕ) (m : A) (last : Shown) → P m → Ruled ws (part m) (walk_of f ws m last)
  unfolding walk_of after_steps
  walk_rule [] m last h = refl
  walk_rule (w ∷ ws) m last h = go_rule w ws m (walk_of f ws) (walk_rule ws) (f w m) (keeps w m h) (follows w m h)

  module _ (bad : A → Bool) (ws : List ℕ) (m : A) (l : Log) (h : P m) where
    begun_rule : short ws l ≡ false
        → let t = glue 0 l (walk_of f ws m (shown 0 0 0)) in
        part t.machine ≡ after_steps rule ws t.log t.steps (part m)
    begun_rule e =
        let d : List Shown = (walk_of f ws m (shown 0 0 0)).done in
        let n : ℕ = 0 + length d in
        let numbers : n * 2 ≡ length (numbers_of d) = rw (zero-add, numbers_long d) in
        let statuses : n ≡ length (statuses_of d) = rw (zero-add, statuses_long d) in
        let trace : take (n * 2) (numbers_of d) ≡ take (n * 2) (logged 0 l d).trace = ap (λ (k : ℕ). take k (numbers_of d)) numbers ∙ take-length (numbers_of d) ∙ sym (trace_begins f ws m l e) in
        let rest : take n (statuses_of d) ≡ take n (logged 0 l d).statuses = ap (λ (k : ℕ). take k (statuses_of d)) statuses ∙ take-length (statuses_of d) ∙ sym (statuses_begin f ws m l e) in
        walk_rule ws m (shown 0 0 0) h ∙ ap (λ (k : ℕ). after_steps rule ws (log_of d) k (part m)) (sym (zero-add (length d))) ∙ after_log rule ws (log_of d) (logged 0 l d) n n (part m) trace rest (omega arith)

    abbrev ran : Result A
    ran = run_of bad f ws m l

    run_rule_at : (y z : Bool) → bad m ≡ y → short ws l ≡ z → part ran.machine ≡ after_steps rule ws ran.log ran.steps (part m)
    unfolding run_of after_steps
    run_rule_at true z e g = rw e
    run_rule_at false true e g = rw (e, g)
    run_rule_at false false e g = rw (e, g) (begun_rule g)

    -- a rule that each step done follows is followed by the whole run
    pub run_rule_in : part (run_of bad f ws m l).machine ≡ after_steps rule ws (run_of bad f ws m l).log (run_of bad f ws m l).steps (part m)
    run_rule_in = run_rule_at (bad m) (short ws l) refl refl

-- of all
module _ {A B : Type 0} (part : A → B) (rule : ℕ → Shown → B → B) (f : ℕ → A → Step A) (follows : (w : ℕ) (m : A) → Follows part (rule w) m (f w m)) where
  anything : (s : Step A) → Leaves (λ m. Unit {0}) s
  anything (stopped answer address) = tt
  anything (moved n s) = tt

  pub run_rule : (bad : A → Bool) (ws : List ℕ) (m : A) (l : Log) → part (run_of bad f ws m l).machine ≡ after_steps rule ws (run_of bad f ws m l).log (run_of bad f ws m l).steps (part m)
  run_rule bad ws m l = run_rule_in (λ m. Unit {0}) part rule f (λ w m h. anything (f w m)) (λ w m h. follows w m) bad ws m l tt

-- ---- a part of the machine that no step changes

module _ {A B : Type 0} (part : A → B) (f : ℕ → A → Step A) (follows : (w : ℕ) (m : A) → Follows part (λ a b. b) m (f w m)) where
  after_none : (ws : List ℕ) (l : Log) (j : ℕ) (b : B) → after_steps (λ w a b. b) ws l j b ≡ b
  unfolding after_steps
  after_none ws l zero b = refl
  after_none ws l (suc j) b = after_none ws l j b

  -- a run leaves it as it was
  pub run_leaves : (bad : A → Bool) (ws : List ℕ) (m : A) (l : Log) → part (run_of bad f ws m l).machine ≡ part m
  run_leaves bad ws m l = run_rule part (λ w a b. b) f follows bad ws m l ∙ after_none ws (run_of bad f ws m l).log (run_of bad f ws m l).steps (part m)

-- ---- what a refused run keeps

-- the second walk does what the first has done, and is not refused
record Keeps {A : Type 0} (t u : Walked A) : Type 0 where
  pub machine : t.machine ≡ u.machine
  pub shows : t.done ≡ u.done
  pub done : u.answer ≡ Done

module _ {A : Type 0} (f : ℕ → A → Step A) where
  go_keeps : (w : ℕ) (ws : List ℕ) (m : A) (last : Shown) (s : Step A) → f w m ≡ s → ((n : A) (v : Shown) → Keeps (walk_of f ws n v) (walk_of f (take (length (walk_of f ws n v).done) ws) n v))
      → Keeps (go_on m (walk_of f ws) s) (walk_of f (take (length (go_on m (walk_of f ws) s).done) (w ∷ ws)) m last)
  unfolding walk_of
  go_keeps w ws m last (stopped answer address) e k = record { machine = refl; shows = refl; done = refl }
  go_keeps w ws m last (moved n v) e k =
      let t = k n v in
      rw e (record { machine = t.machine; shows = ap (λ ss. v ∷ ss) t.shows; done = t.done })

  -- the steps done are those of the list's beginning, run alone
  walk_keeps : (ws : List ℕ) (m : A) (last : Shown) → Keeps (walk_of f ws m last) (walk_of f (take (length (walk_of f ws m last).done) ws) m last)
  unfolding walk_of
  walk_keeps [] m last = record { machine = refl; shows = refl; done = refl }
  walk_keeps (w ∷ ws) m last = go_keeps w ws m last (f w m) refl (walk_keeps ws)

  module _ (bad : A → Bool) (ws : List ℕ) (m : A) (l : Log) where
    keeps_at : (y z : Bool) → bad m ≡ y → short ws l ≡ z → Kept f ws m l (run_of bad f ws m l)
    unfolding run_of walk_of
    keeps_at true z e g = rw e (record { machine = refl; log = refl; steps = refl; done = refl })
    keeps_at false true e g = rw (e, g) (record { machine = refl; log = refl; steps = refl; done = refl })
    keeps_at false false e g =
        let t = walk_keeps ws m (shown 0 0 0) in
        rw (e, g, zero-add) (record { machine = t.machine; log = ap (logged 0 l) t.shows; steps = ap length t.shows; done = ap answer_number t.done })

    -- a run leaves what the steps done leave, run alone and not refused
    pub run_keeps : Kept f ws m l (run_of bad f ws m l)
    run_keeps = keeps_at (bad m) (short ws l) refl refl

-- ---- how a run ends

module _ {A : Type 0} (f : ℕ → A → Step A) (refuses : (w : ℕ) (m : A) → Refuses (f w m)) where
  -- the machine that is left is the same whatever was shown before
  machine_any : (ws : List ℕ) (m : A) (s v : Shown) → (walk_of f ws m s).machine ≡ (walk_of f ws m v).machine
  unfolding walk_of
  machine_any [] m s v = refl
  machine_any (w ∷ ws) m s v = refl

  module _ (w : ℕ) (ws : List ℕ) (m n : A) (s : Shown) (e : f w m ≡ moved n s) where
    alone_later : (i : ℕ) → (alone f (w ∷ ws) m (suc i)).machine ≡ (alone f ws n i).machine
    unfolding walk_of
    alone_later i = rw e (machine_any (take i ws) n s (shown 0 0 0))

    -- what is tried after a step done is tried one word later
    later : (i : ℕ) (o : Outcome A) → Tried f ws n i o → Tried f (w ∷ ws) m (suc i) o
    later i o (l, h) = (omega arith, rw (alone_later i) h)

  -- the last step of words that are all done, with what the step before them showed
  abbrev LastOf : List ℕ → A → Shown → Outcome A → Type 0
  LastOf [] m last o = o ≡ record { machine = m; answer = Done; shown = last }
  LastOf (w ∷ ws) m last o = Tried f (w ∷ ws) m (length ws) o

  abbrev EndsFrom : List ℕ → A → Shown → Walked A → Type 0
  EndsFrom ws m last t =
      let o : Outcome A = record { machine = t.machine; answer = t.answer; shown = t.shown } in
      ((length t.done ≡ length ws) × (t.answer ≡ Done) × LastOf ws m last o) ⊎ (¬ (answer_number t.answer ≡ 0) × Tried f ws m (length t.done) o)

  last_later : (w : ℕ) (ws : List ℕ) (m n : A) (s : Shown) → f w m ≡ moved n s → (o : Outcome A) → LastOf ws n s o → Tried f (w ∷ ws) m (length ws) o
  unfolding walk_of
  last_later w [] m n s e o h = (omega arith, rw (e, h))
  last_later w (v ∷ vs) m n s e o h = later w (v ∷ vs) m n s e (length vs) o h

  go_ends : (w : ℕ) (ws : List ℕ) (m : A) (last : Shown) (s : Step A) → f w m ≡ s → Refuses s → ((n : A) (v : Shown) → EndsFrom ws n v (walk_of f ws n v)) → EndsFrom (w ∷ ws) m last (go_on m (walk_of f ws) s)
  unfolding walk_of
  go_ends w ws m last (stopped answer address) e r k = inr (r, (omega arith, rw e))
  go_ends w ws m last (moved n v) e r k = ends_later (walk_of f ws n v) (k n v)
    where
      ends_later : (t : Walked A) → EndsFrom ws n v t → EndsFrom (w ∷ ws) m last (ahead v t)
      ends_later t (inl (l, d, h)) = inl (ap suc l, d, last_later w ws m n v e _ h)
      ends_later t (inr (d, h)) = inr (d, later w ws m n v e (length t.done) _ h)

  walk_ends : (ws : List ℕ) (m : A) (last : Shown) → EndsFrom ws m last (walk_of f ws m last)
  unfolding walk_of
  walk_ends [] m last = inl (refl, refl, refl)
  walk_ends (w ∷ ws) m last = go_ends w ws m last (f w m) refl (refuses w m) (walk_ends ws)

  ends_from : (ws : List ℕ) (m : A) (log : Log) (t : Walked A) → EndsFrom ws m (shown 0 0 0) t → Ends f ws m (0 + length t.done) (last_of (glue 0 log t))
  ends_from [] m log t (inl (l, d, h)) = rw zero-add (inl (l, ap answer_number d, (ap (λ (o : Outcome A). o.machine) h, ap (λ (o : Outcome A). o.shown) h)))
  ends_from (w ∷ ws) m log t (inl (l, d, h)) = rw zero-add (inl (l, ap answer_number d, h))
  ends_from ws m log t (inr (d, h)) = rw zero-add (inr (d, h))

  -- a run that is begun ends with every word done, or at the one that is refused
  pub run_ends : (bad : A → Bool) (ws : List ℕ) (m : A) (l : Log) → bad m ≡ false → short ws l ≡ false
      → Ends f ws m (run_of bad f ws m l).steps (last_of (run_of bad f ws m l))
  unfolding run_of
  run_ends bad ws m l e g = rw (e, g) (ends_from ws m l (walk_of f ws m (shown 0 0 0)) (walk_ends ws m (shown 0 0 0)))

-- ---- the three ways that a run goes

module _ {A : Type 0} (bad : A → Bool) (f : ℕ → A → Step A) (ws : List ℕ) (m : A) (l : Log) {t : Result A} where
  pub run_bad : t ≡ not_begun BadWindow m l → bad m ≡ true → t ≡ run_of bad f ws m l
  unfolding run_of
  run_bad h e = rw e h

  pub run_short : t ≡ not_begun NoRoom m l → bad m ≡ false → short ws l ≡ true → t ≡ run_of bad f ws m l
  unfolding run_of
  run_short h e g = rw (e, g) h

  pub run_begun : t ≡ glue 0 l (walk_of f ws m (shown 0 0 0)) → bad m ≡ false → short ws l ≡ false → t ≡ run_of bad f ws m l
  unfolding run_of
  run_begun h e g = rw (e, g) h
