-- What the library promises: a contract is an equation between what a call returns and leaves and what a definition gives, and
-- each line is a part of it, or a theorem of the machine carried over it. Assumes nothing.
use Prim.Native.Nat.{ℕ, ◌*◌, ◌≤◌, ◌<◌}
use mathlib.Core.Path.{◌≡◌, refl, sym, ap, subst, ◌∙◌}
use mathlib.Core.Bool.{Bool, true, false, ◌||◌}
use mathlib.Core.List.{List, [], ◌∷◌, ◌++◌, map}
use mathlib.Core.Logic.{◌↔◌, ◌⊎◌, inl, inr}
use native.Mathlib.Omega.{arith}
use borrow.Author.Tests.{eqb-true, eq-eqb}
use lib.Dec.{eqb}
use lib.ListN.{length, take, drop, get_or-eq_default}
use lib.Seq.{take_at, drop_at, set_out, get_or-set_same, get_or-set_other}
use Rattle.bits.specs.Choice.{pick, any}
use Rattle.bits.specs.Fields.{field, bits}
use Rattle.bits.proofs.Choices.{both}
use Rattle.bits.proofs.Parts.{has_true}
use Rattle.instruction.specs.declared.answer.Answer.{Answer}
use Rattle.instruction.specs.Answers.{answer_number}
use Rattle.instruction.specs.Table.{in_set}
use Rattle.vectors.specs.declared.Halves.{Halves}
use Rattle.vectors.specs.File.{wide, with_vector, Held}
use Rattle.plan.specs.declared.window.Window.{Window}
use Rattle.plan.specs.declared.ranges.Reach.TheVariants.{Alone}
use Rattle.machine.specs.declared.State.{State}
use Rattle.machine.specs.declared.Shown.{Shown}
use Rattle.machine.specs.Machine.{Machine, machine_of}
use Rattle.machine.specs.Step.{Step, stopped, moved, performed}
use Rattle.session.specs.Vector.{vector_at}
use Rattle.session.specs.Lent.{Holding, Lent, reply_of}
use Rattle.session.proofs.Exact.{state_same, vectors_same, vector_taint_same}
use Rattle.secrecy.specs.Shows.{Shows}
use Rattle.execution.specs.Walk.{Log, log, Result, not_begun, after_steps}
use Rattle.execution.specs.Ends.{Early}
use Rattle.execution.specs.Secrecy.{Same, Filled, SameRoom, ShowsRun}
use Rattle.arm.specs.Choices.{bad_start, arm_step, arm_run, mark_rule}
use Rattle.arm.proofs.Answers.{answers_in, refuses_in, refused_unchanged}
use Rattle.arm.proofs.Runs.{run_early}
use Rattle.arm.proofs.Rules.{marks_in, marks_of_run}
use Rattle.reader.specs.Reading.{LineOf}
use Rattle.host.specs.declared.RunReply.{RunReply}
use Rattle.host.specs.declared.WordReply.{WordReply}
use Rattle.host.specs.Replies.{Numbered, ReadAs, ListerNumbered}
use Rattle.host.specs.Hosting.{Hosted, hosted, hosted_of, host_run}
use Rattle.records.specs.Replies.{touches_number}
use Rattle.records.specs.Space.{load_or_store, sets_block, touches_memory}
use Rattle.records.proofs.Spaces.{set_touches}
use Rattle.promises.specs.Answered.{one_of}
use Rattle.promises.specs.Library.{StepCall, step_start, step_end, StepGives, Slices, RunCall, run_start, run_end, lent_log, Gives, RunGives, RunsShow, Library}
use Rattle.promises.proofs.Answered.{step_number, run_number, word_some, word_number}
use Rattle.promises.proofs.Demands.{not_both, step_marks, two_steps as steps-related, two_runs as runs-related, two_fillings as runs-filled}

-- a relation carried over two equations
carried : {A : Type 0} (R : A → A → Type 0) {x y t u : A} → x ≡ t → y ≡ u → R t u → R x y
carried R e f h = rw (e, f) h

-- ---- what is held of the machine's registers

held_part : {xs : List ℕ} (x : List ℕ) (vs : List (List ℕ)) → length x ≡ 32 → x ++ map wide vs ≡ xs → (x ≡ take 32 xs) × (map wide vs ≡ drop 32 xs)
held_part x vs l e = (sym (take_at x (map wide vs) 32 l) ∙ ap (take 32) e, sym (drop_at x (map wide vs) 32 l) ∙ ap (drop 32) e)

-- ---- a step

step_gives : (c : StepCall) → StepGives c (performed (step_start c) (arm_step c.window c.word (step_start c)))
step_gives c =
    let (values, vectors) = held_part c.session'.registers.value c.vectors' c.held'.values (ap (λ (l : Lent). l.machine.values) c.allowed) in
    let (marks, vector_marks) = held_part c.session'.registers.taint c.vector_taint' c.held'.taints (ap (λ (l : Lent). l.machine.taints.registers) c.allowed) in
    record {
      answer = omega (arith, ap (λ (l : Lent). l.reply.answer) c.allowed);
      code = omega (arith, ap (λ (l : Lent). l.reply.code) c.allowed);
      address = omega (arith, ap (λ (l : Lent). l.reply.address) c.allowed);
      status = omega (arith, ap (λ (l : Lent). l.reply.status) c.allowed);
      values = values;
      marks = marks;
      vectors = vectors;
      vector_marks = vector_marks;
      pc = ap (λ (l : Lent). l.machine.pc) c.allowed;
      monitor = ap (λ (l : Lent). l.machine.monitor) c.allowed;
      memory = ap (λ (l : Lent). l.machine.memory) c.allowed;
      taint = ap (λ (l : Lent). l.machine.taints.bytes) c.allowed;
    }

step_unchanged : (c : StepCall) → ¬ (c.reply.answer ≡ 0) → step_end c ≡ step_start c
step_unchanged c h = ap (λ (l : Lent). l.machine) c.allowed ∙ refused_unchanged (step_start c) (arm_step c.window c.word (step_start c)) (λ e. h ((step_gives c).answer ∙ e))

step_kept : (c : StepCall) → ¬ (c.reply.answer ≡ 0)
    → (c.session' ≡ c.session) × (c.vectors' ≡ c.vectors) × (c.vector_taint' ≡ c.vector_taint) × (c.memory' ≡ c.memory) × (c.taint' ≡ c.taint)
step_kept c h =
    let same = step_unchanged c h in (
      state_same c.held' c.held same,
      vectors_same c.held' c.held same,
      vector_taint_same c.held' c.held same,
      ap (λ (m : Machine). m.memory) same,
      ap (λ (m : Machine). m.taints.bytes) same,
    )

record ShowsLent (l k : Lent) : Type 0 where
  reply : l.reply ≡ k.reply
  machine : Same l.machine k.machine

abbrev lent_by : Machine → Step Machine → Lent
lent_by m s = let o = performed m s in record { machine = o.machine; reply = reply_of o.answer o.shown }

shows_lent : (m n : Machine) (s t : Step Machine) → Same m n → Shows Same s t → ShowsLent (lent_by m s) (lent_by n t)
shows_lent m n (stopped answer address) (stopped other place) r (e, f) = record { reply = rw (e, f); machine = r }
shows_lent m n (stopped answer address) (moved q seen) r h = absurd h
shows_lent m n (moved p shown) (stopped other place) r h = absurd h
shows_lent m n (moved p shown) (moved q seen) r (h, e) = record { reply = rw e; machine = h }

steps_lent : {w v : Window} {x y : ℕ} (m n : Machine) → w ≡ v → x ≡ y → Same m n → ShowsLent (lent_by m (arm_step w x m)) (lent_by n (arm_step v y n))
steps_lent {w} {v} {x} {y} m n e f h = rw (← e, ← f) (shows_lent m n (arm_step w x m) (arm_step w x n) h (steps-related w x m n h))

two_steps : (c d : StepCall) → c.window ≡ d.window → c.word ≡ d.word → Same (step_start c) (step_start d) → (c.reply ≡ d.reply) × Same (step_end c) (step_end d)
two_steps c d e f h =
    let s = carried ShowsLent c.allowed d.allowed (steps_lent (step_start c) (step_start d) e f h) in
    (s.reply, s.machine)

done_marks : (c : StepCall) → c.reply.answer ≡ 0
    → (step_end c).taints ≡ mark_rule c.window.origin c.word (record { code = c.reply.code; address = c.reply.address; status = c.reply.status }) (step_start c).taints
done_marks c e =
    let m = step_start c in
    let s = arm_step c.window c.word m in
    let done : answer_number (performed m s).answer ≡ 0 = sym (step_gives c).answer ∙ e in
    let shown : (performed m s).shown ≡ record { code = c.reply.code; address = c.reply.address; status = c.reply.status } =
    ap (λ (l : Lent). record { code = l.reply.code; address = l.reply.address; status = l.reply.status }) (sym c.allowed) in
    ap (λ (l : Lent). l.machine.taints) c.allowed
    ∙ step_marks (mark_rule c.window.origin c.word) m s (refuses_in c.window Alone c.word m) (marks_in c.window Alone c.word m c.real)
    ∙ rw done (ap (λ (s : Shown). mark_rule c.window.origin c.word s m.taints) shown)

-- ---- a vector register

vector_set : (vectors vector_taint : List (List ℕ)) (n : ℕ) (value marks : Halves) → Held vectors → Held vector_taint → n < 32
    → vector_at (with_vector vectors n value) (with_vector vector_taint n marks) n ≡ record { low = value.low; high = value.high; taint_low = marks.low; taint_high = marks.high }
vector_set vectors vector_taint n value marks h g l =
    rw (get_or-set_same vectors n (value.low ∷ value.high ∷ []) [] (omega (arith, h.count)), get_or-set_same vector_taint n (marks.low ∷ marks.high ∷ []) [] (omega (arith, g.count)))

vector_other : (vectors vector_taint : List (List ℕ)) (n i : ℕ) (value marks : Halves) → ¬ (i ≡ n)
    → vector_at (with_vector vectors n value) (with_vector vector_taint n marks) i ≡ vector_at vectors vector_taint i
vector_other vectors vector_taint n i value marks h =
    rw (get_or-set_other vectors n i (value.low ∷ value.high ∷ []) [] h, get_or-set_other vector_taint n i (marks.low ∷ marks.high ∷ []) [] h)

vector_above : (vectors vector_taint : List (List ℕ)) (n : ℕ) (value marks : Halves) → Held vectors → Held vector_taint → 31 < n
    → (with_vector vectors n value ≡ vectors) × (with_vector vector_taint n marks ≡ vector_taint)
    × (vector_at vectors vector_taint n ≡ record { low = 0; high = 0; taint_low = 0; taint_high = 0 })
vector_above vectors vector_taint n value marks h g l =
    let out : length vectors ≤ n = omega (arith, h.count) in
    let also : length vector_taint ≤ n = omega (arith, g.count) in (
      set_out vectors n (value.low ∷ value.high ∷ []) out,
      set_out vector_taint n (marks.low ∷ marks.high ∷ []) also,
      rw (get_or-eq_default vectors [] out, get_or-eq_default vector_taint [] also),
    )

-- ---- a run

-- what a reply and slices say of a result that they equal
pub gives : (reply : RunReply) (after : Slices) (r : Result Machine) → Holding reply.session after.vectors after.vector_taint
    → hosted reply after.vectors after.vector_taint after.memory after.taint after.trace after.statuses ≡ hosted_of r → Gives reply after r
gives reply after r held allowed =
    let (values, vectors) = held_part reply.session.registers.value after.vectors held.values (ap (λ (h : Hosted). h.machine.values) allowed) in
    let (marks, vector_marks) = held_part reply.session.registers.taint after.vector_taint held.taints (ap (λ (h : Hosted). h.machine.taints.registers) allowed) in
    record {
      answer = ap (λ (h : Hosted). h.answer) allowed;
      code = ap (λ (h : Hosted). h.code) allowed;
      address = ap (λ (h : Hosted). h.address) allowed;
      steps = ap (λ (h : Hosted). h.steps) allowed;
      values = values;
      marks = marks;
      vectors = vectors;
      vector_marks = vector_marks;
      pc = ap (λ (h : Hosted). h.machine.pc) allowed;
      monitor = ap (λ (h : Hosted). h.machine.monitor) allowed;
      memory = ap (λ (h : Hosted). h.machine.memory) allowed;
      taint = ap (λ (h : Hosted). h.machine.taints.bytes) allowed;
      trace = ap (λ (h : Hosted). h.log.trace) allowed;
      statuses = ap (λ (h : Hosted). h.log.statuses) allowed;
    }

pub run_gives : (c : RunCall) → RunGives c (arm_run c.window c.words (run_start c) (lent_log c))
run_gives c = gives c.reply c.after (arm_run c.window c.words (run_start c) (lent_log c)) c.held' c.allowed

abbrev slices : List (List ℕ) → List (List ℕ) → List ℕ → List ℕ → List ℕ → List ℕ → Slices
slices v u m k t s = record { vectors = v; vector_taint = u; memory = m; taint = k; trace = t; statuses = s }

slices_same : (a b : Slices) → a.vectors ≡ b.vectors → a.vector_taint ≡ b.vector_taint → a.memory ≡ b.memory → a.taint ≡ b.taint → a.trace ≡ b.trace → a.statuses ≡ b.statuses → a ≡ b
slices_same a b e f g h i j = ap (λ (v : List (List ℕ)). slices v a.vector_taint a.memory a.taint a.trace a.statuses) e
    ∙ ap (λ (u : List (List ℕ)). slices b.vectors u a.memory a.taint a.trace a.statuses) f
    ∙ ap (λ (m : List ℕ). slices b.vectors b.vector_taint m a.taint a.trace a.statuses) g
    ∙ ap (λ (k : List ℕ). slices b.vectors b.vector_taint b.memory k a.trace a.statuses) h
    ∙ ap (λ (t : List ℕ). slices b.vectors b.vector_taint b.memory b.taint t a.statuses) i
    ∙ ap (slices b.vectors b.vector_taint b.memory b.taint b.trace) j

-- what stays of a run that is not begun
abbrev pub AsBefore : State → Slices → RunReply → Slices → Type 0
AsBefore session before reply after = (reply.steps ≡ 0) × (reply.code ≡ 0) × (reply.address ≡ 0) × (reply.session ≡ session) × (after ≡ before)

pub as_before : (session : State) (before : Slices) (reply : RunReply) (after : Slices) (answer : Answer) → Holding session before.vectors before.vector_taint → Holding reply.session after.vectors after.vector_taint
    → hosted reply after.vectors after.vector_taint after.memory after.taint after.trace after.statuses
    ≡ hosted_of (not_begun answer (machine_of session before.vectors before.vector_taint before.memory before.taint) (log before.trace before.statuses))
    → AsBefore session before reply after
as_before session before reply after answer held held' same =
    let machines = ap (λ (h : Hosted). h.machine) same in (
      ap (λ (h : Hosted). h.steps) same,
      ap (λ (h : Hosted). h.code) same,
      ap (λ (h : Hosted). h.address) same,
      state_same held' held machines,
      slices_same after before
          (vectors_same held' held machines)
          (vector_taint_same held' held machines)
          (ap (λ (m : Machine). m.memory) machines) (ap (λ (m : Machine). m.taints.bytes) machines) (ap (λ (h : Hosted). h.log.trace) same) (ap (λ (h : Hosted). h.log.statuses) same),
    )

run_unbegun : (c : RunCall) → Early c.reply.answer
    → (c.reply.steps ≡ 0) × (c.reply.code ≡ 0) × (c.reply.address ≡ 0) × (c.reply.session ≡ c.session) × (c.after ≡ c.before)
run_unbegun c h =
    let r = arm_run c.window c.words (run_start c) (lent_log c) in
    as_before c.session c.before c.reply c.after r.answer c.held c.held'
    (c.allowed ∙ ap hosted_of (run_early c.window c.words (run_start c) (lent_log c) c.real (subst Early (run_gives c).answer h)))

record ShowsHosted (R : Machine → Machine → Type 0) (t u : Hosted) : Type 0 where
  answer : t.answer ≡ u.answer
  code : t.code ≡ u.code
  address : t.address ≡ u.address
  steps : t.steps ≡ u.steps
  trace : take (t.steps * 2) t.log.trace ≡ take (u.steps * 2) u.log.trace
  statuses : take t.steps t.log.statuses ≡ take u.steps u.log.statuses
  machine : R t.machine u.machine

module _ (R : Machine → Machine → Type 0)
    (shows : (w : Window) (words : List ℕ) (m n : Machine) (l k : Log) → R m n → SameRoom l k → ShowsRun R (arm_run w words m l) (arm_run w words n k)) where
  shows_hosted : {w v : Window} {x y : List ℕ} (m n : Machine) (l k : Log) → w ≡ v → x ≡ y → R m n → SameRoom l k → ShowsHosted R (host_run w x m l) (host_run v y n k)
  shows_hosted {w} {v} {x} {y} m n l k e f h room =
      let r = shows w x m n l k h room in
      rw (← e, ← f)
      (record {
        answer = ap answer_number r.answer;
        code = ap (λ (s : Shown). s.code) r.shown;
        address = ap (λ (s : Shown). s.address) r.shown;
        steps = r.steps;
        trace = r.trace;
        statuses = r.statuses;
        machine = r.machine;
      })

  two_runs : (c d : RunCall) → c.window ≡ d.window → c.words ≡ d.words → R (run_start c) (run_start d) → SameRoom (lent_log c) (lent_log d) → RunsShow R c d
  two_runs c d e f h room =
      let s = carried (ShowsHosted R) c.allowed d.allowed (shows_hosted (run_start c) (run_start d) (lent_log c) (lent_log d) e f h room) in
      record { answer = s.answer; code = s.code; address = s.address; steps = s.steps; trace = s.trace; statuses = s.statuses; machine = s.machine }

run_marks : (c : RunCall)
    → (run_end c).taints ≡ after_steps (mark_rule c.window.origin) c.words (log c.after.trace c.after.statuses) c.reply.steps (run_start c).taints
run_marks c =
    subst (λ (h : Hosted). h.machine.taints ≡ after_steps (mark_rule c.window.origin) c.words h.log h.steps (run_start c).taints) (sym c.allowed)
    (marks_of_run c.window c.words (run_start c) (lent_log c) c.real)

-- ---- the word of a text

read_fields : (t : List ℕ) (r : WordReply) → ReadAs t r
    → ((r.answer ≡ 0) ↔ LineOf r.word t) × ((r.answer ≡ 9) ↔ ((w : ℕ) → ¬ LineOf w t)) × (r.answer ≡ 9 → r.word ≡ 0)
read_fields t r (inl (d, l)) = (((λ e. l), (λ k. d)), ((λ e. absurd (not_both d e)), (λ n. absurd (n r.word l))), (λ e. absurd (not_both d e)))
read_fields t r (inr (d, z, n)) = (((λ e. absurd (not_both e d)), (λ l. absurd (n r.word l))), ((λ e. n), (λ k. d)), (λ e. z))

-- ---- words that touch memory

either : (a b : Bool) {A B : Type 0} → (a ≡ true → A) → (b ≡ true → B) → (a || b) ≡ true → A ⊎ B
either true b f g h = inl (f refl)
either false b f g h = inr (g h)

left_true : (a b : Bool) → a ≡ true → (a || b) ≡ true
left_true a b e = rw e

right_true : (a b : Bool) → b ≡ true → (a || b) ≡ true
right_true true b e = refl
right_true false b e = e

abbrev SetsBlock : ℕ → Type 0
SetsBlock word = (field 31 8 word ≡ 0xd50b74) × (any (eqb (field 7 5 word)) (1 ∷ 3 ∷ 4 ∷ []) ≡ true)

block_is : (word : ℕ) → (sets_block word ≡ true) ↔ SetsBlock word
unfolding sets_block
block_is word = (
  (λ e. let (top, op2) = both (eqb (field 31 8 word) 0xd50b74) (any (eqb (field 7 5 word)) (1 ∷ 3 ∷ 4 ∷ [])) e in (eqb-true (field 31 8 word) 0xd50b74 top, op2)),
  (λ g. rw (eq-eqb (field 31 8 word) 0xd50b74 g.0) g.1),
)

group_is : (word : ℕ) → (load_or_store word ≡ true) ↔ ((field 27 27 word ≡ 1) × (field 25 25 word ≡ 0))
unfolding load_or_store
group_is word = ((λ e. let g = has_true word (bits 27 27 1 ∷ bits 25 25 0 ∷ []) e in (g.0, g.1.0)), (λ g. rw (g.0, g.1)))

touches_exactly : (word : ℕ) → (touches_memory word ≡ true) ↔ (((field 27 27 word ≡ 1) × (field 25 25 word ≡ 0)) ⊎ SetsBlock word)
unfolding touches_memory
touches_exactly word = (either (load_or_store word) (sets_block word) (group_is word).0 (block_is word).0, back)
  where
    back : ((field 27 27 word ≡ 1) × (field 25 25 word ≡ 0)) ⊎ SetsBlock word → (load_or_store word || sets_block word) ≡ true
    back (inl g) = left_true (load_or_store word) (sets_block word) ((group_is word).1 g)
    back (inr g) = right_true (load_or_store word) (sets_block word) ((block_is word).1 g)

number_at : (b : Bool) → (one_of (0 ∷ 1 ∷ []) (pick b 1 0) ≡ true) × ((◌≡◌ {A = ℕ} (pick b 1 0) 1) ↔ (b ≡ true))
number_at true = (refl, ((λ e. refl), (λ e. refl)))
number_at false = (refl, ((λ e. absurd (let z : ◌≡◌ {A = ℕ} 0 1 = e in omega arith)), (λ e. absurd (let z : ◌≡◌ {A = ℕ} 0 1 = cc in omega arith))))

touches_number_lem : (word r : ℕ) → r ≡ touches_number word → (one_of (0 ∷ 1 ∷ []) r ≡ true) × ((r ≡ 1) ↔ (((field 27 27 word ≡ 1) × (field 25 25 word ≡ 0)) ⊎ SetsBlock word))
touches_number_lem word r e =
    let (few, one) = number_at (touches_memory word) in
    (rw e few, ((λ f. (touches_exactly word).0 (one.0 (sym e ∙ f))), (λ g. e ∙ one.1 ((touches_exactly word).1 g))))

-- a word that doesn't touch memory isn't of the set
outside_set : (word : ℕ) → touches_memory word ≡ false → in_set word ≡ false
outside_set word t = go (in_set word) refl
  where
    go : (b : Bool) → in_set word ≡ b → in_set word ≡ false
    go true e = absurd (let u = set_touches word e in let z : ◌≡◌ {A = ℕ} 0 1 = cc in omega arith)
    go false e = e

never_stepped : (w : Window) (word : ℕ) (m : Machine) → touches_memory word ≡ false → answer_number (performed m (arm_step w word m)).answer ≡ pick (bad_start w m) 1 2
never_stepped w word m t = ap answer_number (answers_in w Alone word m) ∙ rw (outside_set word t) (number_at (bad_start w m))
  where
    number_at : (b : Bool) → answer_number (pick b Answer.BadWindow Answer.NotInSet) ≡ pick b 1 2
    number_at true = refl
    number_at false = refl

pub library : Library
library =
    record {
      machine = λ s vectors vector_taint memory taint. refl;
      step = step_gives;
      step_answers = λ c. rw (step_gives c).answer (step_number c.window c.word (step_start c));
      step_refused = step_kept;
      two_steps = two_steps;
      step_marks = done_marks;
      run = run_gives;
      run_answers = λ c. rw (run_gives c).answer (run_number c.window c.words (run_start c) (lent_log c));
      run_early = run_unbegun;
      two_runs = two_runs Same runs-related;
      two_fillings = two_runs Filled runs-filled;
      run_marks = run_marks;
      vector_set = vector_set;
      vector_other = vector_other;
      vector_above = vector_above;
      text = λ word buffer buffer' r e. (ap (λ (n : Numbered). n.answer) e, ap (λ (n : Numbered). n.length) e, ap (λ (n : Numbered). n.buffer) e);
      list = λ bytes output output' r e. (ap (λ (n : Numbered). n.answer) e, ap (λ (n : Numbered). n.length) e, ap (λ (n : Numbered). n.buffer) e);
      lister =
          λ l c output' r e.
          (ap (λ (n : ListerNumbered). n.answer) e, ap (λ (n : ListerNumbered). n.length) e, ap (λ (n : ListerNumbered). n.lister) e, ap (λ (n : ListerNumbered). n.buffer) e);
      word = λ t r h. let (read, none, zero) = read_fields t r h in (word_number t r h, read, none, zero);
      word_some = word_some;
      touches = touches_number_lem;
      set_touches = set_touches;
      never_stepped = never_stepped;
    }
