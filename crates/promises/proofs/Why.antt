-- The page of "why" holds: each sentence is a theorem of the crate, carried over the equation of the contract. Assumes nothing.
use Prim.Native.Nat.{ℕ, zero, suc, ◌+◌, ◌*◌, ◌%◌, ◌≤◌, ◌<◌}
use mathlib.Core.Path.{◌≡◌, refl, sym, ap, subst, ◌∙◌}
use mathlib.Core.Bool.{Bool, true, false, not}
use mathlib.Core.List.{List, [], ◌∷◌, ◌++◌, map}
use mathlib.Core.Logic.{◌↔◌, ◌⊎◌, inl, inr}
use native.Mathlib.Decide.{ℕ_discrete}
use native.Mathlib.Omega.{arith}
use borrow.Author.Tests.{eqb-true, eqb-false, eq-eqb, ne_eqb, lt-ltb, le-ltb}
use lib.Dec.{eqb, ltb}
use lib.ListN.{length, take, length-append, get_or}
use lib.Seq.{sets}
use Rattle.bits.specs.Choice.{pick}
use Rattle.instruction.specs.declared.answer.Answer.TheVariants.{Done, BadWindow, OutOfWindow, NoRoom, NoSuchInstruction, BadTrace, AfterEnd}
use Rattle.instruction.specs.Answers.{answer_number}
use Rattle.decoder.specs.Decoding.{class_of}
use Rattle.access.specs.declared.transfer.Transfer.{Transfer}
use Rattle.access.specs.declared.Access.{Access}
use Rattle.access.specs.declared.Access.TheVariants.{Nothing, Moves}
use Rattle.access.specs.Accesses.{word_access}
use Rattle.vectors.specs.File.{wide}
use Rattle.vectors.proofs.Slots.{length_map}
use Rattle.plan.specs.declared.window.Window.{Window}
use Rattle.plan.specs.Admission.{outside, admit_of}
use Rattle.plan.specs.Refusals.{answer_in, Given}
use Rattle.plan.proofs.Refusals.{first_by}
use Rattle.plan.specs.declared.ranges.Reach.TheVariants.{Alone}
use Rattle.machine.specs.Machine.{Machine, code_of}
use Rattle.machine.specs.Step.{shown}
use Rattle.machine.specs.Origins.{of_register, taint_of}
use Rattle.execution.specs.Walk.{Walked, Log, Result, too_short}
use Rattle.execution.specs.Ends.{alone}
use Rattle.execution.specs.Run.{machine_run}
use Rattle.arm.specs.Choices.{arm_step, arm_run}
use Rattle.arm.proofs.Runs.{walk_as_arm, run_as_arm}
use Rattle.why.specs.declared.Question.{Question}
use Rattle.why.specs.Trail.{Past, lent, taints_at, Link, link, numbers_of}
use Rattle.why.specs.Trace.{is_refused, wrong_access, wrong_step, some_step, wrong_at, wrong_trace}
use Rattle.why.specs.Reply.{no_byte, no_part, no_register, why_refusals, flat, Said, said_of}
use Rattle.why.specs.Links.{ran_past}
use Rattle.why.proofs.Said.{Accepted, accepted, Promised, promised, said_unmarked, answered, said_few, answer_given, refused_unchanged, run_asked, run_told}
use Rattle.image.proofs.Faults.{Tells, window_tells}
use Rattle.promises.specs.Answered.{one_of, First, WrongLent}
use Rattle.promises.specs.Library.{RunCall, run_start, lent_log}
use Rattle.promises.specs.Why.{WhyCall, past_of, asked, links_for, ByteOutside, NoSuchByte, FallsShort, WrongAccess, WrongStep, SomeWrong, OfRun, Why}
use Rattle.promises.proofs.Tests.{impossible, less_tells, lt_tells, eq_tells, not_tells, or_tells, and_tells, must_tells, same_tells, outside_tells, number_tells, first_tells}
use Rattle.promises.proofs.Demands.{class_number_lem}
use Rattle.promises.proofs.Library.{run_gives}

-- ---- what a call gives

abbrev why_numbers : List ℕ
why_numbers = 0 ∷ 1 ∷ 7 ∷ 10 ∷ 11 ∷ 17 ∷ 18 ∷ []

why_number : (w : Window) (len : ℕ) (g : Past) (steps step : ℕ) (q : Question) (before : List ℕ) → one_of why_numbers (said_of w len g steps step q before).answer ≡ true
unfolding said_of
why_number w len g steps step q before =
    first_by (λ answer. one_of why_numbers (answer_number answer) ≡ true) (λ answer address. answer) Done (why_refusals w len g steps step q (length before))
    (refl, (refl, (refl, (refl, (refl, (refl, tt))))))
    (λ p. refl)

module _ (c : WhyCall) where
  abbrev gives : Said
  gives = said_of c.window c.memory_length (past_of c) c.steps c.step c.question c.links

  answer_is : c.reply.answer ≡ gives.answer
  answer_is = ap (λ (s : Said). s.answer) c.allowed

  count_is : c.reply.links ≡ gives.count
  count_is = ap (λ (s : Said). s.count) c.allowed

  list_is : c.links' ≡ gives.links
  list_is = ap (λ (s : Said). s.links) c.allowed

  full : length (past_of c).start.registers ≡ 64
  full = omega (arith, length-append c.register_taint (map wide c.vector_taint), length_map wide c.vector_taint, c.registers_held, c.vectors_held)

  call_unmarked : c.reply.answer ≡ 0 → (c.reply.links ≡ 0) ↔ (taint_of (taints_at (past_of c) c.step) (asked c) ≡ false)
  call_unmarked h = rw count_is (said_unmarked c.window c.memory_length (past_of c) c.steps c.step c.question c.links full refl (sym answer_is ∙ h))

  call_refused : ¬ (c.reply.answer ≡ 0) → (c.reply.links ≡ 0) × (c.links' ≡ c.links)
  call_refused h =
      let kept = refused_unchanged c.window c.memory_length (past_of c) c.steps c.step c.question c.links (λ e. h (answer_is ∙ e)) in
      (count_is ∙ kept.1, list_is ∙ kept.0)

  -- the tests before 10 are passed
  accepted_at : Given 10 (why_refusals c.window c.memory_length (past_of c) c.steps c.step c.question (length c.links))
      → Accepted c.window c.memory_length (past_of c) c.steps c.step c.question
  accepted_at (inl (t, e)) = absurd (omega (arith, e))
  accepted_at (inr (h, inl (t, e))) = absurd (omega (arith, e))
  accepted_at (inr (h, inr (i, inl (t, e)))) = absurd (omega (arith, e))
  accepted_at (inr (h, inr (i, inr (j, inl (t, e))))) = absurd (omega (arith, e))
  accepted_at (inr (h, inr (i, inr (j, inr (k, inl (t, e)))))) = absurd (omega (arith, e))
  accepted_at (inr (h, inr (i, inr (j, inr (k, inr (l, g)))))) = record { window = h; byte = i; register = j; trace = k; begun = l }

  call_accepted : (c.reply.answer ≡ 0) ⊎ (c.reply.answer ≡ 10) → Accepted c.window c.memory_length (past_of c) c.steps c.step c.question
  call_accepted (inl h) = accepted c.window c.memory_length (past_of c) c.steps c.step c.question c.links (sym answer_is ∙ h)
  call_accepted (inr h) = accepted_at ((answer_given c.window c.memory_length (past_of c) c.steps c.step c.question c.links 10 (λ z. omega (arith, z))).0 (sym answer_is ∙ h))

  call_promised : (c.reply.answer ≡ 0) ⊎ (c.reply.answer ≡ 10) → Promised (past_of c) c.step (asked c) (links_for c)
  call_promised h = promised c.window c.memory_length (past_of c) c.steps c.step c.question full refl (call_accepted h)

  call_answered : c.reply.answer ≡ 0 → (c.reply.links ≡ length (links_for c)) × (c.links' ≡ sets c.links 0 (flat c.window.origin (links_for c)))
  call_answered h =
      let listed = answered c.window c.memory_length (past_of c) c.steps c.step c.question c.links (sym answer_is ∙ h) in
      (count_is ∙ listed.1, list_is ∙ listed.0)

  nothing_listed : (ls : List Link) → length ls ≡ 0 → sets c.links 0 (flat c.window.origin ls) ≡ c.links
  unfolding flat
  nothing_listed [] e = refl
  nothing_listed (l ∷ ls) e = absurd (omega arith)

  call_kept : c.reply.links ≡ 0 → c.links' ≡ c.links
  call_kept z = by (eqb c.reply.answer 0) refl
    where
      by : (b : Bool) → eqb c.reply.answer 0 ≡ b → c.links' ≡ c.links
      by true e =
          let listed = call_answered (eqb-true c.reply.answer 0 e) in
          listed.1 ∙ nothing_listed (links_for c) (sym listed.0 ∙ z)
      by false e = (call_refused (eqb-false c.reply.answer 0 e)).1

-- ---- what is refused

part_tells : (last : ℕ) (q : Question) → Tells (no_part last q) ((31 < q.number) ⊎ (last < q.byte))
part_tells last q = or_tells (ltb 31 q.number) (ltb last q.byte) (lt_tells 31 q.number) (lt_tells last q.byte)

-- of no kind but 0 and 2 there is a register
kind_tells : (q : Question) (a b c : Bool) → eqb q.kind 1 ≡ a → eqb q.kind 0 ≡ b → eqb q.kind 2 ≡ c → {P Q : Type 0} (x y : Bool) → Tells x P → Tells y Q
    → Tells (pick a false (pick b x (pick c y true))) (((q.kind ≡ 0) × P) ⊎ (((q.kind ≡ 2) × Q) ⊎ (2 < q.kind)))
kind_tells q true b c e f g {P} {Q} x y p r = ((λ h. impossible (sym h)), none)
  where
    none : {b : Bool} → b ≡ false → (((q.kind ≡ 0) × P) ⊎ (((q.kind ≡ 2) × Q) ⊎ (2 < q.kind))) → ⊥
    none h (inl (k, i)) = omega (arith, k, eqb-true q.kind 1 e)
    none h (inr (inl (k, i))) = omega (arith, k, eqb-true q.kind 1 e)
    none h (inr (inr k)) = omega (arith, k, eqb-true q.kind 1 e)
kind_tells q false true c e f g {P} {Q} x y p r = ((λ h. inl (eqb-true q.kind 0 f, p.0 h)), none)
  where
    none : x ≡ false → (((q.kind ≡ 0) × P) ⊎ (((q.kind ≡ 2) × Q) ⊎ (2 < q.kind))) → ⊥
    none h (inl (k, i)) = p.1 h i
    none h (inr (inl (k, i))) = omega (arith, k, eqb-true q.kind 0 f)
    none h (inr (inr k)) = omega (arith, k, eqb-true q.kind 0 f)
kind_tells q false false true e f g {P} {Q} x y p r = ((λ h. inr (inl (eqb-true q.kind 2 g, r.0 h))), none)
  where
    none : y ≡ false → (((q.kind ≡ 0) × P) ⊎ (((q.kind ≡ 2) × Q) ⊎ (2 < q.kind))) → ⊥
    none h (inl (k, i)) = omega (arith, k, eqb-true q.kind 2 g)
    none h (inr (inl (k, i))) = r.1 h i
    none h (inr (inr k)) = omega (arith, k, eqb-true q.kind 2 g)
kind_tells q false false false e f g x y p r =
    ((λ h. inr (inr (omega (arith, eqb-false q.kind 1 e, eqb-false q.kind 0 f, eqb-false q.kind 2 g)))), (λ h. impossible h))

-- a word has one of four answers, and an address that isn't admitted one of three
class_tells : (word : ℕ) → Tells (is_refused (class_of word)) (one_of (2 ∷ 3 ∷ 4 ∷ []) (answer_number (class_of word)) ≡ true)
class_tells word = number_tells (2 ∷ 3 ∷ 4 ∷ []) (answer_number (class_of word)) refl (class_number_lem word)

admit_number : (w : Window) (len : ℕ) (t : Transfer) (a : ℕ) → one_of (0 ∷ 6 ∷ 7 ∷ 8 ∷ []) (answer_number (answer_in (admit_of w len t a))) ≡ true
unfolding admit_of
admit_number w len t a =
    first_by (λ answer. one_of (0 ∷ 6 ∷ 7 ∷ 8 ∷ []) (answer_number answer) ≡ true) (λ answer address. answer) Done (admit_of w len t a) (refl, (refl, (refl, (refl, tt)))) (λ p. refl)

access_tells : (w : Window) (len : ℕ) (x : Access) (code address : ℕ) → Tells (wrong_access w len x code address) (WrongAccess w len x code address)
access_tells w len Nothing code address =
    must_tells (eqb code 0) (not (eqb address 0)) (eq_tells code 0) (not_tells (eqb address 0) (eq_tells address 0))
access_tells w len (Moves t a) code address =
    must_tells (eqb code (code_of t)) (is_refused (answer_in (admit_of w len t address))) (eq_tells code (code_of t))
    (number_tells (6 ∷ 7 ∷ 8 ∷ []) (answer_number (answer_in (admit_of w len t address))) refl (admit_number w len t address))

step_tells : (w : Window) (len word code address status : ℕ) → Tells (wrong_step w len word (shown code address status)) (WrongStep w len word code address status)
unfolding wrong_step
step_tells w len word code address status =
    or_tells (is_refused (class_of word)) _ (class_tells word)
    (or_tells (ltb 1 status) _ (less_tells 1 status (λ l. ((λ e. omega arith), (λ e. omega arith))) (λ n. omega (arith, n.0, n.1))) (access_tells w len (word_access word) code address))

-- one of some steps
some_tells : (f : ℕ → Bool) (P : ℕ → Type 0) → ((j : ℕ) → Tells (f j) (P j)) → (n : ℕ) → Tells (some_step f n) ((j : ℕ) × (j < n) × P j)
unfolding some_step
some_tells f P t zero = ((λ h. impossible (sym h)), (λ h x. omega (arith, x.1)))
some_tells f P t (suc n) = some_at (f n) (t n) (some_tells f P t n)
  where
    last_or : (x : (j : ℕ) × (j < suc n) × P j) → Dec (x.0 ≡ n) → P n ⊎ ((j : ℕ) × (j < n) × P j)
    last_or x (yes e) = inl (subst P e x.2)
    last_or x (no e) = inr (x.0, omega (arith, x.1, e), x.2)

    back : P n ⊎ ((j : ℕ) × (j < n) × P j) → (j : ℕ) × (j < suc n) × P j
    back (inl p) = (n, omega arith, p)
    back (inr x) = (x.0, omega (arith, x.1), x.2)

    some_at : (b : Bool) → Tells b (P n) → Tells (some_step f n) ((j : ℕ) × (j < n) × P j) → Tells (pick b true (some_step f n)) ((j : ℕ) × (j < suc n) × P j)
    some_at b p q = same_tells back (λ x. last_or x (ℕ_discrete x.0 n)) (or_tells b (some_step f n) p q)

module _ (c : WhyCall) where
  abbrev q : Question
  q = c.question

  byte_tells : Tells (no_byte c.window c.memory_length q) (ByteOutside c)
  byte_tells =
      and_tells (eqb q.kind 1) (outside 1 q.number c.window.origin c.memory_length) (eq_tells q.kind 1)
      (outside_tells 1 q.number c.window.origin c.memory_length (λ h. omega arith) (λ h. omega arith) (λ h. omega arith) (λ h. omega arith))

  register_tells : Tells (no_register q) (NoSuchByte c)
  register_tells =
      kind_tells q (eqb q.kind 1) (eqb q.kind 0) (eqb q.kind 2) refl refl refl (no_part 7 q) (no_part 15 q) (part_tells 7 q) (part_tells 15 q)

  short_tells : Tells (too_short c.steps (length c.trace) (length c.statuses)) ((length c.trace < c.steps * 2) ⊎ (length c.statuses < c.steps))
  unfolding too_short
  short_tells = or_tells _ _ (lt_tells (length c.trace) (c.steps * 2)) (lt_tells (length c.statuses) c.steps)

  wrong_tells : Tells (some_step (wrong_at c.window c.memory_length c.words (past_of c).log) c.steps) (SomeWrong c)
  wrong_tells =
      same_tells (λ x. record { at = x.0; done = x.1; wrong = x.2 }) (λ x. (x.at, x.done, x.wrong))
      (some_tells (wrong_at c.window c.memory_length c.words (past_of c).log)
      (λ j. WrongStep c.window c.memory_length (get_or c.words j 0) (get_or c.trace (j * 2) 0) (get_or c.trace (j * 2 + 1) 0) (get_or c.statuses j 0))
      (λ j. step_tells c.window c.memory_length (get_or c.words j 0) (get_or c.trace (j * 2) 0) (get_or c.trace (j * 2 + 1) 0) (get_or c.statuses j 0))
      c.steps)

  trace_tells : Tells (wrong_trace c.window c.memory_length c.words (past_of c).log c.steps) (FallsShort c ⊎ SomeWrong c)
  unfolding wrong_trace
  trace_tells =
      same_tells inner outer (or_tells _ _ (lt_tells (length c.words) c.steps) (or_tells _ _ short_tells wrong_tells))
    where
      inner : ((length c.words < c.steps) ⊎ (((length c.trace < c.steps * 2) ⊎ (length c.statuses < c.steps)) ⊎ SomeWrong c)) → FallsShort c ⊎ SomeWrong c
      inner (inl h) = inl (inl h)
      inner (inr (inl h)) = inl (inr h)
      inner (inr (inr h)) = inr h

      outer : (FallsShort c ⊎ SomeWrong c) → (length c.words < c.steps) ⊎ (((length c.trace < c.steps * 2) ⊎ (length c.statuses < c.steps)) ⊎ SomeWrong c)
      outer (inl (inl h)) = inl h
      outer (inl (inr h)) = inr (inl h)
      outer (inr h) = inr (inr h)

  room_tells : Tells (ltb (length c.links) (length (links_for c) * 3)) (length c.links < 3 * length (links_for c))
  room_tells = less_tells (length c.links) (length (links_for c) * 3) (λ h. omega arith) (λ h. omega arith)

  abbrev Reasons : ℕ → Type 0
  Reasons n =
      First n 1 (WrongLent c.window c.memory_length (length c.taint))
      (First n 7 (ByteOutside c)
      (First n 11 (NoSuchByte c)
      (First n 17 (FallsShort c ⊎ SomeWrong c)
      (First n 18 (c.steps < c.step)
      (First n 10 (length c.links < 3 * length (links_for c))
      ⊥)))))

  reasons_given : (n : ℕ) → Given n (why_refusals c.window c.memory_length (past_of c) c.steps c.step q (length c.links)) ↔ Reasons n
  reasons_given n =
      first_tells n _ BadWindow (window_tells c.window c.memory_length (length c.taint))
      (first_tells n _ OutOfWindow byte_tells
      (first_tells n _ NoSuchInstruction register_tells
      (first_tells n _ BadTrace trace_tells
      (first_tells n _ AfterEnd (lt_tells c.steps c.step)
      (first_tells n _ NoRoom room_tells ((λ h. h), (λ h. h)))))))

  call_exactly : (n : ℕ) → ¬ (n ≡ 0) → (c.reply.answer ≡ n) ↔ Reasons n
  call_exactly n z =
      let exact = answer_given c.window c.memory_length (past_of c) c.steps c.step q c.links n z in
      ((λ h. (reasons_given n).0 (exact.0 (sym (answer_is c) ∙ h))), (λ h. answer_is c ∙ exact.1 ((reasons_given n).1 h)))

-- ---- the numbers of a link

slot_of : (origin n i step : ℕ) → n < 32 → numbers_of origin (link (of_register n i) step) ≡ 0 ∷ (16 * n + i) ∷ step ∷ []
slot_of origin n i step h =
    let e : n % 32 ≡ n = omega arith in
    rw (lt-ltb n 32 h, e)

vector_slot_of : (origin n i step : ℕ) → n < 32 → numbers_of origin (link (of_register (32 + n) i) step) ≡ 2 ∷ (16 * n + i) ∷ step ∷ []
vector_slot_of origin n i step h =
    let e : (32 + n) % 32 ≡ n = omega arith in
    rw (le-ltb (32 + n) 32 (omega arith), e)

-- ---- what a run left

-- a call about it, by what it was handed
left : {w v : Window} {len k : ℕ} {ws vs trace statuses : List ℕ} {marks marks' : List ℕ} {files files' : List (List ℕ)} {taint taint' : List ℕ} (steps step : ℕ) (q : Question) (before : List ℕ) (l : Log)
    → v ≡ w → k ≡ len → vs ≡ ws → trace ≡ l.trace → statuses ≡ l.statuses → marks' ≡ marks → files' ≡ files → taint' ≡ taint
    → said_of v k (lent vs trace statuses v.origin marks' files' taint') steps step q before
    ≡ said_of w len (record { words = ws; log = l; origin = w.origin; start = record { registers = marks ++ map wide files; bytes = taint } }) steps step q before
left steps step q before l window memory words trace statuses registers vectors marks = rw (window, memory, words, trace, statuses, registers, vectors, marks)

module _ (r : RunCall) (c : WhyCall) (of : OfRun r c) where
  abbrev ran : Past
  ran = ran_past r.window r.words (run_start r) (lent_log r)

  -- Arm's run is the machine's
  as_flat : {A : Type 0} (part : Result Machine → A) → part (arm_run r.window r.words (run_start r) (lent_log r)) ≡ part (machine_run r.window r.words (run_start r) (lent_log r))
  as_flat part = ap part (sym (run_as_arm r.window r.words (run_start r) (lent_log r) r.real))

  steps_are : c.steps ≡ (machine_run r.window r.words (run_start r) (lent_log r)).steps
  steps_are = of.steps ∙ (run_gives r).steps ∙ as_flat (λ t. t.steps)

  call_of_run : gives c ≡ said_of r.window (length r.before.memory) ran (machine_run r.window r.words (run_start r) (lent_log r)).steps c.step c.question c.links
  call_of_run =
      left c.steps c.step c.question c.links (machine_run r.window r.words (run_start r) (lent_log r)).log of.window of.memory of.words
      (of.trace ∙ (run_gives r).trace ∙ as_flat (λ t. t.log.trace)) (of.statuses ∙ (run_gives r).statuses ∙ as_flat (λ t. t.log.statuses)) of.registers of.vectors of.taint
      ∙ ap (λ (n : ℕ). said_of r.window (length r.before.memory) ran n c.step c.question c.links) steps_are

  module _ (early : c.step ≤ r.reply.steps) where
    early_in : c.step ≤ (machine_run r.window r.words (run_start r) (lent_log r)).steps
    early_in = omega (arith, early, (run_gives r).steps, as_flat (λ t. t.steps))

    call_asked : ¬ (c.reply.answer ≡ 17) × ¬ (c.reply.answer ≡ 18)
    call_asked =
        let e : c.reply.answer ≡ _ = answer_is c ∙ ap (λ (s : Said). s.answer) call_of_run in
        let others = run_asked r.window r.words (run_start r) (lent_log r) c.step c.question c.links early_in in
        ((λ h. others.0 (sym e ∙ h)), (λ h. others.1 (sym e ∙ h)))

    held : length (run_start r).taints.registers ≡ 64
    held =
        omega (arith, length-append r.session.registers.taint (map wide r.before.vector_taint), length_map wide r.before.vector_taint, r.held.taints, r.held.vector_taint_held.count)

    call_told : c.reply.answer ≡ 0
        → (c.reply.links ≡ 0) ↔ (taint_of (alone (arm_step r.window) r.words (run_start r) c.step).machine.taints (asked c) ≡ false)
    call_told h =
        let e : c.reply.answer ≡ _ = answer_is c ∙ ap (λ (s : Said). s.answer) call_of_run in
        let n : c.reply.links ≡ _ = count_is c ∙ ap (λ (s : Said). s.count) call_of_run in
        let told = run_told r.window r.words (run_start r) (lent_log r) c.step c.question c.links early_in held (sym e ∙ h) in
        let steps = walk_as_arm r.window Alone (take c.step r.words) (run_start r) r.real (shown 0 0 0) in
        rw (n, of.window, ← ap (λ (t : Walked Machine). t.machine.taints) steps) told

pub why : Why
unfolding flat
why =
    record {
      register = λ c h. rw (eq-eqb c.question.kind 0 h, ne_eqb c.question.kind 1 (λ e. omega (arith, h, e)));
      memory = λ c h. rw (eq-eqb c.question.kind 1 h);
      vector = λ c h. rw (ne_eqb c.question.kind 0 (λ e. omega (arith, h, e)), ne_eqb c.question.kind 1 (λ e. omega (arith, h, e)));
      answers = λ c. rw (answer_is c) (why_number c.window c.memory_length (past_of c) c.steps c.step c.question c.links);
      exactly = call_exactly;
      refused = call_refused;
      not_marked = call_unmarked;
      none_listed = call_kept;
      explained = λ c h. (call_promised c h).explained;
      unexplained = λ c h. (call_promised c h).unmarked;
      told = call_answered;
      register_link = slot_of;
      vector_link = vector_slot_of;
      memory_link = λ origin j step. refl;
      listed = λ origin l ls. refl;
      few = λ c. omega (arith, count_is c, said_few c.window c.memory_length (past_of c) c.steps c.step c.question c.links);
      run_asked = call_asked;
      run_told = call_told;
    }
