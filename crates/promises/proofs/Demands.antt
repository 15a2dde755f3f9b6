-- The demands and requests hold, by the theorems of the crates below and by the cases of their tests. Assumes nothing.
use Prim.Native.Nat.{ℕ, ◌+◌, ◌^◌, ◌≤◌, ◌<◌}
use mathlib.Core.Path.{◌≡◌, refl, sym, ap, subst, ◌∙◌}
use mathlib.Core.Bool.{Bool, true, false, not, ◌&&◌}
use mathlib.Core.List.{List, [], ◌∷◌, ◌++◌}
use mathlib.Core.Logic.{◌↔◌, ◌⊎◌, inl, inr}
use native.Mathlib.Omega.{arith}
use borrow.Author.Tests.{ne_eqb, eqb-false}
use lib.Dec.{ltb, eqb}
use lib.ListN.{length, take, get_or-eq_default}
use lib.Seq.{sets, set_out}
use Rattle.bits.specs.Choice.{pick}
use Rattle.bits.specs.Fields.{part, field}
use Rattle.bits.specs.Signed.{signed_of}
use Rattle.bits.proofs.Choices.{pick_by}
use Rattle.instruction.specs.declared.answer.Answer.{Answer}
use Rattle.instruction.specs.declared.answer.Answer.TheVariants.{Done, BadWindow, NotInSet, Undefined, Unpredictable, TaintedAddress, NoRoom}
use Rattle.instruction.specs.Encoded.{Encoded}
use Rattle.instruction.specs.declared.family.Instruction.{Instruction}
use Rattle.instruction.specs.Answers.{answer_number}
use Rattle.instruction.specs.Operations.{sized_at}
use Rattle.instruction.specs.Operands.{sized_in, signed_in}
use Rattle.instruction.specs.Table.{in_set, row_of, undefined, allocated, unpredictable, instruction_of}
use Rattle.decoder.specs.Decoding.{decode_of, class_of, empty}
use Rattle.lookup.proofs.Same.{decode_same}
use Rattle.lookup.proofs.Exact.{entry_names, entry_code}
use Rattle.encoder.specs.Encoding.{encode_of}
use Rattle.instruction.proofs.Rows.{never_overlap}
use Rattle.instruction.proofs.Sorts.{exactly_one}
use Rattle.plan.specs.declared.window.Window.{Window}
use Rattle.plan.specs.declared.ranges.Reach.TheVariants.{Alone}
use Rattle.plan.specs.Refusals.{answer_in}
use Rattle.plan.proofs.Refusals.{first_by}
use Rattle.registers.specs.declared.Registers.{Registers}
use Rattle.registers.specs.File.{zero_slot, value_at, taints_at, set_at}
use Rattle.machine.specs.declared.Shown.{Shown}
use Rattle.machine.specs.declared.monitor.Monitor.{Monitor}
use Rattle.machine.specs.Rule.{Taints}
use Rattle.machine.specs.Machine.{Machine}
use Rattle.machine.specs.Real.{Real}
use Rattle.machine.specs.Refusals.{class_refusals}
use Rattle.machine.specs.Exclusives.{StoresExclusive, with_monitor}
use Rattle.machine.specs.Step.{Step, stopped, moved, step_of, performed}
use Rattle.machine.proofs.Answers.{Refuses}
use Rattle.machine.proofs.Taints.{Follows, taints_in}
use Rattle.session.proofs.Exact.{step_exact, register_exact}
use Rattle.session.proofs.Watching.{observed_opens, observed_keeps}
use Rattle.machine.proofs.Exclusives.{load_arms, store_exclusive_lem, others_keep, open_fails, tests_first}
use Rattle.execution.specs.Walk.{Log, Result, not_begun, run_of}
use Rattle.execution.specs.Secrecy.{Same, Filled, SameRoom, ShowsRun}
use Rattle.execution.proofs.Walks.{run_keeps, run_ends, run_bad, run_short}
use Rattle.secrecy.specs.Shows.{Shows}
use Rattle.secrecy.proofs.Halves.{secret}
use Rattle.execution.proofs.Secrecy.{step_related, demand_3 as demand-3-of-runs, other_half}
use Rattle.arm.specs.Choices.{bad_start, arm_step, arm_run, mark_rule}
use Rattle.arm.proofs.Arm.{step_as_arm}
use Rattle.arm.proofs.Answers.{answers_in, given_in, refuses_in, done_by_page, refused_unchanged, marked_refused, stack_refused, stack_aligned}
use Rattle.arm.proofs.Runs.{run_as_arm, run_begun, run_early}
use Rattle.arm.proofs.Rules.{marks_in, marks_of_run}
use Rattle.machine.proofs.Reals.{step_real, cleared, cleared_real}
use Rattle.encoder.specs.Exact.{Word, Exact}
use Rattle.encoder.proofs.RoundTrip.{encode_exact}
use Rattle.ascii.specs.Ascii.{asc, dec}
use Rattle.text.specs.Hints.{hint_text}
use Rattle.text.specs.Texts.{base_text, offset_tail, front_text, sized_text, text_of, word_text}
use Rattle.printer.specs.Writing.{Outcome, copied, write_of}
use Rattle.text.proofs.Examples.{starred_examples}
use Rattle.text.proofs.Lengths.{text_short, text_reached}
use Rattle.listing.specs.Listing.{listing_of, list_of}
use Rattle.reader.proofs.Examples.{hints_read}
use Rattle.listing.proofs.Examples.{listing_example, line_reached}
use Rattle.listing.proofs.Steps.{line_within, short_within}
use Rattle.reader.specs.Reading.{Reading, LineOf, ReadOf}
use Rattle.reader.proofs.RoundTrip.{read_once}
use Rattle.reader.proofs.Triangle.{triangle}
use Rattle.stream.proofs.Calls.{streamed, call_answer, call_closed, call_open, call_unchanged, call_puts}
use Rattle.promises.specs.Answered.{one_of, Each}
use Rattle.promises.specs.Demands.{NotBegun, Demand1, Demand2, Demand3, Requests}
use Rattle.promises.proofs.Answered.{by_definition, step_number, run_number, encode_number, read_answered}
use Rattle.promises.proofs.Vectors.{vector_four, load_clears}

decode_answer : (member wrong : Bool) → answer_number (pick member (pick wrong Undefined Done) NotInSet) ≡ answer_number (pick (not member) NotInSet (pick wrong Undefined Done))
decode_answer true true = refl
decode_answer true false = refl
decode_answer false wrong = refl

class_answer : (member wrong loose : Bool) → answer_number (pick member (pick wrong Undefined (pick loose Unpredictable Done)) NotInSet)
    ≡ answer_number (pick (not member) NotInSet (pick wrong Undefined (pick loose Unpredictable Done)))
class_answer true true loose = refl
class_answer true false true = refl
class_answer true false false = refl
class_answer false wrong loose = refl

write_answer : (member wrong short : Bool) (o p : Outcome) → o.answer ≡ pick short NoRoom Done → p.answer ≡ pick member (pick wrong Undefined Done) NotInSet
    → answer_number (pick (member && not wrong) o p).answer ≡ pick (not member) 2 (pick wrong 3 (pick short 10 0))
write_answer true true short o p e f = ap answer_number f
write_answer true false true o p e f = ap answer_number e
write_answer true false false o p e f = ap answer_number e
write_answer false wrong short o p e f = ap answer_number f

write_number : (word : ℕ) (buffer : List ℕ)
    → answer_number (write_of word buffer).answer ≡ pick (not (in_set word)) 2 (pick (undefined word) 3 (pick (ltb (length buffer) (length (word_text word))) 10 0))
unfolding write_of decode_of copied allocated
write_number word buffer = write_answer (in_set word) (undefined word) (ltb (length buffer) (length (word_text word))) (copied (word_text word) buffer) _ refl refl

pub not_both : {n : ℕ} → n ≡ 0 → ¬ (n ≡ 9)
not_both d e = omega arith

read_answer : (t : List ℕ) (r : Reading) → ReadOf t r → ((answer_number r.answer ≡ 9) ↔ ((word : ℕ) → ¬ LineOf word t)) × ((answer_number r.answer ≡ 0) ↔ LineOf r.word t)
read_answer t r (inl (d, l)) = (((λ e. absurd (not_both d e)), (λ n. absurd (n r.word l))), ((λ e. l), (λ k. d)))
read_answer t r (inr (d, z, n)) = (((λ e. n), (λ k. d)), ((λ e. absurd (not_both e d)), (λ l. absurd (n r.word l))))

encode_answer : (i : Instruction) {e : Encoded} → Exact i e
    → ((answer_number e.answer ≡ 0) × Word i e.word) ⊎ ((answer_number e.answer ≡ 11) × (e.word ≡ 0) × ((word : ℕ) → ¬ Word i word))
encode_answer i (inl (w, h, x)) = inl (ap (λ (e : Encoded). answer_number e.answer) h, subst (Word i) (sym (ap (λ (e : Encoded). e.word) h)) x)
encode_answer i (inr (h, n)) = inr (ap (λ (e : Encoded). answer_number e.answer) h, ap (λ (e : Encoded). e.word) h, n)

-- ---- a text or a listing, refused and done

copied_refused : (short : Bool) (n : ℕ) (before after : List ℕ) → ¬ (answer_number (pick short NoRoom Done) ≡ 0) → (pick short 0 n ≡ 0) × (pick short before after ≡ before)
copied_refused true n before after h = (refl, refl)
copied_refused false n before after h = absurd (h refl)

copied_done : (short : Bool) (n : ℕ) (before after : List ℕ) → answer_number (pick short NoRoom Done) ≡ 0 → (pick short 0 n ≡ n) × (pick short before after ≡ after)
copied_done true n before after h = absurd (omega (arith, h))
copied_done false n before after h = (refl, refl)

abbrev Refused : List ℕ → Outcome → Type 0
Refused buffer o = ¬ (answer_number o.answer ≡ 0) → (o.length ≡ 0) × (o.buffer ≡ buffer)

abbrev Completed : List ℕ → List ℕ → Outcome → Type 0
Completed t buffer o = answer_number o.answer ≡ 0 → (o.length ≡ length t) × (o.buffer ≡ sets buffer 0 t)

refused_copy : (t buffer : List ℕ) → Refused buffer (copied t buffer)
unfolding copied
refused_copy t buffer h = copied_refused (ltb (length buffer) (length t)) (length t) buffer (sets buffer 0 t) h

completed_copy : (t buffer : List ℕ) → Completed t buffer (copied t buffer)
unfolding copied
completed_copy t buffer h = copied_done (ltb (length buffer) (length t)) (length t) buffer (sets buffer 0 t) h

-- a word that is not allocated is refused
not_done : (member wrong : Bool) → (member && not wrong) ≡ false → ¬ (answer_number (pick member (pick wrong Undefined Done) NotInSet) ≡ 0)
not_done true true e h = omega arith
not_done true false e h = let z : ◌≡◌ {A = ℕ} 0 1 = cc in omega arith
not_done false wrong e h = omega arith

write_refused : (word : ℕ) (buffer : List ℕ) → Refused buffer (write_of word buffer)
unfolding write_of
write_refused word buffer = pick_by (Refused buffer) (allocated word) (λ e. refused_copy (word_text word) buffer) (λ e h. (refl, refl))

write_done : (word : ℕ) (buffer : List ℕ) → Completed (word_text word) buffer (write_of word buffer)
unfolding write_of decode_of allocated
write_done word buffer =
    pick_by (Completed (word_text word) buffer) (in_set word && not (undefined word)) (λ e. completed_copy (word_text word) buffer)
    (λ e h. absurd (not_done (in_set word) (undefined word) e h))

list_answer : (short : Bool) → answer_number (pick short NoRoom Done) ≡ pick short 10 0
list_answer true = refl
list_answer false = refl

-- ---- the numbers that are answered

abbrev pub Among : List ℕ → ℕ → Type 0
Among numbers n = one_of numbers n ≡ true

pub decoded_number : (word : ℕ) → Among (0 ∷ 2 ∷ 3 ∷ []) (answer_number (decode_of word).answer)
unfolding decode_of
decoded_number word =
    rw (decode_answer (in_set word) (undefined word))
    (first_by (λ a. Among (0 ∷ 2 ∷ 3 ∷ []) (answer_number a)) (λ answer address. answer) Done (take 2 (class_refusals word)) (refl, (refl, tt)) (λ p. refl))

pub class_number_lem : (word : ℕ) → Among (0 ∷ 2 ∷ 3 ∷ 4 ∷ []) (answer_number (class_of word))
unfolding class_of
class_number_lem word =
    rw (class_answer (in_set word) (undefined word) (unpredictable word))
    (first_by (λ a. Among (0 ∷ 2 ∷ 3 ∷ 4 ∷ []) (answer_number a)) (λ answer address. answer) Done (class_refusals word) (refl, (refl, (refl, tt))) (λ p. refl))

written_number : (word : ℕ) (buffer : List ℕ) → Among (0 ∷ 2 ∷ 3 ∷ 10 ∷ []) (answer_number (write_of word buffer).answer)
written_number word buffer =
    let among = Among (0 ∷ 2 ∷ 3 ∷ 10 ∷ []) in
    rw (write_number word buffer)
    (pick_by among (not (in_set word)) (λ e. refl)
    (λ e. pick_by among (undefined word) (λ f. refl) (λ f. pick_by among (ltb (length buffer) (length (word_text word))) (λ g. refl) (λ g. refl))))

listed_number : (bytes output : List ℕ) → Among (0 ∷ 10 ∷ []) (answer_number (list_of bytes output).answer)
unfolding list_of copied
listed_number bytes output = pick_by (λ a. Among (0 ∷ 10 ∷ []) (answer_number a)) (ltb (length output) (length (listing_of bytes))) (λ e. refl) (λ e. refl)

-- ---- steps

empty_refused : (answer_number (encode_of empty).answer ≡ 11) × ((encode_of empty).word ≡ 0)
unfolding encode_of
empty_refused = (refl, refl)

pub step_marks : (rule : Shown → Taints → Taints) (m : Machine) (s : Step Machine) → Refuses s → Follows taints_in rule m s
    → (performed m s).machine.taints ≡ pick (eqb (answer_number (performed m s).answer) 0) (rule (performed m s).shown m.taints) m.taints
step_marks rule m (stopped answer address) r h = rw (ne_eqb (answer_number answer) 0 r)
step_marks rule m (moved n shown) r h = h

marked_answer : (m : Machine) (b d : Bool) (class : Answer)
    → answer_number (performed m (pick b (stopped BadWindow 0) (pick d (stopped TaintedAddress 0) (stopped class 0)))).answer ≡ pick b 1 (pick d 5 (answer_number class))
marked_answer m true d class = refl
marked_answer m false true class = refl
marked_answer m false false class = refl

-- 2, 3 and 4 are what a word is classified as
class_is : (word : ℕ) → answer_number (answer_in (class_refusals word)) ≡ answer_number (class_of word)
unfolding class_of
class_is word = sym (class_answer (in_set word) (undefined word) (unpredictable word))

-- what is known of the machine's step is known of Arm's
by_arm : (w : Window) (word : ℕ) (m : Machine) → Real m → (P : Step Machine → Type 0) → P (step_of w word m) → P (arm_step w word m)
by_arm w word m r P h = subst P (step_as_arm w word m r) h

pub two_steps : (w : Window) (word : ℕ) (m n : Machine) → Same m n → Shows Same (arm_step w word m) (arm_step w word n)
two_steps w word m n h = rw (← step_as_arm w word m h.real, ← step_as_arm w word n h.other) (step_related secret w m n h word)

pub two_runs : (w : Window) (words : List ℕ) (m n : Machine) (l k : Log) → Same m n → SameRoom l k → ShowsRun Same (arm_run w words m l) (arm_run w words n k)
two_runs w words m n l k h room = rw (← run_as_arm w words m l h.real, ← run_as_arm w words n k h.other) (demand-3-of-runs w words m n l k h room)

pub two_fillings : (w : Window) (words : List ℕ) (m n : Machine) (l k : Log) → Filled m n → SameRoom l k → ShowsRun Filled (arm_run w words m l) (arm_run w words n k)
two_fillings w words m n l k h room = rw (← run_as_arm w words m l h.real, ← run_as_arm w words n k h.other) (other_half w words m n l k h room)

-- a machine with another monitor
real_monitor : (r : Monitor) (m : Machine) → Real m → Real (with_monitor r m)
real_monitor r m h = record { registers = h.registers; marks = h.marks; values = h.values; marked = h.marked; bytes = h.bytes }

-- ---- runs that are not begun, and registers that there aren't

pub not_begun_lem : {answer : Answer} {m : Machine} {l : Log} {r : Result Machine} → r ≡ not_begun answer m l → NotBegun (answer_number answer) m l r
not_begun_lem e =
    record {
      answer = ap (λ (r : Result Machine). answer_number r.answer) e;
      steps = ap (λ (r : Result Machine). r.steps) e;
      code = ap (λ (r : Result Machine). r.shown.code) e;
      address = ap (λ (r : Result Machine). r.shown.address) e;
      machine = ap (λ (r : Result Machine). r.machine) e;
      log = ap (λ (r : Result Machine). r.log) e;
    }

above_31 : (file : Registers) (n value marks : ℕ) → length file.value ≡ 32 → length file.taint ≡ 32 → 31 < n
    → (set_at file n value marks ≡ file) × (value_at file n ≡ 0) × (taints_at file n ≡ 0)
above_31 file n value marks v t h =
    let p : length file.value ≤ n = omega arith in
    let q : length file.taint ≤ n = omega arith in
    (simp (set_out, p, q), get_or-eq_default file.value 0 p, get_or-eq_default file.taint 0 q)

zero_register : (file : Registers) (n value marks : ℕ) → length file.value ≡ 32 → length file.taint ≡ 32 → 30 < n
    → (set_at file (zero_slot n) value marks ≡ file) × (value_at file (zero_slot n) ≡ 0) × (taints_at file (zero_slot n) ≡ 0)
zero_register file n value marks v t h =
    above_31 file (zero_slot n) value marks v t (pick_by (λ (k : ℕ). 31 < k) (eqb n 31) (λ e. omega arith) (λ e. omega (arith, eqb-false n 31 e)))

pub demand_1 : Demand1
unfolding decode_of class_of list_of copied run_of
demand_1 =
    record {
      decoded = λ word. by_definition (decode_of word) (decoded_number word);
      classified = λ word. by_definition (class_of word) (class_number_lem word);
      encoded = λ i. by_definition (encode_of i) (encode_number i);
      written = λ word buffer. by_definition (write_of word buffer) (written_number word buffer);
      read = read_answered;
      listed = λ bytes output. by_definition (list_of bytes output) (listed_number bytes output);
      step = λ w word m. by_definition (performed m (arm_step w word m)) (step_number w word m);
      run = λ w words m l. by_definition (arm_run w words m l) (run_number w words m l);
      step_answers = λ w word m. ap answer_number (answers_in w Alone word m);
      step_given = λ w word m. given_in w Alone word m;
      decode_answers = λ word. decode_answer (in_set word) (undefined word);
      class_answers = λ word. class_answer (in_set word) (undefined word) (unpredictable word);
      write_answers = write_number;
      write_refused = write_refused;
      write_done = write_done;
      list_answers = λ bytes output. list_answer (ltb (length output) (length (listing_of bytes)));
      list_refused = λ bytes output. refused_copy (listing_of bytes) output;
      list_done = λ bytes output. completed_copy (listing_of bytes) output;
      read_answers = read_answer;
      encode_answers = λ i. encode_answer i (encode_exact i);
      encode_empty = empty_refused;
      run_window = λ w words m l e. not_begun_lem (sym (run_bad (bad_start w) (arm_step w) words m l refl e));
      run_room = λ w words m l e g. not_begun_lem (sym (run_short (bad_start w) (arm_step w) words m l refl e g));
      run_early = λ w words m l r h. not_begun_lem (run_early w words m l r h);
      run_answers = λ w words m l r e g. (run_begun w words m l r e g, run_ends (arm_step w) (refuses_in w Alone) (bad_start w) words m l e g);
      register_above = above_31;
      register_zero = zero_register;
      refused_step = λ w word m. refused_unchanged m (arm_step w word m);
      refused_run = λ w words m l. run_keeps (arm_step w) (bad_start w) words m l;
    }

pub demand_2 : Demand2
demand_2 =
    let (Line-of, words_records, records_lines, words_lines) = triangle in
    record {
      step_by_page = λ w word m. done_by_page w Alone word m;
      step_real = λ w word m r. by_arm w word m r (λ s. Real (performed m s).machine) (step_real w word m r);
      some_real = (cleared 0, cleared_real 0);
      never_overlap = never_overlap;
      one_sort = exactly_one;
      line_of_record = Line-of;
      words_records = words_records;
      records_lines = records_lines;
      words_lines = words_lines;
      read_once = read_once;
      starred = starred_examples;
      listing = listing_example;
    }

pub demand_3 : Demand3
demand_3 =
    record {
      two_runs = two_runs;
      two_fillings = two_fillings;
      two_steps = two_steps;
      marks_at_end = marks_of_run;
      marks_of_step = λ w word m r. step_marks (mark_rule w.origin word) m (arm_step w word m) (refuses_in w Alone word m) (marks_in w Alone word m r);
      marked_address =
          λ w word m n h.
          rw (← class_is word)
          (ap (λ s. answer_number (performed m s).answer) (marked_refused w Alone word m n h)
          ∙ marked_answer m (bad_start w m) (eqb (answer_number (answer_in (class_refusals word))) 0) (answer_in (class_refusals word)));
    }

-- ---- exclusives, of any step

abbrev Arms : ℕ → Machine → Step Machine → Type 0
Arms word m s = answer_number (performed m s).answer ≡ 0 → (performed m s).machine.monitor ≡ record { address = (performed m s).shown.address; size = 2 ^ field 31 30 word }

abbrev Stores : Window → ℕ → Machine → Step Machine → Type 0
Stores w word m s = answer_number (performed m s).answer ≡ 0 → StoresExclusive w.origin (2 ^ field 31 30 word) (field 20 16 word) (field 4 0 word) m (performed m s)

abbrev Keeps : Machine → Step Machine → Type 0
Keeps m s = ((performed m s).machine.monitor ≡ m.monitor) × ((performed m s).shown.status ≡ 0)

abbrev Fails : Machine → Step Machine → Type 0
Fails m s = answer_number (performed m s).answer ≡ 0 → m.monitor.size ≡ 0 → (performed m s).shown.status ≡ 1

abbrev Tested : Machine → Machine → Step Machine → Step Machine → Type 0
Tested m n s t =
    (answer_number (performed n t).answer ≡ answer_number (performed m s).answer) × ((performed n t).shown.code ≡ (performed m s).shown.code) × ((performed n t).shown.address ≡ (performed m s).shown.address)

tested_first : (w : Window) (word : ℕ) (m : Machine) (r : Monitor) → Real m → Tested m (with_monitor r m) (arm_step w word m) (arm_step w word (with_monitor r m))
tested_first w word m r h =
    by_arm w word m h (λ s. Tested m (with_monitor r m) s (arm_step w word (with_monitor r m)))
    (by_arm w word (with_monitor r m) (real_monitor r m h) (Tested m (with_monitor r m) (step_of w word m)) (tests_first w word m r))

-- by computing
decimal_hints : Each (λ r. word_text (0xf8800020 + r) ≡ asc "prfum #" ++ dec r ++ asc ", [x1]") (6 ∷ 7 ∷ 14 ∷ 15 ∷ 22 ∷ 23 ∷ 24 ∷ 25 ∷ 26 ∷ 27 ∷ 28 ∷ 29 ∷ 30 ∷ 31 ∷ [])
unfolding word_text text_of hint_text base_text offset_tail front_text sized_text dec instruction_of row_of part signed_of sized_at sized_in signed_in
decimal_hints = (refl, (refl, (refl, (refl, (refl, (refl, (refl, (refl, (refl, (refl, (refl, (refl, (refl, (refl, tt))))))))))))))

pub requests : Requests
requests =
    record {
      stack_aligned = λ w word m. stack_aligned w Alone word m;
      stack_refused =
          λ w word m n b d start class u h.
          let refused = stack_refused w Alone word m n b d start (class_is word ∙ class) u h in
          (ap (λ s. answer_number (performed m s).answer) refused, ap (λ s. (performed m s).shown) refused);
      table_decodes = decode_same;
      entry_names = entry_names;
      entry_code = entry_code;
      load_arms = λ w word m r e. by_arm w word m r (Arms word m) (load_arms w word m e);
      store_exclusive_lem = λ w word m r e. by_arm w word m r (Stores w word m) (store_exclusive_lem w word m e);
      others_keep = λ w word m r e f. by_arm w word m r (Keeps m) (others_keep w word m e f);
      tests_first = tested_first;
      opens = λ s. (refl, refl, refl);
      open_fails = λ w word m r e. by_arm w word m r (Fails m) (open_fails w word m e);
      observed_opens = observed_opens;
      observed_keeps = observed_keeps;
      text_most_lem = text_short;
      text_reached = text_reached;
      line_most_lem = line_within;
      short_most = short_within;
      line_reached = line_reached;
      stream_listed = streamed;
      stream_answers = call_answer;
      stream_closed = call_closed;
      stream_open = call_open;
      stream_unchanged = call_unchanged;
      stream_puts = call_puts;
      hints = hints_read;
      decimal_hints = decimal_hints;
      lent_step_lem = step_exact;
      lent_register = register_exact;
      vector_four = vector_four;
      load_clears = λ w word m r n vector done. load_clears w word m r vector done n;
    }
