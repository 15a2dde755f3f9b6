-- Every entry answers, with a number of 01's table. Assumes nothing.
use Prim.Native.Nat.{ℕ}
use mathlib.Core.Path.{◌≡◌, refl, sym, ap, ◌∙◌}
use mathlib.Core.Bool.{Bool, true, false}
use mathlib.Core.List.{List, [], ◌∷◌, ◌++◌}
use mathlib.Core.Logic.{inl, inr}
use native.Mathlib.Omega.{arith}
use lib.Dec.{eqb}
use lib.ListN.{get_or}
use Rattle.bits.specs.Choice.{pick}
use Rattle.bits.proofs.Choices.{tested}
use Rattle.instruction.specs.declared.answer.Answer.{Answer}
use Rattle.instruction.specs.declared.answer.Answer.TheVariants.{Done, NoSuchText}
use Rattle.instruction.specs.Encoded.{Encoded}
use Rattle.instruction.specs.declared.family.Instruction.{Instruction}
use Rattle.instruction.specs.Answers.{answer_number}
use Rattle.encoder.specs.Encoding.{encode_of}
use Rattle.plan.specs.declared.window.Window.{Window}
use Rattle.plan.specs.declared.ranges.Ranges.{Ranges}
use Rattle.plan.specs.declared.ranges.Reach.{Reach}
use Rattle.plan.specs.declared.ranges.Reach.TheVariants.{Alone, Ranged}
use Rattle.plan.proofs.Refusals.{each_map, first_by}
use Rattle.machine.specs.Machine.{Machine}
use Rattle.machine.specs.Step.{Step, Outcome, performed}
use Rattle.machine.proofs.Answers.{Refuses, Numbered, Later, Late}
use Rattle.execution.specs.Walk.{Log, short, run_of}
use Rattle.execution.specs.Ends.{alone, Ends, last_of}
use Rattle.execution.specs.Run.{plain_window}
use Rattle.execution.proofs.Walks.{run_ends}
use Rattle.arm.specs.Choices.{bad_start, arm_refusals_in, arm_step_in, arm_refusals, arm_step, arm_run, bad_turn_start, arm_turn_step, arm_turn}
use Rattle.arm.proofs.Answers.{answers_in, later_refusals, numbers_later, numbers_late, refuses_in}
use Rattle.encoder.specs.Exact.{Exact}
use Rattle.encoder.proofs.RoundTrip.{encode_exact}
use Rattle.reader.specs.Reading.{Reading, ReadOf}
use Rattle.reader.proofs.RoundTrip.{read_some, read_once}
use Rattle.host.specs.declared.WordReply.{WordReply}
use Rattle.host.specs.Replies.{ReadAs}
use Rattle.host.proofs.Replies.{read_as}
use Rattle.promises.specs.Answered.{one_of, Answered, Is}

pub by_definition : {R : Type 0} (x : R) {number : R → ℕ} {numbers : List ℕ} → one_of numbers (number x) ≡ true → Answered (Is x) number numbers
by_definition x {number} {numbers} h =
    record { some = (x, refl); one = λ r s e g. e ∙ sym g; answer = λ r e. ap (λ y. one_of numbers (number y)) e ∙ h }

-- ---- steps and runs

abbrev pub step_numbers : List ℕ
step_numbers = 0 ∷ 1 ∷ 2 ∷ 3 ∷ 4 ∷ 5 ∷ 6 ∷ 7 ∷ 8 ∷ []

abbrev Stepwise : Answer → Type 0
Stepwise answer = one_of step_numbers (answer_number answer) ≡ true

pub step_number : (w : Window) (word : ℕ) (m : Machine) → Stepwise (performed m (arm_step w word m)).answer
step_number w word m =
    let further = later_refusals w Alone word m in
    rw (answers_in w Alone word m)
    (first_by Stepwise (λ answer address. answer) Done (arm_refusals w word m)
    (refl, each_map {P = Numbered Later} {Q = λ e. Stepwise e.answer} (λ e l. tested 9 (one_of step_numbers) refl (answer_number e.answer) l.1) further (numbers_later w word m))
    (λ p. refl))

either_way : (z a b : Bool) → (a ≡ true → b ≡ true) → pick z true a ≡ true → pick z true b ≡ true
either_way true a b h e = refl
either_way false a b h e = h e

with_more : (ks : List ℕ) (k n : ℕ) → one_of ks n ≡ true → one_of (ks ++ (k ∷ [])) n ≡ true
with_more [] k n h = absurd (let z : ◌≡◌ {A = ℕ} 0 1 = cc in omega arith)
with_more (j ∷ ks) k n h = either_way (eqb n j) (one_of ks n) (one_of (ks ++ (k ∷ [])) n) (with_more ks k n) h

abbrev pub run_numbers : List ℕ
run_numbers = 0 ∷ 1 ∷ 2 ∷ 3 ∷ 4 ∷ 5 ∷ 6 ∷ 7 ∷ 8 ∷ 10 ∷ []

-- a run of steps that answer such numbers, with 0, 1 and 10 among them
module _ (numbers : List ℕ) (done : one_of numbers 0 ≡ true) (window : one_of numbers 1 ≡ true) (room : one_of numbers 10 ≡ true) (f : ℕ → Machine → Step Machine) (refuses : (word : ℕ) (m : Machine) → Refuses (f word m))
    (stepwise : (word : ℕ) (m : Machine) → one_of numbers (answer_number (performed m (f word m)).answer) ≡ true) (test : Machine → Bool) (words : List ℕ) (m : Machine) (l : Log) where
  ended_number : (steps : ℕ) (o : Outcome Machine) → Ends f words m steps o → one_of numbers (answer_number o.answer) ≡ true
  ended_number steps o (inl (l, d, h)) = rw d done
  ended_number steps o (inr (d, (l, h))) = rw h at (stepwise (get_or words steps 0) (alone f words m steps).machine)

  number_at : (y z : Bool) → test m ≡ y → short words l ≡ z → one_of numbers (answer_number (run_of test f words m l).answer) ≡ true
  unfolding run_of
  number_at true z e g = rw e window
  number_at false true e g = rw (e, g) room
  number_at false false e g =
      let r = run_of test f words m l in
      ended_number r.steps (last_of r) (run_ends f refuses test words m l e g)

  pub number_of_run : one_of numbers (answer_number (run_of test f words m l).answer) ≡ true
  number_of_run = number_at (test m) (short words l) refl refl

pub run_number : (w : Window) (words : List ℕ) (m : Machine) (l : Log) → one_of run_numbers (answer_number (arm_run w words m l).answer) ≡ true
run_number w = number_of_run run_numbers refl refl refl (arm_step w) (refuses_in w Alone) (λ word m. with_more step_numbers 10 (answer_number (performed m (arm_step w word m)).answer) (step_number w word m)) (bad_start w)

-- ---- turns

abbrev pub turn_numbers : List ℕ
turn_numbers = 0 ∷ 1 ∷ 2 ∷ 3 ∷ 4 ∷ 5 ∷ 6 ∷ 7 ∷ 8 ∷ 10 ∷ 12 ∷ []

late_number : (n : ℕ) → Late n → one_of turn_numbers n ≡ true
late_number n (inl l) = tested 9 (one_of turn_numbers) refl n l.1
late_number n (inr e) = rw e

reach_number : (w : Window) (reach : Reach) (word : ℕ) (m : Machine) → one_of turn_numbers (answer_number (performed m (arm_step_in w reach word m)).answer) ≡ true
reach_number w reach word m =
    let further = later_refusals w reach word m in
    rw (answers_in w reach word m)
    (first_by (λ (answer : Answer). one_of turn_numbers (answer_number answer) ≡ true) (λ answer address. answer) Done (arm_refusals_in w reach word m)
    (refl, each_map {P = Numbered Late} {Q = λ e. one_of turn_numbers (answer_number e.answer) ≡ true} (λ e l. late_number (answer_number e.answer) l) further (numbers_late w reach word m))
    (λ p. refl))

pub turn_number : (origin : ℕ) (r : Ranges) (words : List ℕ) (m : Machine) (l : Log) → one_of turn_numbers (answer_number (arm_turn origin r words m l).answer) ≡ true
turn_number origin r = number_of_run turn_numbers refl refl refl (arm_turn_step origin r) (refuses_in (plain_window origin) (Ranged r)) (reach_number (plain_window origin) (Ranged r)) (bad_turn_start origin r)

-- ---- encoding and reading

exact_number : (i : Instruction) (e : Encoded) → Exact i e → one_of (0 ∷ 11 ∷ []) (answer_number e.answer) ≡ true
exact_number i e (inl (w, h, x)) = rw h
exact_number i e (inr (h, n)) = rw h

pub encode_number : (i : Instruction) → one_of (0 ∷ 11 ∷ []) (answer_number (encode_of i).answer) ≡ true
encode_number i = exact_number i (encode_of i) (encode_exact i)

read_number : (t : List ℕ) (r : Reading) → ReadOf t r → one_of (0 ∷ 9 ∷ []) (answer_number r.answer) ≡ true
read_number t r (inl (d, l)) = rw d
read_number t r (inr (d, z, n)) = rw d

pub read_answered : (t : List ℕ) → Answered (ReadOf t) (λ r. answer_number r.answer) (0 ∷ 9 ∷ [])
read_answered t = record { some = read_some t; one = read_once t; answer = read_number t }

-- ---- the library

abbrev replied : Reading → WordReply
replied q = record { answer = answer_number q.answer; word = q.word }

pub word_some : (t : List ℕ) → (r : WordReply) × ReadAs t r
word_some t = of_reading (read_some t)
  where
    of_reading : (r : Reading) × ReadOf t r → (r : WordReply) × ReadAs t r
    of_reading (r, h) = (replied r, read_as t r refl h)

-- a reply is that of a reading
word_read : (t : List ℕ) (r : WordReply) → ReadAs t r → (q : Reading) × (ReadOf t q × (r ≡ replied q))
word_read t r (inl (d, l)) = (record { answer = Done; word = r.word }, (inl (refl, l), λ i. record { answer = d i; word = r.word }))
word_read t r (inr (d, z, n)) = (record { answer = NoSuchText; word = r.word }, (inr (refl, z, n), λ i. record { answer = d i; word = r.word }))

pub word_number : (t : List ℕ) (r : WordReply) → ReadAs t r → one_of (0 ∷ 9 ∷ []) r.answer ≡ true
word_number t r h =
    let (q, (of-q, is-q)) = word_read t r h in
    ap (λ (v : WordReply). one_of (0 ∷ 9 ∷ []) v.answer) is-q ∙ read_number t q of-q
