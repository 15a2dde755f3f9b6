-- The page of memory images holds: each sentence is a theorem of the crate, carried over the equation of the contract. Assumes nothing.
use Prim.Native.Nat.{ℕ, suc, ◌+◌, ◌<◌}
use mathlib.Core.Path.{◌≡◌, refl, sym, ap, ◌∙◌}
use mathlib.Core.Bool.{Bool, true, false}
use mathlib.Core.List.{List, [], ◌∷◌}
use mathlib.Core.Logic.{◌↔◌, ◌⊎◌, inl, inr}
use native.Mathlib.Omega.{arith}
use borrow.Author.Tests.{eqb-true, eqb-false, eq-eqb, ne_eqb, lt-ltb, ltb-true}
use lib.Dec.{eqb, ltb}
use lib.ListN.{length, get_or}
use Rattle.bits.specs.Choice.{pick, lookup}
use Rattle.plan.specs.Window.{bad_window}
use Rattle.image.specs.declared.Reply.{Reply}
use Rattle.image.specs.Lines.{lines_of, digit_table, digit_of, byte_in, shaped}
use Rattle.image.specs.Records.{sum_in, bad_count, bad_type, upper_after, places_in}
use Rattle.image.specs.Import.{beyond, faults_in, reply_of, put, Outcome, import_of}
use Rattle.image.specs.Faults.{fault_at, Lowest, OneEnd}
use Rattle.image.specs.Last.{named, LastIs}
use Rattle.image.specs.Hex.{hex_of, upper_digits, lower_digits}
use Rattle.image.proofs.Cuts.{held}
use Rattle.image.proofs.Faults.{window_tells, fault_malformed, fault_sum, fault_type, fault_outside}
use Rattle.image.proofs.Addresses.{data_at, data_length, no_data, upper_half, same_half}
use Rattle.image.proofs.Verdicts.{import_number, import_window, import_bad, import_lowest, import_clean, import_no_line, import_refused, import_lengths, import_said, import_kept, import_marks, clean_end}
use Rattle.image.proofs.Back.{import_back, upper_read, lower_read}
use Rattle.promises.specs.Answered.{one_of}
use Rattle.promises.specs.Images.{ImportCall, data_of, BadLent, Holds, ReadBack, Images}

module _ (c : ImportCall) where
  abbrev gives : Outcome
  gives = import_of c.window c.text c.memory c.taint

  reply_is : c.reply ≡ gives.reply
  reply_is = ap (λ (o : Outcome). o.reply) c.allowed

  memory_is : c.memory' ≡ gives.memory
  memory_is = ap (λ (o : Outcome). o.memory) c.allowed

  taint_is : c.taint' ≡ gives.taint
  taint_is = ap (λ (o : Outcome). o.taint) c.allowed

  answer_is : c.reply.answer ≡ gives.reply.answer
  answer_is = ap (λ (r : Reply). r.answer) reply_is

  line_is : c.reply.line ≡ gives.reply.line
  line_is = ap (λ (r : Reply). r.line) reply_is

  -- ---- the window

  bad : Bool
  bad = bad_window c.window (length c.memory) (length c.taint) 0

  bad_of : bad ≡ true → BadLent c
  unfolding bad
  bad_of = (window_tells c.window (length c.memory) (length c.taint)).0

  bad_at : (b : Bool) → bad ≡ b → (BadLent c → b ≡ true) × (¬ BadLent c → b ≡ false)
  unfolding bad
  bad_at true e = ((λ h. refl), (λ h. absurd (h (bad_of e))))
  bad_at false e = ((λ h. absurd ((window_tells c.window (length c.memory) (length c.taint)).1 e h)), (λ h. refl))

  good_of : ¬ BadLent c → bad ≡ false
  good_of = (bad_at bad refl).1

  call_window : (c.reply.answer ≡ 1) ↔ BadLent c
  unfolding bad
  call_window = (
    (λ h. bad_of (import_bad c.window c.text c.memory c.taint (sym answer_is ∙ h))),
    (λ h. answer_is ∙ ap (λ (r : Reply). r.answer) (import_window c.window c.text c.memory c.taint ((bad_at bad refl).0 h))),
  )

  -- ---- the lines

  call_lowest : ¬ BadLent c → (k n : ℕ) → ¬ (n ≡ 0) → ((c.reply.answer ≡ n) × (c.reply.line ≡ suc k)) ↔ Lowest c.window.origin (length c.memory) false 0 (lines_of c.text) k n
  unfolding bad
  call_lowest h k n z = rw (answer_is, line_is) (import_lowest c.window c.text c.memory c.taint (good_of h) k n z)

  call_faultless : ¬ BadLent c → (c.reply.answer ≡ 0) ↔ ((k : ℕ) → fault_at c.window.origin (length c.memory) false 0 (lines_of c.text) k ≡ 0)
  unfolding bad
  call_faultless h = rw answer_is (import_clean c.window c.text c.memory c.taint (good_of h))

  not_bad : c.reply.answer ≡ 0 → ¬ BadLent c
  not_bad h b = omega (arith, h, call_window.1 b)

  call_no_line : (c.reply.answer ≡ 0) ⊎ (c.reply.answer ≡ 1) → c.reply.line ≡ 0
  unfolding bad
  call_no_line (inl h) = line_is ∙ import_no_line c.window c.text c.memory c.taint (good_of (not_bad h)) (sym answer_is ∙ h)
  call_no_line (inr h) =
      line_is ∙ ap (λ (r : Reply). r.line) (import_window c.window c.text c.memory c.taint (import_bad c.window c.text c.memory c.taint (sym answer_is ∙ h)))

  call_one_end : c.reply.answer ≡ 0 → OneEnd (lines_of c.text)
  call_one_end h = clean_end c.window.origin (length c.memory) (lines_of c.text) 0 ((call_faultless (not_bad h)).0 h)

  -- ---- memory and marks

  call_refused : ¬ (c.reply.answer ≡ 0) → (c.memory' ≡ c.memory) × (c.taint' ≡ c.taint)
  call_refused h =
      let same = import_refused c.window c.text c.memory c.taint (ne_eqb _ 0 (λ e. h (answer_is ∙ e))) in
      (memory_is ∙ same.0, taint_is ∙ same.1)

  call_lengths : (length c.memory' ≡ length c.memory) × (length c.taint' ≡ length c.taint)
  call_lengths =
      let same = import_lengths c.window c.text c.memory c.taint in
      (ap length memory_is ∙ same.0, ap length taint_is ∙ same.1)

  marks_at_lem : c.reply.answer ≡ 0 → (b : Bool) → eqb (length c.taint) (length c.memory) ≡ b → length c.taint ≡ length c.memory
  marks_at_lem h true e = eqb-true _ _ e
  marks_at_lem h false e = absurd (not_bad h (inr (inr (eqb-false _ _ e))))

  module _ (h : c.reply.answer ≡ 0) (i : ℕ) (inside : i < length c.memory) where
    done : eqb gives.reply.answer 0 ≡ true
    done = eq-eqb _ 0 (sym answer_is ∙ h)

    mark_is : get_or c.taint' i 0 ≡ pick (named (c.window.origin + i) (data_of c)) 0 (get_or c.taint i 0)
    mark_is =
        ap (λ (t : List ℕ). get_or t i 0) taint_is
        ∙ import_marks c.window c.text c.memory c.taint done i (omega (arith, inside, marks_at_lem h (eqb (length c.taint) (length c.memory)) refl))

    call_written : named (c.window.origin + i) (data_of c) ≡ true → LastIs (c.window.origin + i) (data_of c) (get_or c.memory' i 0) × (get_or c.taint' i 0 ≡ 0)
    call_written e = (rw memory_is (import_said c.window c.text c.memory c.taint done i inside e), rw e at mark_is)

    call_kept : named (c.window.origin + i) (data_of c) ≡ false → (get_or c.memory' i 0 ≡ get_or c.memory i 0) × (get_or c.taint' i 0 ≡ get_or c.taint i 0)
    call_kept e = (ap (λ (m : List ℕ). get_or m i 0) memory_is ∙ import_kept c.window c.text c.memory c.taint done i inside e, rw e at mark_is)

  -- ---- reading back

  call_back : (digits : List ℕ) → ((n : ℕ) → n < 16 → digit_of (get_or digits n 0) ≡ n) → (start : ℕ) (bytes : List ℕ) → Holds c start bytes → c.text ≡ hex_of digits start bytes → ReadBack c start bytes
  unfolding bad
  call_back digits reads start bytes f e =
      let back = import_back digits reads c.window start bytes c.memory c.taint (good_of f.good) f.all f.starts f.ends f.low in
      let whole = c.allowed ∙ ap (λ (t : List ℕ). import_of c.window t c.memory c.taint) e ∙ back in
      record {
        answer = ap (λ (o : Outcome). o.reply.answer) whole;
        memory = ap (λ (o : Outcome). o.memory) whole;
        taint = ap (λ (o : Outcome). o.taint) whole;
      }

abbrev import_numbers : List ℕ
import_numbers = 0 ∷ 1 ∷ 7 ∷ 13 ∷ 14 ∷ 15 ∷ []

call_answers : (c : ImportCall) → one_of import_numbers c.reply.answer ≡ true
call_answers c =
    rw (answer_is c) (import_number (λ n. one_of import_numbers n ≡ true) refl refl refl refl refl c.window c.text c.memory c.taint (λ e. refl))

-- ---- digits

abbrev keys_of : List (ℕ × ℕ) → List ℕ
keys_of [] = []
keys_of (e ∷ es) = e.0 ∷ keys_of es

abbrev all_digits : List (ℕ × ℕ) → Bool
all_digits [] = true
all_digits (e ∷ es) = pick (ltb e.1 16) (all_digits es) false

listed_at : (b x : Bool) (v w : ℕ) → ltb v 16 ≡ true → ltb w 16 ≡ x → ltb (pick b v w) 16 ≡ pick b true x
listed_at true x v w p q = p
listed_at false x v w p q = q

listed : (es : List (ℕ × ℕ)) → all_digits es ≡ true → (c : ℕ) → ltb (lookup 16 es c) 16 ≡ one_of (keys_of es) c
listed [] h c = refl
listed (e ∷ es) h c =
    let two = held (ltb e.1 16) (all_digits es) h in
    listed_at (eqb c e.0) (one_of (keys_of es) c) e.1 (lookup 16 es c) two.0 (listed es two.1 c)

all_listed : (c : ℕ) → (digit_of c < 16) ↔ (one_of (keys_of digit_table) c ≡ true)
unfolding digit_of
all_listed c =
    ((λ h. sym (listed digit_table refl c) ∙ lt-ltb (digit_of c) 16 h), (λ h. ltb-true (digit_of c) 16 (listed digit_table refl c ∙ h)))

missing : (origin len : ℕ) (ended : Bool) (upper : ℕ) → (fault_at origin len ended upper [] 0 ≡ 13) ↔ (ended ≡ false)
missing origin len true upper = ((λ h. absurd (omega (arith, h))), (λ h. absurd (let z : ◌≡◌ {A = ℕ} 0 1 = cc in omega arith)))
missing origin len false upper = ((λ h. refl), (λ h. refl))

pub images : Images
unfolding import_of reply_of bad_window faults_in shaped digit_of byte_in sum_in bad_count bad_type upper_after places_in beyond put
images =
    record {
      answers = call_answers;
      window = call_window;
      lowest = call_lowest;
      faultless = call_faultless;
      no_line = call_no_line;
      malformed = fault_malformed;
      checksum = fault_sum;
      type = fault_type;
      outside = fault_outside;
      one_end = call_one_end;
      missing_end = missing;
      refused = call_refused;
      address = data_at;
      counted = data_length;
      no_data = no_data;
      upper_half = upper_half;
      same_half = same_half;
      written = call_written;
      kept = call_kept;
      lengths = call_lengths;
      upper_read = λ c. call_back c upper_digits upper_read;
      lower_read = λ c. call_back c lower_digits lower_read;
      digits = all_listed;
      three_faults = refl;
      two_faults = refl;
      one_fault = refl;
      sum_and_window = refl;
      window_alone = refl;
      count_and_sum = refl;
      upper_count = refl;
      too_long = refl;
      empty_line = refl;
      returned = refl;
      no_newline = refl;
      behind_window = refl;
      around = refl;
      window_above = refl;
      lower_line = refl;
      behind_end = refl;
      no_end = refl;
      no_lines = refl;
      no_bytes = refl;
      replaced = refl;
      runs_on = refl;
      put_above = refl;
    }
