-- The page of rescued listings holds: each sentence is a theorem of the crate, carried over the equation of the contract. Assumes
-- nothing.
use Prim.Native.Nat.{ℕ, ◌+◌, ◌*◌, ◌%◌, ◌≤◌, ◌<◌}
use mathlib.Core.Path.{◌≡◌, refl, sym, ap, ◌∙◌, subst}
use mathlib.Core.Bool.{true}
use mathlib.Core.List.{List, [], ◌∷◌}
use mathlib.Core.Logic.{◌↔◌, ◌⊎◌, inl, inr}
use native.Mathlib.Omega.{arith}
use lib.ListN.{length, take, get_or}
use lib.Seq.{sets}
use Rattle.listing.specs.Listing.{listing_of}
use Rattle.rescue.specs.declared.Fate.{Fate}
use Rattle.rescue.specs.declared.Fate.TheVariants.{Kept, Restored, Dropped}
use Rattle.rescue.specs.Lines.{lines_of}
use Rattle.rescue.specs.Rescue.{Fates, output_of, report_line, report_of, Outcome, outcome}
use Rattle.rescue.specs.Whole.{ended, WordLine}
use Rattle.rescue.proofs.Fates.{fate_once, fates_once, fate_some}
use Rattle.rescue.proofs.Certain.{first_line, last_line, three_fields, kept_is, restored_is, answer_4_restored, digits_not_restored, short_dropped}
use Rattle.rescue.proofs.Lined.{digits_are}
use Rattle.rescue.proofs.Rooms.{lines_count, text_most_lem, rows_most}
use Rattle.rescue.proofs.Promised.{AllKept, correct_listing, second_pass, output_lines, output_ended, fates_length, fate_at, row_is, report_lines, report_ended, report_kept, Refused, Completed, call_of_lem, starts}
use Rattle.promises.specs.Answered.{one_of}
use Rattle.promises.specs.Rescue.{RescueCall, rescued, reported, SaysKept, Rescue}

-- ---- what a call gives

module _ (c : RescueCall) where
  abbrev text : List ℕ
  text = output_of c.allowed.fates

  abbrev rows : List ℕ
  rows = report_of c.allowed.fates

  abbrev left : Outcome
  left = outcome c.reply c.output' c.report'

  -- each field of a refusal
  record Unchanged : Type 0 where
    lacking : (length c.output < length text) ⊎ (length c.report < length rows)
    answer : c.reply.answer ≡ 10
    length_is : c.reply.length ≡ 0
    rows_are : c.reply.report_length ≡ 0
    output : c.output' ≡ c.output
    report : c.report' ≡ c.report

  record Put : Type 0 where
    room : length text ≤ length c.output
    space : length rows ≤ length c.report
    answer : c.reply.answer ≡ 0
    output : c.output' ≡ sets c.output 0 text
    report : c.report' ≡ sets c.report 0 rows
    put_out : rescued c ≡ text
    put_rows : reported c ≡ rows

  unchanged : Refused text rows c.output c.report left → Unchanged
  unchanged r =
      record {
        lacking = r.lacking;
        answer = ap (λ (o : Outcome). o.answer) r.leaves;
        length_is = ap (λ (o : Outcome). o.length) r.leaves;
        rows_are = ap (λ (o : Outcome). o.report_length) r.leaves;
        output = ap (λ (o : Outcome). o.output) r.leaves;
        report = ap (λ (o : Outcome). o.report) r.leaves;
      }

  put : Completed text rows c.output c.report left → Put
  put r =
      let n : c.reply.length ≡ length text = ap (λ (o : Outcome). o.length) r.leaves in
      let m : c.reply.report_length ≡ length rows = ap (λ (o : Outcome). o.report_length) r.leaves in
      let out : c.output' ≡ sets c.output 0 text = ap (λ (o : Outcome). o.output) r.leaves in
      let rep : c.report' ≡ sets c.report 0 rows = ap (λ (o : Outcome). o.report) r.leaves in
      record {
        room = r.room;
        space = r.space;
        answer = ap (λ (o : Outcome). o.answer) r.leaves;
        output = out;
        report = rep;
        put_out = ap (λ (k : ℕ). take k c.output') n ∙ ap (take (length text)) out ∙ starts text c.output r.room;
        put_rows = ap (λ (k : ℕ). take k c.report') m ∙ ap (take (length rows)) rep ∙ starts rows c.report r.space;
      }

  by : Refused text rows c.output c.report left ⊎ Completed text rows c.output c.report left → Unchanged ⊎ Put
  by (inl r) = inl (unchanged r)
  by (inr r) = inr (put r)

  gives : Unchanged ⊎ Put
  gives = by (call_of_lem c.allowed)

  done_by : Unchanged ⊎ Put → c.reply.answer ≡ 0 → Put
  done_by (inl u) h = absurd (omega (arith, h, u.answer))
  done_by (inr p) h = p

  refused_by : Unchanged ⊎ Put → c.reply.answer ≡ 10 → Unchanged
  refused_by (inl u) h = u
  refused_by (inr p) h = absurd (omega (arith, h, p.answer))

  done : c.reply.answer ≡ 0 → Put
  done h = done_by gives h

  answer_by : Unchanged ⊎ Put → one_of (0 ∷ 10 ∷ []) c.reply.answer ≡ true
  answer_by (inl u) = ap (one_of (0 ∷ 10 ∷ [])) u.answer
  answer_by (inr p) = ap (one_of (0 ∷ 10 ∷ [])) p.answer

  exactly_by : Unchanged ⊎ Put → (c.reply.answer ≡ 10) ↔ ((length c.output < length text) ⊎ (length c.report < length rows))
  exactly_by (inl u) = ((λ h. u.lacking), (λ h. u.answer))
  exactly_by (inr p) = ((λ h. absurd (omega (arith, h, p.answer))), (λ h. enough h))
    where
      enough : (length c.output < length text) ⊎ (length c.report < length rows) → c.reply.answer ≡ 10
      enough (inl k) = absurd (omega (arith, k, p.room))
      enough (inr k) = absurd (omega (arith, k, p.space))

  room_by : length c.input + length (lines_of c.input) * 10 ≤ length c.output → length (lines_of c.input) * 30 ≤ length c.report → Unchanged ⊎ Put → c.reply.answer ≡ 0
  room_by h k (inr p) = p.answer
  room_by h k (inl u) = lacks u.lacking
    where
      lacks : (length c.output < length text) ⊎ (length c.report < length rows) → c.reply.answer ≡ 0
      lacks (inl z) = absurd (omega (arith, h, z, text_most_lem c.input c.allowed.each))
      lacks (inr z) = absurd (omega (arith, k, z, rows_most c.input c.allowed.each))

  module _ (h : c.reply.answer ≡ 0) where
    out_is : rescued c ≡ text
    out_is = (done h).put_out

    rows_are : reported c ≡ rows
    rows_are = (done h).put_rows

    row_count : length (lines_of (reported c)) ≡ length (lines_of c.input)
    row_count = ap (λ (t : List ℕ). length (lines_of t)) rows_are ∙ (report_lines c.allowed.each).0

    says_kept : AllKept c.allowed.fates → SaysKept c
    says_kept k = (row_count, λ i l. ap (λ (t : List ℕ). get_or (lines_of t) i []) rows_are ∙ report_kept c.allowed.each k i l)

    call_rows : (length (lines_of (reported c)) ≡ length (lines_of c.input))
        × ((i : ℕ) → i < length (lines_of c.input) → get_or (lines_of (reported c)) i [] ≡ report_line (1 + i) (get_or c.allowed.fates i Dropped))
    call_rows = (row_count, λ i l. ap (λ (t : List ℕ). get_or (lines_of t) i []) rows_are ∙ (report_lines c.allowed.each).1 i l)

    call_newlines : (rescued c ≡ ended (lines_of (rescued c))) × (reported c ≡ ended (lines_of (reported c)))
    call_newlines = (
      out_is ∙ output_ended c.allowed.fates ∙ ap (λ (t : List ℕ). ended (lines_of t)) (sym out_is),
      rows_are ∙ report_ended c.allowed.fates ∙ ap (λ (t : List ℕ). ended (lines_of t)) (sym rows_are),
    )

    call_whole : (i : ℕ) → i < length (lines_of (rescued c)) → WordLine (get_or (lines_of (rescued c)) i [])
    call_whole =
        subst (λ (t : List ℕ). (i : ℕ) → i < length (lines_of t) → WordLine (get_or (lines_of t) i [])) (sym out_is) (output_lines c.allowed.each)

    call_correct : (bytes : List ℕ) → ((i : ℕ) → get_or bytes i 0 < 256) → length bytes % 4 ≡ 0 → c.input ≡ listing_of bytes → (rescued c ≡ c.input) × SaysKept c
    call_correct bytes b n e =
        let each : Fates (lines_of (listing_of bytes)) c.allowed.fates = subst (λ (t : List ℕ). Fates (lines_of t) c.allowed.fates) e c.allowed.each in
        let same = correct_listing bytes b n each in
        (out_is ∙ same.0 ∙ sym e, says_kept same.1)

  of_fates : (fs : List Fate) → Fates (lines_of c.input) fs → c.allowed.fates ≡ fs
  of_fates fs a = fates_once c.allowed.each a

  call_done : (fs : List Fate) → Fates (lines_of c.input) fs → c.reply.answer ≡ 0
      → (rescued c ≡ output_of fs) × (reported c ≡ report_of fs) × (c.output' ≡ sets c.output 0 (output_of fs)) × (c.report' ≡ sets c.report 0 (report_of fs))
  call_done fs a h =
      let p = done h in
      subst (λ gs. (rescued c ≡ output_of gs) × (reported c ≡ report_of gs) × (c.output' ≡ sets c.output 0 (output_of gs)) × (c.report' ≡ sets c.report 0 (report_of gs)))
      (of_fates fs a) (p.put_out, p.put_rows, p.output, p.report)

call_second : (c d : RescueCall) → c.reply.answer ≡ 0 → d.input ≡ rescued c → d.reply.answer ≡ 0 → (rescued d ≡ d.input) × SaysKept d
call_second c d h e k =
    let first = e ∙ out_is c h in
    let each = subst (λ (t : List ℕ). Fates (lines_of t) d.allowed.fates) first d.allowed.each in
    let same = second_pass c.allowed.each each in
    (out_is d k ∙ same.0 ∙ sym first, says_kept d k same.1)

pub rescue : Rescue
rescue =
    record {
      no_line = refl;
      first_line = first_line;
      last_line = last_line;
      one_fate = λ line. let (f, a) = fate_some line in (f, a, λ g b. fate_once line g f b a);
      fates = λ lines fs a. (fates_length a, fate_at a);
      kept = kept_is;
      restored = restored_is;
      digits = digits_are;
      two_tabs = three_fields;
      answer_4 = answer_4_restored;
      not_restored = digits_not_restored;
      short = short_dropped;
      put_out = λ w. (refl, refl, refl);
      in_order = λ f fs. (refl, refl);
      answers = λ c. answer_by c (gives c);
      exactly = λ c fs a. subst (λ gs. (c.reply.answer ≡ 10) ↔ ((length c.output < length (output_of gs)) ⊎ (length c.report < length (report_of gs)))) (of_fates c fs a) (exactly_by c (gives c));
      refused = λ c h. let u = refused_by c (gives c) h in (u.length_is, u.rows_are, u.output, u.report);
      done = call_done;
      rows = λ c fs a h. subst (λ gs. (length (lines_of (reported c)) ≡ length (lines_of c.input)) × ((i : ℕ) → i < length (lines_of c.input) → get_or (lines_of (reported c)) i [] ≡ report_line (1 + i) (get_or gs i Dropped))) (of_fates c fs a) (call_rows c h);
      names = λ n w. (row_is n (Kept w), row_is n (Restored w), row_is n Dropped);
      newlines = call_newlines;
      correct = λ c bytes b n e h. call_correct c h bytes b n e;
      second = call_second;
      whole = call_whole;
      room = λ c h k. room_by c h k (gives c);
      few_lines = λ c. lines_count 10 c.input;
    }
