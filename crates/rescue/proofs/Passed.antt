-- Rescuing line by line: the fates of the lines that are passed, and those still to come. Assumes nothing.
use Prim.Native.Nat.{ℕ, zero, suc, ◌+◌, ◌-◌, ◌≤◌, ◌<◌, min}
use mathlib.Core.Path.{◌≡◌, refl, sym, ap, ◌∙◌, subst}
use mathlib.Core.Bool.{Bool, true, false, cond, not, ◌||◌}
use mathlib.Core.List.{List, [], ◌∷◌, ◌++◌, append_assoc, append-nil}
use native.Mathlib.Omega.{arith}
use native.Mathlib.Decide.{dec_lt}
use native.Mathlib.Nat.{zero-add}
use borrow.Author.Tests.{lt-ltb, le-ltb, ltb-false, not-true, not-false}
use mathlib.Core.Logic.{◌⊎◌, inl, inr}
use Rattle.bits.proofs.Choices.{neither}
use lib.Dec.{eqb, ltb}
use lib.ListN.{length, take, drop, length-append, length-drop, drop_of_length-le}
use lib.Seq.{sets, drop-drop}
use Rattle.std.specs.Prelude.{filter}
use Rattle.bits.specs.Choice.{pick}
use Rattle.ascii.specs.route.Puts.{Puts}
use Rattle.ascii.proofs.Pieces.{after, fits}
use Rattle.rescue.specs.Lines.{lead, lines_of}
use Rattle.rescue.specs.Rescue.{FateOf, Fates, none, next, line_out, output_of, report_line, report_from, report_of, outcome, lacks, both_put, RescueOf}
use Rattle.rescue.specs.declared.Reply.{Reply}
use Rattle.rescue.specs.declared.Fate.{Fate}
use Rattle.rescue.specs.route.Search.{until}
use Rattle.rescue.specs.route.Steps.{FitsAs, PutAs, LineAt}
use Rattle.rescue.proofs.Parts.{lines_until}
use Rattle.rescue.proofs.Fates.{fates_once, fates_some}

-- ---- one fate more

output_append : (fs gs : List Fate) → output_of (fs ++ gs) ≡ output_of fs ++ output_of gs
output_append [] gs = refl
output_append (f ∷ fs) gs = ap (λ (l : List ℕ). line_out f ++ l) (output_append fs gs) ∙ sym (append_assoc (line_out f) (output_of fs) (output_of gs))

output_more : (fs : List Fate) (f : Fate) → output_of (fs ++ (f ∷ [])) ≡ output_of fs ++ line_out f
output_more fs f = output_append fs (f ∷ []) ∙ ap (λ (l : List ℕ). output_of fs ++ l) (append-nil (line_out f))

report_append : (n : ℕ) (fs gs : List Fate) → report_from n (fs ++ gs) ≡ report_from n fs ++ report_from (n + length fs) gs
report_append n [] gs = let e : n ≡ n + 0 = omega arith in ap (λ (k : ℕ). report_from k gs) e
report_append n (f ∷ fs) gs =
    let e : suc n + length fs ≡ n + suc (length fs) = omega arith in
    ap (λ (l : List ℕ). report_line n f ++ (10 ∷ []) ++ l) (report_append (suc n) fs gs ∙ ap (λ (k : ℕ). report_from (suc n) fs ++ report_from k gs) e)
    ∙ sym (append_assoc (report_line n f ++ (10 ∷ [])) (report_from (suc n) fs) (report_from (n + suc (length fs)) gs))

report_more : (fs : List Fate) (f : Fate) (n : ℕ) → n ≡ 1 + length fs → report_of (fs ++ (f ∷ [])) ≡ report_of fs ++ (report_line n f ++ (10 ∷ []))
report_more fs f n e =
    report_append 1 fs (f ∷ []) ∙ ap (λ (k : ℕ). report_of fs ++ report_from k (f ∷ [])) (sym e)
    ∙ ap (λ (l : List ℕ). report_of fs ++ l) (append-nil (report_line n f ++ (10 ∷ [])))

-- ---- the lines that are passed

pub record Passed (input : List ℕ) (at n : ℕ) (done : List Fate) : Type 0 where
  pub rest : (fs : List Fate) → Fates (lines_of (drop at input)) fs → Fates (lines_of input) (done ++ fs)
  pub count : length done ≡ n
  pub most : n ≤ at

passed_none : (input : List ℕ) → Passed input 0 0 []
passed_none input = record { rest = λ fs a. a; count = refl; most = omega arith }

lines_from : (xs : List ℕ) → 0 < length xs → lines_of xs ≡ take (until 10 xs) xs ∷ lines_of (drop (suc (until 10 xs)) xs)
lines_from [] h = absurd (omega (arith, h))
lines_from (b ∷ bs) h = lines_until 10 b bs

module _ (input : List ℕ) {at end on : ℕ} (h : at < length input) (e : end ≡ at + until 10 (drop at input)) (o : on ≡ min (end + 1) (length input)) where
  behind_by : Dec (end < length input) → drop (suc (until 10 (drop at input))) (drop at input) ≡ drop on input
  behind_by (yes k) =
      let q : at + suc (until 10 (drop at input)) ≡ on = omega (arith, k, e, o) in
      drop-drop (suc (until 10 (drop at input))) at input ∙ ap (λ (k : ℕ). drop k input) q
  behind_by (no k) =
      let q : length input ≤ at + suc (until 10 (drop at input)) = omega (arith, k, e) in
      let r : length input ≤ on = omega (arith, k, o) in
      drop-drop (suc (until 10 (drop at input))) at input ∙ drop_of_length-le input q ∙ sym (drop_of_length-le input r)

  next_line : lines_of (drop at input) ≡ take (end - at) (drop at input) ∷ lines_of (drop on input)
  next_line =
      let q : until 10 (drop at input) ≡ end - at = omega (arith, e) in
      lines_from (drop at input) (omega (arith, length-drop at input))
      ∙ ap (λ (k : ℕ). take k (drop at input) ∷ lines_of (drop (suc (until 10 (drop at input))) (drop at input))) q
      ∙ ap (λ (l : List ℕ). take (end - at) (drop at input) ∷ lines_of l) (behind_by (dec_lt end (length input)))

  module _ {n : ℕ} {done : List Fate} (p : Passed input at n done) (f : Fate) (a : FateOf (take (end - at) (drop at input)) f) where
    line_rest : (fs : List Fate) → Fates (lines_of (drop on input)) fs → Fates (lines_of input) ((done ++ (f ∷ [])) ++ fs)
    line_rest fs b = rw (append_assoc done (f ∷ []) fs) (p.rest (f ∷ fs) (rw next_line (next a b)))

    passed_line : Passed input on (n + 1) (done ++ (f ∷ []))
    passed_line =
        record {
          rest = line_rest;
          count = length-append done (f ∷ []) ∙ ap (λ (k : ℕ). k + 1) p.count;
          most = omega (arith, p.most, e, o, h);
        }

passed_end : {input : List ℕ} {at n : ℕ} {done : List Fate} → Passed input at n done → length input ≤ at → Fates (lines_of input) done
passed_end {input} {at} {n} {done} p h =
    let e : lines_of (drop at input) ≡ [] = ap lines_of (drop_of_length-le input h) in
    let t : Fates (lines_of (drop at input)) [] = rw e none in
    subst (Fates (lines_of input)) (append-nil done) (p.rest [] t)

-- ---- counting

-- a byte before some lines
byte_before : (b : ℕ) (bs : List ℕ) (ps : List (List ℕ)) → length bs + 1 ≡ length ps → (z : Bool)
    → length (cond z (b ∷ bs) bs) + 1 ≡ length (pick z ([] ∷ ps) (lead b ps))
byte_before b bs ps h true = omega (arith, h)
byte_before b bs [] h false = absurd (omega (arith, h))
byte_before b bs (p ∷ ps) h false = omega (arith, h)

last_byte : (b : ℕ) (z : Bool) → 1 ≡ length (pick z ([] ∷ []) (lead b []))
last_byte b true = refl
last_byte b false = refl

-- the last byte is of the last line, whatever it is; each newline before it ends another
pub lines_before : (n : ℕ) (bs : List ℕ) → n + 1 ≡ length bs → length (filter (λ b. eqb b 10) (take n bs)) + 1 ≡ length (lines_of bs)
lines_before n [] h = absurd (omega (arith, h))
lines_before zero (b ∷ []) h = last_byte b (eqb b 10)
lines_before zero (b ∷ (x ∷ bs)) h = absurd (omega (arith, h))
lines_before (suc n) (b ∷ bs) h = byte_before b (filter (λ b. eqb b 10) (take n bs)) (lines_of bs) (lines_before n bs (omega (arith, h))) (eqb b 10)

-- ---- measuring

over_tests : (a b : Bool) → (a ≡ true) ⊎ (b ≡ true) → not (a || b) ≡ false
over_tests true b k = refl
over_tests false true k = refl
over_tests false false (inl k) = cc
over_tests false false (inr k) = cc

over_by : {room reportRoom : ℕ} (gs fs : List Fate) → (room < length (output_of gs)) ⊎ (reportRoom < length (report_of gs))
    → not (ltb room (length (output_of (gs ++ fs))) || ltb reportRoom (length (report_of (gs ++ fs)))) ≡ false
over_by {room} {reportRoom} gs fs (inl k) =
    over_tests (ltb room (length (output_of (gs ++ fs)))) (ltb reportRoom (length (report_of (gs ++ fs)))) (inl (lt-ltb room (length (output_of (gs ++ fs))) (omega (arith, k, ap length (output_append gs fs), length-append (output_of gs) (output_of fs)))))
over_by {room} {reportRoom} gs fs (inr k) =
    over_tests (ltb room (length (output_of (gs ++ fs)))) (ltb reportRoom (length (report_of (gs ++ fs)))) (inr (lt-ltb reportRoom (length (report_of (gs ++ fs))) (omega (arith, k, ap length (report_append 1 gs fs), length-append (report_of gs) (report_from (1 + length gs) fs)))))

pub record Measured (input : List ℕ) (room reportRoom left reportLeft at n : ℕ) : Type 0 where
  pub done : List Fate
  pub passed : Passed input at n done
  pub lines : length (output_of done) + left ≡ room
  pub rows : length (report_of done) + reportLeft ≡ reportRoom

pub measured_none : (input : List ℕ) (room reportRoom : ℕ) → Measured input room reportRoom room reportRoom 0 0
measured_none input room reportRoom = record { done = []; passed = passed_none input; lines = zero-add room; rows = zero-add reportRoom }

module _ {input : List ℕ} {room reportRoom left reportLeft at n : ℕ} (m : Measured input room reportRoom left reportLeft at n) where
  pub measured_end : length input ≤ at → FitsAs input room reportRoom true
  measured_end h =
      let a : length (output_of m.done) ≤ room = omega (arith, m.lines) in
      let b : length (report_of m.done) ≤ reportRoom = omega (arith, m.rows) in
      record { fates = m.done; each = passed_end m.passed h; is = rw (le-ltb room (length (output_of m.done)) a, le-ltb reportRoom (length (report_of m.done)) b) }

  module _ (h : at < length input) {end : ℕ} {f : Fate} (line : LineAt input at end f) {on : ℕ} (o : on ≡ min (end + 1) (length input))
      {x y : ℕ} (ex : x ≡ length (line_out f)) (ey : y ≡ length (report_line (n + 1) f ++ (10 ∷ []))) where
    lines_on : length (output_of (m.done ++ (f ∷ []))) ≡ length (output_of m.done) + x
    lines_on = ap length (output_more m.done f) ∙ length-append (output_of m.done) (line_out f) ∙ ap (λ (k : ℕ). length (output_of m.done) + k) (sym ex)

    rows_on : length (report_of (m.done ++ (f ∷ []))) ≡ length (report_of m.done) + y
    rows_on =
        ap length (report_more m.done f (n + 1) (omega (arith, m.passed.count))) ∙ length-append (report_of m.done) (report_line (n + 1) f ++ (10 ∷ []))
        ∙ ap (λ (k : ℕ). length (report_of m.done) + k) (sym ey)

    pub measured_line : x ≤ left → y ≤ reportLeft → Measured input room reportRoom (left - x) (reportLeft - y) on (n + 1)
    measured_line k l =
        record {
          done = m.done ++ (f ∷ []);
          passed = passed_line input h line.ends o m.passed f line.is;
          lines = omega (arith, lines_on, m.lines);
          rows = omega (arith, rows_on, m.rows);
        }

    -- all fates, where the lines and rows so far are too long
    over : (fs : List Fate) → Fates (lines_of (drop on input)) fs → (room < length (output_of (m.done ++ (f ∷ [])))) ⊎ (reportRoom < length (report_of (m.done ++ (f ∷ []))))
        → FitsAs input room reportRoom false
    over fs b k =
        let all = (m.done ++ (f ∷ [])) ++ fs in
        record { fates = all; each = (passed_line input h line.ends o m.passed f line.is).rest fs b; is = sym (over_by (m.done ++ (f ∷ [])) fs k) }

    pub measured_over : left < x → FitsAs input room reportRoom false
    measured_over k =
        let (fs, b) = fates_some (lines_of (drop on input)) in
        over fs b (inl (omega (arith, lines_on, m.lines)))

    pub measured_rows : reportLeft < y → FitsAs input room reportRoom false
    measured_rows k =
        let (fs, b) = fates_some (lines_of (drop on input)) in
        over fs b (inr (omega (arith, rows_on, m.rows)))

-- ---- putting

pub record Putting (input output report after reportAfter : List ℕ) (at n end reportEnd : ℕ) : Type 0 where
  pub done : List Fate
  pub passed : Passed input at n done
  pub lines : Puts output 0 (output_of done) after end
  pub rows : Puts report 0 (report_of done) reportAfter reportEnd

module _ {input output report ys zs : List ℕ} {at n i j : ℕ} (m : Putting input output report ys zs at n i j) where
  pub putting_end : length input ≤ at → PutAs input output report ys zs i j
  putting_end h = record { fates = m.done; each = passed_end m.passed h; lines = m.lines; rows = m.rows }

  pub putting_line : at < length input → {end : ℕ} {f : Fate} → LineAt input at end f → {on : ℕ} → on ≡ min (end + 1) (length input)
      → {us vs : List ℕ} {k l : ℕ} → Puts ys i (line_out f) us k → Puts zs j (report_line (n + 1) f ++ (10 ∷ [])) vs l
      → Putting input output report us vs on (n + 1) k l
  putting_line h {f = f} line o p q =
      record {
        done = m.done ++ (f ∷ []);
        passed = passed_line input h line.ends o m.passed f line.is;
        lines = rw (output_more m.done f) (after m.lines p);
        rows = rw (report_more m.done f (n + 1) (omega (arith, m.passed.count))) (after m.rows q);
      }

-- ---- both rooms

put_long : {xs p ys : List ℕ} {n : ℕ} → Puts xs 0 p ys n → length p ≤ length xs → n ≡ length p
put_long {p = p} q h = fits q (omega arith) ∙ zero-add (length p)

module _ (text rows output report : List ℕ) where
  pub not_put : lacks text rows output report ≡ true → record { answer = 10; length = 0; report_length = 0; output = output; report = report } ≡ both_put text rows output report
  unfolding both_put
  not_put e = rw e

  pub are_put : lacks text rows output report ≡ false
      → record { answer = 0; length = length text; report_length = length rows; output = sets output 0 text; report = sets report 0 rows } ≡ both_put text rows output report
  unfolding both_put
  are_put e = rw e

module _ {input output report : List ℕ} {b : Bool} (f : FitsAs input (length output) (length report) b) where
  pub rescue_refused : b ≡ false → {r : Reply} → r ≡ record { answer = 10; length = 0; report_length = 0 } → RescueOf input output report (outcome r output report)
  rescue_refused e q =
      let t = output_of f.fates in
      let p = report_of f.fates in
      record {
        fates = f.fates;
        each = f.each;
        put = ap (λ (r : Reply). outcome r output report) q ∙ not_put t p output report (not-false (lacks t p output report) (sym f.is ∙ e));
      }

  pub rescue_done : b ≡ true → {after reportAfter : List ℕ} {n m : ℕ} → PutAs input output report after reportAfter n m
      → {r : Reply} → r ≡ record { answer = 0; length = n; report_length = m } → RescueOf input output report (outcome r after reportAfter)
  rescue_done t {after} {reportAfter} q e =
      let text = output_of q.fates in
      let rows = report_of q.fates in
      let same : f.fates ≡ q.fates = fates_once f.each q.each in
      let room : lacks text rows output report ≡ false =
      subst (λ fs. lacks (output_of fs) (report_of fs) output report ≡ false) same (not-true (lacks (output_of f.fates) (report_of f.fates) output report) (sym f.is ∙ t)) in
      let r = neither (ltb (length output) (length text)) (ltb (length report) (length rows)) room in
      let n = put_long q.lines (omega (arith, ltb-false (length output) (length text) r.0)) in
      let m = put_long q.rows (omega (arith, ltb-false (length report) (length rows) r.1)) in
      record {
        fates = q.fates;
        each = q.each;
        put =
            ap (λ (r : Reply). outcome r after reportAfter) e
            ∙ (λ i. record { answer = 0; length = n i; report_length = m i; output = q.lines.text i; report = q.rows.text i })
            ∙ are_put text rows output report room;
      }
