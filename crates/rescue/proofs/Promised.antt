-- What is promised of rescued listings. Assumes nothing.
use Prim.Native.Nat.{ℕ, zero, suc, ◌+◌, ◌%◌, ◌^◌, ◌≤◌, ◌<◌}
use mathlib.Core.Path.{◌≡◌, refl, sym, ap, ◌∙◌, subst}
use mathlib.Core.Bool.{Bool, true, false, ◌||◌}
use mathlib.Core.List.{List, [], ◌∷◌, ◌++◌, append_assoc}
use mathlib.Core.Logic.{◌⊎◌, inl, inr}
use native.Mathlib.Omega.{arith}
use lib.Dec.{ltb}
use lib.ListN.{length, take, get_or}
use lib.Seq.{sets, sets-eq, take_at}
use borrow.Author.Tests.{ltb-true, ltb-false}
use Rattle.bits.proofs.Choices.{neither}
use Rattle.bits.specs.Choice.{pick}
use Rattle.ascii.specs.Ascii.{asc, dec}
use Rattle.instruction.specs.Table.{allocated}
use Rattle.text.specs.Texts.{word_text}
use Rattle.reader.specs.Reading.{ReadOf}
use Rattle.reader.proofs.RoundTrip.{read_back}
use Rattle.listing.specs.Listing.{content_text, line_text, short_text, word_of, listing_of}
use Rattle.rescue.specs.Lines.{lines_of}
use Rattle.rescue.specs.Rescue.{KeptAs, FateOf, Fates, output_of, fate_name, report_line, report_from, report_of, Outcome, lacks, both_put, RescueOf}
use Rattle.rescue.specs.Whole.{ended, kept_row, WordLine}
use Rattle.rescue.specs.declared.Fate.{Fate}
use Rattle.rescue.specs.declared.Fate.TheVariants.{Kept, Restored, Dropped}
use Rattle.text.proofs.Clean.{known, dec_clean}
use Rattle.rescue.proofs.Parts.{Free, nil, cons, clean_free, free_joins, parts_part}
use Rattle.rescue.proofs.Fates.{body_of, line_is, body_free, kept_fields, fates_once}
use Rattle.rescue.proofs.Passed.{not_put, are_put}

-- ---- the line of a word, as a line

kept_of : (w : ℕ) → w < 2 ^ 32 → KeptAs (body_of w) w
kept_of w h = record { below = h; whole = sym (line_is w) }

body_lines : (w : ℕ) (rest : List ℕ) → lines_of (line_text w ++ rest) ≡ body_of w ∷ lines_of rest
body_lines w rest =
    ap lines_of (ap (λ (l : List ℕ). l ++ rest) (line_is w) ∙ append_assoc (body_of w) (10 ∷ []) rest)
    ∙ parts_part 10 [] (body_free w) rest

-- ---- a correct listing

pub data AllKept : List Fate → Type 0 where
  none : AllKept []
  next : {w : ℕ} {fates : List Fate} → AllKept fates → AllKept (Kept w ∷ fates)

record Unchanged (bytes : List ℕ) : Type 0 where
  pub fates : List Fate
  pub each : Fates (lines_of (listing_of bytes)) fates
  pub kept : AllKept fates
  pub same : output_of fates ≡ listing_of bytes

unchanged : (bytes : List ℕ) → ((i : ℕ) → get_or bytes i 0 < 256) → length bytes % 4 ≡ 0 → Unchanged bytes
unfolding short_text word_of
unchanged [] b h = record { fates = []; each = Fates.none; kept = AllKept.none; same = refl }
unchanged (k ∷ []) b h = absurd (omega (arith, h))
unchanged (k ∷ l ∷ []) b h = absurd (omega (arith, h))
unchanged (k ∷ l ∷ m ∷ []) b h = absurd (omega (arith, h))
unchanged (k ∷ l ∷ m ∷ n ∷ bs) b h =
    let u = unchanged bs (λ i. b (suc (suc (suc (suc i))))) (omega (arith, h)) in
    let w = word_of k l m n in
    record {
      fates = Kept w ∷ u.fates;
      each = rw (body_lines w (listing_of bs)) (Fates.next (kept_of w (omega (arith, b 0, b 1, b 2, b 3))) u.each);
      kept = AllKept.next u.kept;
      same = ap (λ (t : List ℕ). line_text w ++ t) u.same;
    }

-- "A listing correct by today's rules, without a short line, comes back unchanged"
pub correct_listing : (bytes : List ℕ) → ((i : ℕ) → get_or bytes i 0 < 256) → length bytes % 4 ≡ 0 → {fs : List Fate} → Fates (lines_of (listing_of bytes)) fs
    → (output_of fs ≡ listing_of bytes) × AllKept fs
correct_listing bytes b h a =
    let u = unchanged bytes b h in
    let e = fates_once u.each a in
    subst (λ fs. (output_of fs ≡ listing_of bytes) × AllKept fs) e (u.same, u.kept)

-- ---- a second pass

abbrev again : List Fate → List Fate
again [] = []
again (Kept w ∷ fs) = Kept w ∷ again fs
again (Restored w ∷ fs) = Kept w ∷ again fs
again (Dropped ∷ fs) = again fs

again_fates : {lines : List (List ℕ)} {fs : List Fate} → Fates lines fs → Fates (lines_of (output_of fs)) (again fs)
again_fates Fates.none = Fates.none
again_fates (Fates.next {fate = Kept w} {fates = fs} a r) = rw (body_lines w (output_of fs)) (Fates.next (kept_of w a.below) (again_fates r))
again_fates (Fates.next {fate = Restored w} {fates = fs} a r) = rw (body_lines w (output_of fs)) (Fates.next (kept_of w a.text.below) (again_fates r))
again_fates (Fates.next {fate = Dropped} a r) = again_fates r

again_same : (fs : List Fate) → output_of (again fs) ≡ output_of fs
again_same [] = refl
again_same (Kept w ∷ fs) = ap (λ (t : List ℕ). line_text w ++ t) (again_same fs)
again_same (Restored w ∷ fs) = ap (λ (t : List ℕ). line_text w ++ t) (again_same fs)
again_same (Dropped ∷ fs) = again_same fs

again_kept : (fs : List Fate) → AllKept (again fs)
again_kept [] = AllKept.none
again_kept (Kept w ∷ fs) = AllKept.next (again_kept fs)
again_kept (Restored w ∷ fs) = AllKept.next (again_kept fs)
again_kept (Dropped ∷ fs) = again_kept fs

-- "a second pass changes nothing", and keeps every line
pub second_pass : {lines : List (List ℕ)} {fs gs : List Fate} → Fates lines fs → Fates (lines_of (output_of fs)) gs → (output_of gs ≡ output_of fs) × AllKept gs
second_pass {fs = fs} a b =
    subst (λ gs. (output_of gs ≡ output_of fs) × AllKept gs) (fates_once (again_fates a) b) (again_same fs, again_kept fs)

-- ---- the lines that are put out

content_is : (w : ℕ) (z : Bool) → allocated w ≡ z → content_text w ≡ pick z (word_text w) (asc "-")
unfolding content_text
content_is w z e = rw e

word_line : {line : List ℕ} {w : ℕ} → KeptAs line w → WordLine line
word_line {line} {w} k =
    record {
      word = w;
      below = k.below;
      whole = k.whole;
      text = content_text w;
      fields = kept_fields k;
      reads = λ a. (content_is w true a, λ r q. read_back w k.below a r (subst (λ t. ReadOf t r) (content_is w true a) q));
      dash = λ a. content_is w false a;
    }

line_ended : (w : ℕ) (rest : List ℕ) → rest ≡ ended (lines_of rest) → line_text w ++ rest ≡ body_of w ++ (10 ∷ []) ++ ended (lines_of rest)
line_ended w rest e = ap (λ (l : List ℕ). l ++ rest) (line_is w) ∙ ap (λ (l : List ℕ). body_of w ++ (10 ∷ []) ++ l) e

kept_lines : {lines : List (List ℕ)} {fs : List Fate} → Fates lines fs → AllKept fs → (i : ℕ) → i < length lines → WordLine (get_or lines i [])
kept_lines Fates.none AllKept.none i h = absurd (omega (arith, h))
kept_lines (Fates.next a r) (AllKept.next k) zero h = word_line a
kept_lines (Fates.next a r) (AllKept.next k) (suc i) h = kept_lines r k i (omega arith)

-- each line of the output is the line of some word, and its text is read as that word
pub output_lines : {lines : List (List ℕ)} {fs : List Fate} → Fates lines fs → (i : ℕ) → i < length (lines_of (output_of fs)) → WordLine (get_or (lines_of (output_of fs)) i [])
output_lines {fs = fs} a = kept_lines (again_fates a) (again_kept fs)

-- each ends in a newline
pub output_ended : (fs : List Fate) → output_of fs ≡ ended (lines_of (output_of fs))
output_ended [] = refl
output_ended (Kept w ∷ fs) = rw (body_lines w (output_of fs)) (line_ended w (output_of fs) (output_ended fs))
output_ended (Restored w ∷ fs) = rw (body_lines w (output_of fs)) (line_ended w (output_of fs) (output_ended fs))
output_ended (Dropped ∷ fs) = output_ended fs

-- ---- the report

name_free : (f : Fate) → Free 10 (fate_name f)
name_free (Kept w) = clean_free 10 (omega arith) (known (asc "kept") refl)
name_free (Restored w) = clean_free 10 (omega arith) (known (asc "restored") refl)
name_free Dropped = clean_free 10 (omega arith) (known (asc "dropped") refl)

row_free : (n : ℕ) (f : Fate) → Free 10 (report_line n f)
unfolding report_line
row_free n f = free_joins (free_joins (clean_free 10 (omega arith) (dec_clean n)) (cons {b = 9} (λ e. omega (arith, e)) nil)) (name_free f)

-- the lines of a report, numbered from n
abbrev rows_from : ℕ → List Fate → List (List ℕ)
rows_from n [] = []
rows_from n (f ∷ fs) = report_line n f ∷ rows_from (suc n) fs

rows_ended : (n : ℕ) (fs : List Fate) → report_from n fs ≡ ended (rows_from n fs)
rows_ended n [] = refl
rows_ended n (f ∷ fs) = ap (λ (l : List ℕ). report_line n f ++ (10 ∷ []) ++ l) (rows_ended (suc n) fs)

report_rows : (n : ℕ) (fs : List Fate) → lines_of (report_from n fs) ≡ rows_from n fs
report_rows n [] = refl
report_rows n (f ∷ fs) =
    ap lines_of (append_assoc (report_line n f) (10 ∷ []) (report_from (suc n) fs))
    ∙ parts_part 10 [] (row_free n f) (report_from (suc n) fs)
    ∙ ap (λ (l : List (List ℕ)). report_line n f ∷ l) (report_rows (suc n) fs)

rows_length : {lines : List (List ℕ)} {fs : List Fate} → Fates lines fs → (n : ℕ) → length (rows_from n fs) ≡ length lines
rows_length Fates.none n = refl
rows_length (Fates.next a r) n = ap suc (rows_length r (suc n))

row_at : (fs : List Fate) (n i : ℕ) → i < length fs → get_or (rows_from n fs) i [] ≡ report_line (n + i) (get_or fs i Dropped)
row_at [] n i h = absurd (omega (arith, h))
row_at (f ∷ fs) n zero h = let e : n ≡ n + 0 = omega arith in ap (λ (k : ℕ). report_line k f) e
row_at (f ∷ fs) n (suc i) h =
    let e : suc n + i ≡ n + suc i = omega arith in
    row_at fs (suc n) i (omega arith) ∙ ap (λ (k : ℕ). report_line k (get_or fs i Dropped)) e

pub fates_length : {lines : List (List ℕ)} {fs : List Fate} → Fates lines fs → length fs ≡ length lines
fates_length Fates.none = refl
fates_length (Fates.next a r) = ap suc (fates_length r)

-- each line has its fate
pub fate_at : {lines : List (List ℕ)} {fs : List Fate} → Fates lines fs → (i : ℕ) → i < length lines → FateOf (get_or lines i []) (get_or fs i Dropped)
fate_at Fates.none i h = absurd (omega (arith, h))
fate_at (Fates.next a r) zero h = a
fate_at (Fates.next a r) (suc i) h = fate_at r i (omega arith)

-- each line has one line in the report, numbered from 1
pub report_lines : {lines : List (List ℕ)} {fs : List Fate} → Fates lines fs
    → (length (lines_of (report_of fs)) ≡ length lines)
    × ((i : ℕ) → i < length lines → get_or (lines_of (report_of fs)) i [] ≡ report_line (1 + i) (get_or fs i Dropped))
report_lines {fs = fs} a =
    let e = report_rows 1 fs in
    (ap length e ∙ rows_length a 1, λ i h. ap (λ (l : List (List ℕ)). get_or l i []) e ∙ row_at fs 1 i (omega (arith, h, fates_length a)))

pub report_ended : (fs : List Fate) → report_of fs ≡ ended (lines_of (report_of fs))
report_ended fs = rows_ended 1 fs ∙ ap ended (sym (report_rows 1 fs))

name_kept : {fs : List Fate} → AllKept fs → (i : ℕ) → i < length fs → fate_name (get_or fs i Dropped) ≡ asc "kept"
name_kept AllKept.none i h = absurd (omega (arith, h))
name_kept (AllKept.next k) zero h = refl
name_kept (AllKept.next k) (suc i) h = name_kept k i (omega arith)

pub row_is : (n : ℕ) (f : Fate) → report_line n f ≡ dec n ++ (9 ∷ []) ++ fate_name f
unfolding report_line
row_is n f = refl

-- every line is reported as kept
pub report_kept : {lines : List (List ℕ)} {fs : List Fate} → Fates lines fs → AllKept fs → (i : ℕ) → i < length lines → get_or (lines_of (report_of fs)) i [] ≡ kept_row i
report_kept {fs = fs} a k i h =
    (report_lines a).1 i h ∙ row_is (1 + i) (get_or fs i Dropped) ∙ ap (λ (t : List ℕ). dec (1 + i) ++ (9 ∷ []) ++ t) (name_kept k i (omega (arith, h, fates_length a)))

-- ---- a call

pub record Refused (text rows output report : List ℕ) (left : Outcome) : Type 0 where
  pub lacking : (length output < length text) ⊎ (length report < length rows)
  pub leaves : left ≡ record { answer = 10; length = 0; report_length = 0; output = output; report = report }

pub record Completed (text rows output report : List ℕ) (left : Outcome) : Type 0 where
  pub room : length text ≤ length output
  pub space : length rows ≤ length report
  pub leaves : left ≡ record { answer = 0; length = length text; report_length = length rows; output = sets output 0 text; report = sets report 0 rows }

lacking_by : (a b c d : ℕ) (z : Bool) → ltb a b ≡ z → ltb a b || ltb c d ≡ true → (a < b) ⊎ (c < d)
lacking_by a b c d true e h = inl (ltb-true a b e)
lacking_by a b c d false e h = inr (ltb-true c d (rw e at h))

call_by : (text rows output report : List ℕ) (left : Outcome) → left ≡ both_put text rows output report → (z : Bool) → lacks text rows output report ≡ z
    → Refused text rows output report left ⊎ Completed text rows output report left
call_by text rows output report left p true e =
    inl (record {
      lacking = lacking_by (length output) (length text) (length report) (length rows) (ltb (length output) (length text)) refl e;
      leaves = p ∙ sym (not_put text rows output report e);
    })
call_by text rows output report left p false e =
    let r = neither (ltb (length output) (length text)) (ltb (length report) (length rows)) e in
    inr (record {
      room = ltb-false (length output) (length text) r.0;
      space = ltb-false (length report) (length rows) r.1;
      leaves = p ∙ sym (are_put text rows output report e);
    })

pub call_of_lem : {input output report : List ℕ} {left : Outcome} (r : RescueOf input output report left)
    → Refused (output_of r.fates) (report_of r.fates) output report left ⊎ Completed (output_of r.fates) (report_of r.fates) output report left
call_of_lem {output = output} {report = report} {left} r =
    let text = output_of r.fates in
    let rows = report_of r.fates in
    call_by text rows output report left r.put (lacks text rows output report) refl

-- a text that is put at the start
pub starts : (t xs : List ℕ) → length t ≤ length xs → take (length t) (sets xs 0 t) ≡ t
starts t xs h = rw (sets-eq t xs 0 (omega arith)) (take_at t _ (length t) refl)
