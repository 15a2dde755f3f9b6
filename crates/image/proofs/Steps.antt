-- A text line by line, as code goes: what is left of it is checked and written from its first line on. Assumes nothing.
use Prim.Native.Nat.{ℕ, suc, ◌+◌, ◌*◌, ◌<◌}
use mathlib.Core.Path.{◌≡◌, refl, sym, ap, ◌∙◌}
use mathlib.Core.Bool.{Bool, true, false}
use mathlib.Core.List.{List, [], ◌∷◌, ◌++◌}
use native.Mathlib.Omega.{arith}
use borrow.Author.Tests.{eqb-true}
use lib.Dec.{eqb}
use lib.ListN.{length, get_or, take}
use lib.Seq.{get_or-take}
use Rattle.bits.specs.Choice.{pick}
use Rattle.instruction.specs.declared.answer.Answer.{Answer}
use Rattle.instruction.specs.declared.answer.Answer.TheVariants.{Done, Malformed}
use Rattle.instruction.specs.Answers.{answer_number}
use Rattle.plan.specs.Refusals.{Refusal, first_of, answer_in, verdict_in}
use Rattle.plan.proofs.Refusals.{Each, by_answer}
use Rattle.std.specs.Prelude.{Result, Ok, Err}
use Rattle.image.specs.declared.Reply.{Reply}
use Rattle.image.specs.Lines.{lines_of, count_in}
use Rattle.image.specs.Records.{type_in, sum_in, bad_count, is_end, upper_after, places_in, places_of}
use Rattle.image.specs.Import.{reply, faults_in, checked, is_done, put, puts, clears}
use Rattle.image.specs.route.Rest.{begins, line_end, behind}
use Rattle.image.proofs.Cuts.{begun, begun_end, first, shaped_is, byte_same, bytes_same, count_same}

-- ---- a line that has its shape, by itself and at the start of a text

module _ (t : List ℕ) (h : begins t ≡ true) where
  agree : (i : ℕ) → i < 2 * count_in t + 12 → get_or (take (line_end t) t) i 0 ≡ get_or t i 0
  agree i l = rw (begun_end t (begun t h)) (get_or-take (2 * count_in t + 12) t i 0 l)

  count_is : count_in (take (line_end t) t) ≡ count_in t
  count_is = count_same (take (line_end t) t) t (2 * count_in t + 12) agree (omega arith)

  type_is : type_in (take (line_end t) t) ≡ type_in t
  type_is = byte_same (take (line_end t) t) t (2 * count_in t + 12) agree 3 (omega arith)

  sum_is : sum_in (take (line_end t) t) ≡ sum_in t
  unfolding sum_in
  sum_is = rw (count_is, bytes_same (take (line_end t) t) t (2 * count_in t + 12) agree 0 (5 + count_in t) (omega arith))

  bad_count_is : bad_count (take (line_end t) t) ≡ bad_count t
  unfolding bad_count
  bad_count_is = rw (type_is, count_is)

  places_is : (upper : ℕ) → places_in upper (take (line_end t) t) ≡ places_in upper t
  unfolding places_in
  places_is upper =
      rw (
        type_is,
        count_is,
        byte_same (take (line_end t) t) t (2 * count_in t + 12) agree 1 (omega arith),
        byte_same (take (line_end t) t) t (2 * count_in t + 12) agree 2 (omega arith),
        bytes_same (take (line_end t) t) t (2 * count_in t + 12) agree 4 (count_in t) (omega arith),
      )

  upper_at : (upper : ℕ) (b : Bool) → eqb (count_in t) 2 ≡ b → upper_after upper (take (line_end t) t) ≡ upper_after upper t
  unfolding upper_after
  upper_at upper true e =
      let two : count_in t ≡ 2 = eqb-true _ _ e in
      rw (
        type_is,
        count_is,
        byte_same (take (line_end t) t) t (2 * count_in t + 12) agree 4 (omega arith),
        byte_same (take (line_end t) t) t (2 * count_in t + 12) agree 5 (omega arith),
      )
  upper_at upper false e = rw (type_is, count_is, e)

  upper_is : (upper : ℕ) → upper_after upper (take (line_end t) t) ≡ upper_after upper t
  upper_is upper = upper_at upper (eqb (count_in t) 2) refl

  faults_is : (origin len : ℕ) (shape ended : Bool) (upper : ℕ) → faults_in origin len shape ended upper (take (line_end t) t) ≡ faults_in origin len shape ended upper t
  unfolding faults_in
  faults_is origin len shape ended upper = rw (bad_count_is, sum_is, type_is, places_is upper)

-- ---- one line of the check

-- what a line's faults come to as a result, and as an answer
abbrev pub Settles : Result (Unit {0}) Answer → Answer → Type 0
Settles (Ok u) a = a ≡ Done
Settles (Err e) a = (a ≡ e) × (answer_number e ≡ 0 → ⊥)

settles_at : (b : Bool) (e : Answer) (r : Result (Unit {0}) Answer) (a : Answer) → (answer_number e ≡ 0 → ⊥) → Settles r a → Settles (pick b (Err e) r) (pick b e a)
settles_at true e r a z h = (refl, z)
settles_at false e r a z h = h

settles : (es : List Refusal) → Each (λ e. ¬ (answer_number e.answer ≡ 0)) es → Settles (verdict_in es) (answer_in es)
settles [] z = refl
settles (e ∷ es) z = settles_at e.holds e.answer (verdict_in es) (answer_in es) z.0 (settles es z.1)

shapeless : {A : Type 0} (refuse : Answer → ℕ → A) (done : A) (origin len : ℕ) (ended : Bool) (upper : ℕ) (l : List ℕ)
    → first_of refuse done (faults_in origin len false ended upper l) ≡ refuse Malformed 0
unfolding faults_in
shapeless refuse done origin len true upper l = refl
shapeless refuse done origin len false upper l = refl

module _ (origin len n : ℕ) (ended : Bool) (upper : ℕ) where
  abbrev pub next : List ℕ → Reply
  next t = checked origin len (suc n) (is_end t) (upper_after upper t) (lines_of (behind t))

  check_at : (c : ℕ) (cs : List ℕ) (b : Bool) → begins (c ∷ cs) ≡ b
      → checked origin len n ended upper (lines_of (c ∷ cs)) ≡ first_of (λ answer address. reply answer n) (next (c ∷ cs)) (faults_in origin len b ended upper (c ∷ cs))
  check_at c cs true h =
      rw (first (c ∷ cs), shaped_is (c ∷ cs), h, faults_is (c ∷ cs) h origin len true ended upper, type_is (c ∷ cs) h, upper_is (c ∷ cs) h upper, begun_end (c ∷ cs) (begun (c ∷ cs) h))
  check_at c cs false h =
      rw (first (c ∷ cs), shaped_is (c ∷ cs), h, shapeless (λ answer address. reply answer n) (next (c ∷ cs)) origin len ended upper (c ∷ cs))
      (shapeless (λ answer address. reply answer n) _ origin len ended upper (take (line_end (c ∷ cs)) (c ∷ cs)))

  abbrev pub faults_here : List ℕ → List Refusal
  faults_here t = faults_in origin len (begins t) ended upper t

  pub settled : (t : List ℕ) (r : Result (Unit {0}) Answer) → r ≡ verdict_in (faults_here t) → Settles r (answer_in (faults_here t))
  unfolding faults_in
  settled t r e = rw e (settles (faults_here t) ((λ h. omega arith), ((λ h. omega arith), ((λ h. omega arith), ((λ h. omega arith), tt)))))

  check_first : (t : List ℕ) → 0 < length t → checked origin len n ended upper (lines_of t) ≡ first_of (λ answer address. reply answer n) (next t) (faults_here t)
  check_first [] l = absurd (omega arith)
  check_first (c ∷ cs) l = check_at c cs (begins (c ∷ cs)) refl

  answered : (t : List ℕ) → first_of (λ answer address. reply answer n) (next t) (faults_here t) ≡ pick (eqb (answer_number (answer_in (faults_here t))) 0) (next t) (reply (answer_in (faults_here t)) n)
  unfolding faults_in
  answered t =
      by_answer (λ answer address. reply answer n) (next t) 0 (faults_here t)
      ((refl, (λ e. absurd (omega (arith, e)))), ((refl, (λ e. absurd (omega (arith, e)))), ((refl, (λ e. absurd (omega (arith, e)))), ((refl, (λ e. absurd (omega (arith, e)))), tt))))

  pub check_line : (t : List ℕ) → 0 < length t
      → checked origin len n ended upper (lines_of t) ≡ pick (eqb (answer_number (answer_in (faults_here t))) 0) (next t) (reply (answer_in (faults_here t)) n)
  check_line t l = check_first t l ∙ answered t

  passes_at : (t : List ℕ) (b : Bool) → begins t ≡ b → answer_number (answer_in (faults_in origin len b ended upper t)) ≡ 0 → b ≡ true
  passes_at t true h e = refl
  passes_at t false h e = absurd (omega (arith, ap answer_number (sym (shapeless (λ answer address. answer) _ origin len ended upper t)) ∙ e))

  pub passes : (t : List ℕ) → answer_number (answer_in (faults_here t)) ≡ 0 → begins t ≡ true
  passes t e = passes_at t (begins t) refl e

-- ---- one line that is written

places_at : (upper c : ℕ) (cs : List ℕ) → begins (c ∷ cs) ≡ true
    → places_of upper (lines_of (c ∷ cs)) ≡ places_in upper (c ∷ cs) ++ places_of (upper_after upper (c ∷ cs)) (lines_of (behind (c ∷ cs)))
places_at upper c cs h =
    rw (first (c ∷ cs), places_is (c ∷ cs) h upper, upper_is (c ∷ cs) h upper, begun_end (c ∷ cs) (begun (c ∷ cs) h))

pub places_first : (upper : ℕ) (t : List ℕ) → 0 < length t → begins t ≡ true
    → places_of upper (lines_of t) ≡ places_in upper t ++ places_of (upper_after upper t) (lines_of (behind t))
places_first upper [] l h = absurd (omega arith)
places_first upper (c ∷ cs) l h = places_at upper c cs h

pub puts_append : (origin : ℕ) (ps qs : List (ℕ × ℕ)) (xs : List ℕ) → puts origin (ps ++ qs) xs ≡ puts origin qs (puts origin ps xs)
puts_append origin [] qs xs = refl
puts_append origin (p ∷ ps) qs xs = puts_append origin ps qs (put origin p.0 p.1 xs)

pub clears_append : (origin : ℕ) (ps qs : List (ℕ × ℕ)) (xs : List ℕ) → clears origin (ps ++ qs) xs ≡ clears origin qs (clears origin ps xs)
clears_append origin [] qs xs = refl
clears_append origin (p ∷ ps) qs xs = clears_append origin ps qs (put origin p.0 0 xs)

-- what is left has no fault
pub record Sound (origin len upper : ℕ) (t : List ℕ) : Type 0 where
  pub n : ℕ
  pub ended : Bool
  pub done : is_done (checked origin len n ended upper (lines_of t)) ≡ true

sound_at : (a : Answer) (n : ℕ) (r : Reply) (b : Bool) → eqb (answer_number a) 0 ≡ b → is_done (pick b r (reply a n)) ≡ true → (b ≡ true) × (is_done r ≡ true)
sound_at a n r true e h = (refl, h)
sound_at a n r false e h = absurd (let z : true ≡ false = sym h ∙ e in let y : ◌≡◌ {A = ℕ} 0 1 = cc in omega arith)

pub sound_next : {origin len upper : ℕ} (t : List ℕ) → 0 < length t → Sound origin len upper t → (begins t ≡ true) × Sound origin len (upper_after upper t) (behind t)
sound_next {origin} {len} {upper} t l s =
    let a = answer_in (faults_here origin len s.n s.ended upper t) in
    let two = sound_at a s.n (next origin len s.n s.ended upper t) (eqb (answer_number a) 0) refl (rw (check_line origin len s.n s.ended upper t l) at s.done) in
    (passes origin len s.n s.ended upper t (eqb-true _ _ two.0), record { n = suc s.n; ended = is_end t; done = two.1 })
