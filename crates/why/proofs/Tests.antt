-- A question that no test refuses, and what is said of any. Assumes nothing.
use Rattle.std.proofs.Common.{◌≡◌, ℕ, ◌+◌, ◌*◌, ◌^◌, ◌<◌, ◌≤◌, Bool, true, false, not, eqb, Result, Ok, Err, is_err, ltb, List, [], ◌∷◌, length, sym, refl, ap, ◌∙◌, arith, ltb-false, le-ltb, lt-ltb}
use lib.Seq.{sets}
use Rattle.bits.specs.Choice.{pick}
use Rattle.instruction.specs.declared.answer.Answer.{Answer}
use Rattle.instruction.specs.declared.answer.Answer.TheVariants.{Done, BadWindow, OutOfWindow, NoRoom, NoSuchInstruction, BadTrace, AfterEnd}
use Rattle.instruction.specs.Answers.{answer_number}
use Rattle.plan.specs.declared.window.Window.{Window}
use Rattle.plan.specs.Window.{bad_window}
use Rattle.plan.specs.Refusals.{answer_in, verdict_in}
use Rattle.plan.proofs.Refusals.{refused_at, by_verdict, verdict_refused}
use Rattle.why.specs.declared.Question.{Question}
use Rattle.why.specs.declared.Reply.{Reply}
use Rattle.why.specs.Trail.{Past, Link, Trail, told}
use Rattle.why.specs.Trace.{wrong_trace}
use Rattle.why.specs.Reply.{no_byte, no_register, links_of, early_refusals, why_refusals, flat, said, said_of}
use Rattle.why.specs.route.Came.{Steps, access_at, index_at, total_in, Asks}
use Rattle.why.specs.route.Reached.{listed_of, put_all, Written, written_of}
use Rattle.why.proofs.Traces.{Long, long, good, inside}
use Rattle.why.proofs.Said.{Accepted, early_passed}
use Rattle.why.specs.declared.history.History.{History}
use Rattle.why.specs.route.Lent.{past_in, steps_in}
use Rattle.why.proofs.Walked.{all_fits}

-- ---- a question that is not refused

pub asks : (w : Window) (len : ℕ) (h : History) (steps step : ℕ) (q : Question) → h.origin ≡ w.origin → Accepted w len (past_in h) steps step q → length h.taint.now < 2 ^ 64 → length h.trace.now < 2 ^ 64 → Asks (steps_in h) step 0
asks w len h steps step q o a small far =
    let g = steps_in h in
    let l : Long h.words.now g.log steps = long w len h.words.now g.log steps a.trace in
    let size : length h.taint.now ≡ len = (good w len (length h.taint.now) a.window).taints in
    let e : step ≤ steps = ltb-false steps step a.begun in
    let i = inside w len (past_in h) steps o size a.trace in
    record {
      range = record { words = omega (arith, l.words); trace = omega (arith, l.trace); statuses = omega (arith, l.statuses); inside = λ j m. fits g h.taint.now j (i j (omega arith)) small };
      small = omega (arith, l.trace);
    }
  where
    fits : (g : Steps) (k : List ℕ) (j : ℕ) → index_at g j + total_in (access_at g j) ≤ length k → length k < 2 ^ 64 → index_at g j + total_in (access_at g j) < 2 ^ 64
    fits g k j h s = omega arith

-- ---- what is said

told_by : (origin : ℕ) (b : Bool) (xs : List Link) (before after : List ℕ) (n : ℕ) → ¬ (length (pick b xs []) ≡ 0) → length (pick b xs []) * 3 ≤ length before → after ≡ put_all origin 0 xs before → n ≡ pick b (0 + length xs) 0
    → (n ≡ length (pick b xs [])) × (after ≡ sets before 0 (flat origin (pick b xs [])))
told_by origin true xs before after n some room e f = (omega arith, e ∙ all_fits origin 0 xs before (omega arith))
told_by origin false xs before after n some room e f = absurd (some refl)

links_told : (origin : ℕ) (t : Trail) (before after : List ℕ) (n : ℕ) → ¬ (length (told t) ≡ 0) → length (told t) * 3 ≤ length before → record { links = after; count = n } ≡ written_of origin 0 t before
    → (n ≡ length (told t)) × (after ≡ sets before 0 (flat origin (told t)))
links_told origin t before after n some room h = told_by origin t.marked t.links before after n some room (ap (λ (x : Written). x.links) h) (ap (λ (x : Written). x.count) h)

-- how many there are, whatever room there was for them
pub found : (origin : ℕ) (t : Trail) (before after : List ℕ) (n : ℕ) → record { links = after; count = n } ≡ written_of origin 0 t before → n ≡ length (told t)
found origin t before after n h = ap (λ (x : Written). x.count) h ∙ counted t.marked t.links
  where
    counted : (b : Bool) (xs : List Link) → pick b (0 + length xs) 0 ≡ length (pick b xs [])
    counted true xs = omega arith
    counted false xs = refl

module _ (origin : ℕ) (t : Trail) (before : List ℕ) where
  listed_room : length (told t) * 3 ≤ length before → listed_of origin (told t) before ≡ record { answer = 0; count = length (told t); links = sets before 0 (flat origin (told t)) }
  unfolding listed_of
  listed_room h = rw (le-ltb (length before) (length (told t) * 3) h)

  -- no room
  pub listed_short : (r : Reply) → length before < length (told t) * 3 → r ≡ record { answer = 10; links = 0 } → said r before ≡ listed_of origin (told t) before
  unfolding listed_of
  listed_short r h f = rw (f, lt-ltb (length before) (length (told t) * 3) h)

  -- not marked
  pub listed_none : (r : Reply) → length (told t) ≡ 0 → r ≡ record { answer = 0; links = 0 } → said r before ≡ listed_of origin (told t) before
  unfolding flat
  listed_none r h f =
      let none : told t ≡ [] = empty (told t) h in
      rw (f, listed_room (omega arith), none)
    where
      empty : (xs : List Link) → length xs ≡ 0 → xs ≡ []
      empty [] e = refl
      empty (x ∷ xs) e = absurd (omega arith)

  -- the links
  pub listed_links : (r : Reply) (after : List ℕ) (n : ℕ) → ¬ (length (told t) ≡ 0) → length (told t) * 3 ≤ length before → r ≡ record { answer = 0; links = n }
      → record { links = after; count = n } ≡ written_of origin 0 t before → said r after ≡ listed_of origin (told t) before
  listed_links r after n some room f h =
      let k = links_told origin t before after n some room h in
      rw (f, listed_room room, k.0, k.1)

not-true : (b : Bool) → not b ≡ true → b ≡ false
not-true true e = absurd (cc)
not-true false e = refl

module _ (w : Window) (len : ℕ) (g : Past) (steps step : ℕ) (q : Question) (before : List ℕ) where
  abbrev ls : List Link
  ls = links_of g w.origin step q

  abbrev early : Answer
  early = answer_in (early_refusals w len g steps step q)

  both_lists : (room : ℕ) → answer_in (why_refusals w len g steps step q room) ≡ pick (eqb (answer_number early) 0) (pick (ltb room (length ls * 3)) NoRoom Done) early
  both_lists room = go (bad_window w len (length g.start.bytes) 0) (no_byte w len q) (no_register q) (wrong_trace w len g.words g.log steps) (ltb steps step) (ltb room (length ls * 3))
    where
      first : Bool → Bool → Bool → Bool → Bool → Answer → Answer
      first a b c d e x = pick a BadWindow (pick b OutOfWindow (pick c NoSuchInstruction (pick d BadTrace (pick e AfterEnd x))))

      go : (a b c d e f : Bool) → first a b c d e (pick f NoRoom Done) ≡ pick (eqb (answer_number (first a b c d e Done)) 0) (pick f NoRoom Done) (first a b c d e Done)
      go true b c d e f = refl
      go false true c d e f = refl
      go false false true d e f = refl
      go false false false true e f = refl
      go false false false false true f = refl
      go false false false false false f = refl

  abbrev verdict : Result (Unit {0}) Answer
  verdict = verdict_in (early_refusals w len g steps step q)

  refused : is_err verdict ≡ not (eqb (answer_number early) 0)
  refused = verdict_refused (early_refusals w len g steps step q) ((λ h. omega arith), ((λ h. omega arith), ((λ h. omega arith), ((λ h. omega arith), ((λ h. omega arith), tt)))))

  answer_is : early ≡ refused_at (λ answer address. answer) Done 0 verdict
  answer_is =
      by_verdict (λ answer address. answer) Done 0 (early_refusals w len g steps step q)
      ((refl, (λ h. omega arith)), ((refl, (λ h. omega arith)), ((refl, (λ h. omega arith)), ((refl, (λ h. omega arith)), ((refl, (λ h. omega arith)), tt)))))

  -- refused early
  pub said_early : (r : Reply) (answer : Answer) → Err answer ≡ verdict → r ≡ record { answer = answer_number answer; links = 0 } → said r before ≡ said_of w len g steps step q before
  unfolding said_of
  said_early r answer e f =
      let same : early ≡ answer = answer_is ∙ rw (← e) in
      let some : eqb (answer_number early) 0 ≡ false = not-true (eqb (answer_number early) 0) (sym refused ∙ rw (← e)) in
      rw (f, both_lists (length before), some, ← same, some)

  passed : Ok tt ≡ verdict → answer_number early ≡ 0
  passed e =
      let done : early ≡ Done = answer_is ∙ rw (← e) in
      rw done

  pub accepted_by : Ok tt ≡ verdict → Accepted w len g steps step q
  accepted_by e = early_passed w len g steps step q (passed e)

  -- and otherwise the links
  pub said_listed : Ok tt ≡ verdict → said_of w len g steps step q before ≡ listed_of w.origin ls before
  unfolding said_of listed_of
  said_listed v =
      let e = passed v in
      rw (both_lists (length before), e, number_of (ltb (length before) (length ls * 3)))
    where
      number_of : (b : Bool) → answer_number (pick b NoRoom Done) ≡ pick b 10 0
      number_of true = refl
      number_of false = refl
