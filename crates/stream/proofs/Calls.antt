-- However an image is cut and whatever calls are refused, the output from a new lister to its closing is the listing of all that
-- was taken in (`streamed`): what an open lister still hands out is the listing of what it holds and still takes in (`onward`).
-- Assumes nothing.
use Prim.Native.Nat.{ℕ, ◌<◌}
use mathlib.Core.Path.{◌≡◌, refl, sym, ap, ◌∙◌}
use mathlib.Core.Bool.{Bool, true, false, not, ◌||◌, false≢true}
use mathlib.Core.List.{List, [], ◌∷◌, ◌++◌, append_assoc, append-nil}
use borrow.Author.Tests.{ltb-false, le-ltb}
use native.Mathlib.Omega.{arith}
use lib.Dec.{eqb, ltb}
use lib.ListN.{length}
use lib.Seq.{sets}
use Rattle.bits.specs.Choice.{pick}
use Rattle.bits.proofs.Lists.{sets_front}
use Rattle.instruction.specs.Answers.{answer_number}
use Rattle.listing.specs.Listing.{listing_of}
use Rattle.stream.specs.declared.Lister.{Lister}
use Rattle.stream.specs.Streams.{over_in, holding, shut_of, refuses, whole_of, rest_of, refused, handed, Call, push, close, lent, lines_of, next_of, call_of}
use Rattle.stream.specs.Calls.{fragment_of, Played, ahead, played}
use Rattle.stream.proofs.Splits.{listing_append, parts, whole_words, rest_few, held_is}

-- ---- a lister that refuses

refused_nothing : (l : Lister) (c : Call) (rest : Played) → refuses l ≡ true → ahead (call_of l c) (fragment_of c) rest ≡ rest
unfolding call_of
refused_nothing l c rest h = rw h

refused_same : (l : Lister) (c : Call) → refuses l ≡ true → (call_of l c).lister ≡ l
unfolding call_of
refused_same l c h = rw h

stays : (l : Lister) (cs : List Call) → refuses l ≡ true → played l cs ≡ record { lister = l; output = []; fragments = [] }
stays l [] h = refl
stays l (c ∷ cs) h = refused_nothing l c (played (call_of l c).lister cs) h ∙ ap (λ (k : Lister). played k cs) (refused_same l c h) ∙ stays l cs h

-- ---- an open one: where a call finds too little room, all stays; else its lines are handed out

abbrev Onward : Lister → Played → Type 0
Onward l p = eqb p.lister.closed 0 ≡ false → p.output ≡ listing_of (over_in l ++ p.fragments)

not_closed : (l : Lister) → refuses l ≡ false → eqb l.closed 0 ≡ true
not_closed l h = by (eqb l.closed 0) h
  where
    by : (b : Bool) → (not b || ltb 3 l.count) ≡ false → b ≡ true
    by true k = refl
    by false k = absurd (false≢true (sym k))

pub holds : (r : List ℕ) → length r < 4 → refuses (holding r) ≡ false
holds r h = le-ltb 3 (length r) (omega (arith, h))

-- the lines of a call, and the listing of what is over and to come
joins : (over f later out : List ℕ) → out ≡ listing_of (rest_of (over ++ f) ++ later)
    → listing_of (whole_of (over ++ f)) ++ out ≡ listing_of (over ++ (f ++ later))
joins over f later out e =
    let bs = over ++ f in
    ap (λ (x : List ℕ). listing_of (whole_of bs) ++ x) e
    ∙ sym (listing_append (whole_of bs) (rest_of bs ++ later) (whole_words bs))
    ∙ ap listing_of (sym (append_assoc (whole_of bs) (rest_of bs) later) ∙ ap (λ (x : List ℕ). x ++ later) (parts bs) ∙ append_assoc over f later)

push_onward : (l : Lister) (f o : List ℕ) (cs : List Call) → refuses l ≡ false → (b : Bool) → ltb (length o) (length (listing_of (whole_of (over_in l ++ f)))) ≡ b
    → Onward l (played l cs) → Onward (holding (rest_of (over_in l ++ f))) (played (holding (rest_of (over_in l ++ f))) cs)
    → Onward l (played l (push f o ∷ cs))
unfolding call_of handed
push_onward l f o cs h true e same next = rw (h, e) same
push_onward l f o cs h false e same next =
    let bs = over_in l ++ f in
    let lines = listing_of (whole_of bs) in
    rw (h, e, sets_front lines o (ltb-false (length o) (length lines) e))
    (λ k. joins (over_in l) f (played (holding (rest_of bs)) cs).fragments (played (holding (rest_of bs)) cs).output
    (rw (held_is (rest_of bs) (rest_few bs)) at (next k)))

close_onward : (l : Lister) (o : List ℕ) (cs : List Call) → refuses l ≡ false → (b : Bool) → ltb (length o) (length (listing_of (over_in l))) ≡ b
    → Onward l (played l cs) → Onward l (played l (close o ∷ cs))
unfolding call_of handed
close_onward l o cs h true e same = rw (h, e) same
close_onward l o cs h false e same =
    let lines = listing_of (over_in l) in
    rw (h, e, sets_front lines o (ltb-false (length o) (length lines) e), stays (shut_of l) cs refl, append-nil lines, append-nil (over_in l))
    (λ k. refl)

onward : (cs : List Call) (l : Lister) → refuses l ≡ false → Onward l (played l cs)
onward [] l h = λ k. absurd (false≢true (sym k ∙ not_closed l h))
onward (push f o ∷ cs) l h =
    let bs = over_in l ++ f in
    push_onward l f o cs h (ltb (length o) (length (listing_of (whole_of bs)))) refl (onward cs l h) (onward cs (holding (rest_of bs)) (holds (rest_of bs) (rest_few bs)))
onward (close o ∷ cs) l h = close_onward l o cs h (ltb (length o) (length (listing_of (over_in l)))) refl (onward cs l h)

pub streamed : (cs : List Call) → eqb (played (holding []) cs).lister.closed 0 ≡ false → (played (holding []) cs).output ≡ listing_of (played (holding []) cs).fragments
streamed cs h = onward cs (holding []) refl h

-- ---- the answer of a call, and what it leaves

module _ (l : Lister) (c : Call) where
  abbrev over : Bool
  over = ltb (length (lent c)) (length (lines_of l c))

  abbrev Number : ℕ → Type 0
  Number n = answer_number (call_of l c).answer ≡ n

  answer_by : (s t : Bool) → refuses l ≡ s → over ≡ t → Number (pick s 16 (pick t 10 0))
  unfolding call_of handed
  answer_by true t e f = rw e refl
  answer_by false true e f = rw (e, f) refl
  answer_by false false e f = rw (e, f) refl

  pub call_answer : Number (pick (refuses l) 16 (pick over 10 0))
  call_answer = answer_by (refuses l) over refl refl

  unchanged_by : (s t : Bool) → refuses l ≡ s → over ≡ t → ¬ Number 0 → call_of l c ≡ refused (call_of l c).answer l (lent c)
  unfolding call_of handed
  unchanged_by true t e f h = rw e refl
  unchanged_by false true e f h = rw (e, f) refl
  unchanged_by false false e f h = absurd (h (answer_by false false e f))

  pub call_unchanged : ¬ Number 0 → call_of l c ≡ refused (call_of l c).answer l (lent c)
  call_unchanged h = unchanged_by (refuses l) over refl refl h

  done_by : (s t : Bool) → refuses l ≡ s → over ≡ t → Number 0
      → ((call_of l c).lister ≡ next_of l c) × ((call_of l c).length ≡ length (lines_of l c)) × ((call_of l c).buffer ≡ sets (lent c) 0 (lines_of l c))
  unfolding call_of handed
  done_by true t e f h = absurd (omega (arith, answer_by true t e f, h))
  done_by false true e f h = absurd (omega (arith, answer_by false true e f, h))
  done_by false false e f h = rw (e, f) (refl, refl, refl)

  pub call_puts : Number 0 → ((call_of l c).length ≡ length (lines_of l c)) × ((call_of l c).buffer ≡ sets (lent c) 0 (lines_of l c))
  call_puts h = let d = done_by (refuses l) over refl refl h in (d.1, d.2)

  call_next : Number 0 → (call_of l c).lister ≡ next_of l c
  call_next h = (done_by (refuses l) over refl refl h).0

-- a lister that took a fragment is open, and one that closed is not
pub call_open : (l : Lister) (f o : List ℕ) → answer_number (call_of l (push f o)).answer ≡ 0 → refuses (call_of l (push f o)).lister ≡ false
call_open l f o h = let bs = over_in l ++ f in ap refuses (call_next l (push f o) h) ∙ holds (rest_of bs) (rest_few bs)

pub call_closed : (l : Lister) (o : List ℕ) → answer_number (call_of l (close o)).answer ≡ 0 → refuses (call_of l (close o)).lister ≡ true
call_closed l o h = ap refuses (call_next l (close o) h)
