-- Lines handed out: what each return of the code shows, over plain values. Assumes nothing.
use Prim.Native.Nat.{min, ℕ, ◌+◌, ◌-◌, ◌%◌, ◌≤◌, ◌<◌}
use mathlib.Core.Path.{◌≡◌, refl, sym, ap, ◌∙◌}
use Rattle.std.proofs.Common.{Ok, Err}
use mathlib.Core.Bool.{Bool, true, false, not, ◌||◌, false≢true}
use mathlib.Core.List.{List, [], ◌∷◌, ◌++◌, append_assoc, append-nil}
use native.Mathlib.Omega.{arith}
use borrow.Author.Tests.{lt-ltb, le-ltb, ltb-true, ltb-false}
use lib.Dec.{eqb, ltb}
use lib.ListN.{length, take, drop, get_or, length-append, length-drop, take-append-drop, drop_of_length-le}
use Rattle.std.proofs.lemmas.List.{take-append-le}
use lib.Seq.{take_at, sets, sets-eq, length-take-le, drop-drop, drop_at, drop-append-add, take_all}
use Rattle.bits.specs.Choice.{pick}
use Rattle.bits.proofs.Lists.{sets_front}
use Rattle.instruction.specs.declared.answer.Answer.TheVariants.{Done, NoRoom, Closed}
use Rattle.instruction.specs.Answers.{answer_number}
use Rattle.printer.specs.Writing.{copied}
use Rattle.printer.specs.Writing as text
use Rattle.listing.specs.Listing.{short_text, line_most, listing_of}
use Rattle.listing.specs.Listing.{outcome as listed, list_of}
use Rattle.stream.specs.declared.Lister.{Lister}
use Rattle.stream.specs.Streams.{Outcome, over_in, holding, shut_of, refuses, whole_of, rest_of, refused, handed, outcome, push, close, next_of, lines_of, call_of}
use Rattle.std.specs.Int.{w32, from_le_bytes}
use Rattle.ascii.specs.route.Puts.{Puts}
use Rattle.ascii.proofs.Pieces.{fits}
use Rattle.printer.proofs.Writes.{copied_not}
use Rattle.listing.specs.Listing.{line_text}
use Rattle.listing.proofs.Steps.{word_line, line_short}
use Rattle.stream.proofs.Splits.{listing_append, whole_is, rest_is}

-- ---- answer 16

module _ (l : Lister) where
  few_by : (b : Bool) (n : ℕ) → (not b || ltb 3 n) ≡ false → n ≤ 3
  few_by true n h = ltb-false 3 n h
  few_by false n h = absurd (false≢true (sym h))

  pub open_few : refuses l ≡ false → l.count ≤ 3
  open_few h = few_by (eqb l.closed 0) l.count h

  pub push_refused : (f o : List ℕ) → refuses l ≡ true → refused Closed l o ≡ call_of l (push f o)
  unfolding call_of
  push_refused f o h = rw h

  pub push_open : (f o : List ℕ) {r : Outcome} → refuses l ≡ false → r ≡ handed l (next_of l (push f o)) (lines_of l (push f o)) o → r ≡ call_of l (push f o)
  unfolding call_of
  push_open f o h e = rw h e

  pub close_refused : (o : List ℕ) → refuses l ≡ true → refused Closed l o ≡ call_of l (close o)
  unfolding call_of
  close_refused o h = rw h

  pub close_open : (o : List ℕ) {r : Outcome} → refuses l ≡ false → r ≡ handed l (shut_of l) (listing_of (over_in l)) o → r ≡ call_of l (close o)
  unfolding call_of
  close_open o h e = rw h e

-- ---- answer 10

module _ (l next : Lister) (lines o : List ℕ) where
  pub handed_not : length o < length lines → refused NoRoom l o ≡ handed l next lines o
  unfolding handed
  handed_not h = rw (lt-ltb (length o) (length lines) h)

  pub handed_is : length lines ≤ length o → record { lister = next; answer = Done; length = length lines; buffer = sets o 0 lines } ≡ handed l next lines o
  unfolding handed
  handed_is h = rw (le-ltb (length o) (length lines) h)

-- what fits is put at the start
pub copied_done : (t b : List ℕ) {n : ℕ} → length t ≤ length b → n ≡ length t → listed (Ok n) (sets b 0 t) ≡ copied t b
unfolding copied
copied_done t b h e = rw (le-ltb (length b) (length t) h, e)

-- what the listing of some bytes in an output shows
module _ (t b : List ℕ) {after : List ℕ} where
  done_by : {n : ℕ} (s : Bool) → ltb (length b) (length t) ≡ s → listed (Ok n) after ≡ copied t b → (length t ≤ length b) × (n ≡ length t) × (after ≡ sets b 0 t)
  unfolding copied
  done_by true h e = let k : Done ≡ NoRoom = ap (λ (o : text.Outcome). o.answer) (rw h at e) in absurd (cc)
  done_by false h e =
      let k = rw h at e in
      (ltb-false (length b) (length t) h, ap (λ (o : text.Outcome). o.length) k, ap (λ (o : text.Outcome). o.buffer) k)

  pub done : {n : ℕ} → listed (Ok n) after ≡ copied t b → (length t ≤ length b) × (n ≡ length t) × (after ≡ sets b 0 t)
  done e = done_by (ltb (length b) (length t)) refl e

  none_by : (s : Bool) → ltb (length b) (length t) ≡ s → listed (Err NoRoom) after ≡ copied t b → (length b < length t) × (after ≡ b)
  unfolding copied
  none_by true h e = (ltb-true (length b) (length t) h, ap (λ (o : text.Outcome). o.buffer) (rw h at e))
  none_by false h e = let k : NoRoom ≡ Done = ap (λ (o : text.Outcome). o.answer) (rw h at e) in absurd (cc)

  pub none : listed (Err NoRoom) after ≡ copied t b → (length b < length t) × (after ≡ b)
  none e = none_by (ltb (length b) (length t)) refl e

-- all that is behind a place
pub to_end : (xs : List ℕ) (n : ℕ) → take (length xs - n) (drop n xs) ≡ drop n xs
to_end xs n = take_all (length xs - n) (drop n xs) (omega (arith, length-drop n xs))

-- a text at the start of a list
at_front : (a o : List ℕ) → length a ≤ length o → sets o 0 a ≡ a ++ drop (length a) o
at_front a o h =
    let place : 0 + length a ≡ length a = omega arith in
    sets-eq a o 0 (omega (arith, h)) ∙ ap (λ (n : ℕ). a ++ drop n o) place

-- lines at the start of an output, where those behind the first ones were put before them
pub in_two : (a b o : List ℕ) (n : ℕ) → n ≡ length a → length a + length b ≤ length o
    → a ++ drop n (take n o ++ (sets (drop n o) 0 b ++ drop (length o - n) (drop n o))) ≡ sets o 0 (a ++ b)
in_two a b o n q h =
    let left = length-drop n o in
    let none : drop (length o - n) (drop n o) ≡ [] = drop_of_length-le (drop n o) {i = length o - n} (omega (arith, left)) in
    let behind = sets (drop n o) 0 b in
    let further : n + length b ≡ length (a ++ b) = omega (arith, q, length-append a b) in
    rw (none, append-nil behind)
    (ap (λ (r : List ℕ). a ++ r)
    (drop_at (take n o) behind n (length-take-le n o (omega (arith, h, q))) ∙ at_front b (drop n o) (omega (arith, h, left, q)) ∙ ap (λ (r : List ℕ). b ++ r) (drop-drop (length b) n o))
    ∙ sym (append_assoc a b (drop (n + length b) o))
    ∙ ap (λ (i : ℕ). (a ++ b) ++ drop i o) further
    ∙ sym (at_front (a ++ b) o (omega (arith, h, length-append a b))))

-- ---- a word, and bytes behind it

-- the word's line, by what is put in a place with room for any
module _ (w : List ℕ) (four : length w ≡ 4) {x : ℕ} (read : x ≡ from_le_bytes w32 w) {place line : List ℕ} {n : ℕ} (put : Puts place 0 (line_text x) line n) (room : line_most + 1 ≤ length place) where
  word_is : listing_of w ≡ line_text x
  word_is = rw read (word_line w four)

  pub first_length : n ≡ length (listing_of w)
  first_length = rw word_is (omega (arith, fits put (omega (arith, line_short x, room))))

  pub first_text : take n line ≡ listing_of w
  first_text = rw (first_length, word_is, put.text) (sets_front (line_text x) place (omega (arith, line_short x, room)))

module _ (w m o : List ℕ) (four : length w ≡ 4) {n : ℕ} (first : n ≡ length (listing_of w)) where
  all : listing_of (w ++ m) ≡ listing_of w ++ listing_of m
  all = listing_append w m (omega (arith, four))

  all_length : length (listing_of (w ++ m)) ≡ n + length (listing_of m)
  all_length = omega (arith, ap length all, length-append (listing_of w) (listing_of m), first)

  -- its line doesn't fit
  pub behind_short : length o < n → listed (Err NoRoom) o ≡ list_of (w ++ m) o
  unfolding list_of
  behind_short h = copied_not _ _ (omega (arith, all_length, h))

  module _ (may : n ≤ length o) where
    left : take (length o - n) (drop n o) ≡ drop n o
    left = to_end o n

    nothing_over : drop (length o - n) (drop n o) ≡ []
    nothing_over = drop_of_length-le (drop n o) {i = length o - n} (omega (arith, length-drop n o))

    -- the lines behind it don't fit
    pub behind_not : {after : List ℕ} → listed (Err NoRoom) after ≡ list_of m (take (length o - n) (drop n o))
        → listed (Err NoRoom) (take n o ++ (after ++ drop (length o - n) (drop n o))) ≡ list_of (w ++ m) o
    unfolding list_of
    behind_not e =
        let r = none (listing_of m) (drop n o) (rw left at e) in
        rw (r.1, nothing_over, append-nil, take-append-drop n o)
        (copied_not _ _ (omega (arith, all_length, r.0, length-drop n o, may)))

    module _ {after : List ℕ} {k : ℕ} (e : listed (Ok k) after ≡ list_of m (take (length o - n) (drop n o))) where
      fits_all : (length (listing_of m) ≤ length (drop n o)) × (k ≡ length (listing_of m)) × (after ≡ sets (drop n o) 0 (listing_of m))
      unfolding list_of
      fits_all = done (listing_of m) (drop n o) (rw left at e)

      pub behind_room : n + k ≤ length o
      behind_room = omega (arith, fits_all.0, fits_all.1, length-drop n o, may)

      pub behind_is : {t : List ℕ} → t ≡ listing_of w → listed (Ok (n + k)) (t ++ drop n (take n o ++ (after ++ drop (length o - n) (drop n o)))) ≡ list_of (w ++ m) o
      unfolding list_of
      behind_is h =
          let room : length (listing_of w) + length (listing_of m) ≤ length o = omega (arith, first, fits_all.1, behind_room) in
          rw (h, fits_all.2, in_two (listing_of w) (listing_of m) o n first room, ← all)
          (copied_done (listing_of (w ++ m)) o (omega (arith, all_length, fits_all.1, behind_room)) (omega (arith, all_length, fits_all.1)))

-- ---- what the calls hand on

-- the `short` line
module _ (l : Lister) (o : List ℕ) (h : refuses l ≡ false) {after : List ℕ} where
  pub close_not : listed (Err NoRoom) after ≡ list_of (over_in l) o → outcome l (Err NoRoom) after ≡ call_of l (close o)
  unfolding list_of
  close_not e =
      let r = none (listing_of (over_in l)) o e in
      rw r.1 (close_open l o h (handed_not l (shut_of l) (listing_of (over_in l)) o r.0))

  pub close_is : {n : ℕ} → listed (Ok n) after ≡ list_of (over_in l) o → outcome (shut_of l) (Ok n) after ≡ call_of l (close o)
  unfolding list_of
  close_is e =
      let r = done (listing_of (over_in l)) o e in
      rw (r.1, r.2) (close_open l o h (handed_is l (shut_of l) (listing_of (over_in l)) o r.0))

-- the bytes over and a fragment, as the code joins them: the first that a word has room for
module _ (l : Lister) (f : List ℕ) (h : refuses l ≡ false) {n : ℕ} (all : n ≡ min (length f) (4 - l.count)) where
  abbrev held : List ℕ
  held = l.first ∷ l.second ∷ l.third ∷ 0 ∷ []

  front : take l.count held ≡ over_in l
  front = take-append-le l.count (l.first ∷ l.second ∷ l.third ∷ []) (0 ∷ []) (open_few l h)

  over_length : length (over_in l) ≡ l.count
  over_length = length-take-le l.count (l.first ∷ l.second ∷ l.third ∷ []) (open_few l h)

  taken : length (take n f) ≡ n
  taken = length-take-le n f (omega (arith, all))

  -- too few for one
  module _ (few : l.count + n < 4) where
    whole : take n f ≡ f
    whole = take_all n f (omega (arith, all, few, open_few l h))

    pub few_held : (tail : List ℕ) → take (l.count + n) (take l.count held ++ (take n f ++ tail)) ≡ over_in l ++ f
    few_held tail =
        let e : length (over_in l ++ take n f) ≡ l.count + n = omega (arith, length-append (over_in l) (take n f), over_length, taken) in
        rw (front, ← (append_assoc (over_in l) (take n f) tail))
        (take_at (over_in l ++ take n f) tail (l.count + n) e ∙ ap (λ (x : List ℕ). over_in l ++ x) whole)

    pub no_word : (o : List ℕ) → outcome (holding (over_in l ++ f)) (Ok 0) o ≡ call_of l (push f o)
    unfolding short_text
    no_word o =
        let bs = over_in l ++ f in
        let short : length bs < 4 = omega (arith, length-append (over_in l) f, over_length, ap length whole, taken, few) in
        let none : whole_of bs ≡ [] = whole_is [] bs refl short in
        let rest : rest_of bs ≡ bs = rest_is [] bs refl short in
        push_open l f o h (rw (none, rest) (handed_is l (holding bs) [] o (omega arith)))

  -- one, and those behind it
  pub word_held : {k : ℕ} → k ≡ n → ¬ (l.count + n < 4) → over_in l ++ f ≡ (take l.count held ++ (take n f ++ drop k (drop l.count held))) ++ drop n f
  word_held {k} e many =
      let none : drop k (drop l.count held) ≡ [] = drop_of_length-le (drop l.count held) {i = k} (omega (arith, length-drop l.count held, e, many)) in
      rw (none, front, append-nil (take n f), append_assoc (over_in l) (take n f) (drop n f), take-append-drop n f)

  pub word_full : {k : ℕ} → k ≡ n → ¬ (l.count + n < 4) → length (take l.count held ++ (take n f ++ drop k (drop l.count held))) ≡ 4
  word_full {k} e many =
      let tail = drop k (drop l.count held) in
      omega (
        arith,
        length-append (take l.count held) (take n f ++ tail),
        length-append (take n f) tail,
        ap length front,
        over_length,
        taken,
        length-drop k (drop l.count held),
        length-drop l.count held,
        e,
        all,
        many,
        open_few l h,
      )

module _ (l : Lister) (f o : List ℕ) (h : refuses l ≡ false) (w behind : List ℕ) (four : length w ≡ 4) (cut : over_in l ++ f ≡ w ++ behind) {m : ℕ} (end : m ≡ length behind - length behind % 4) where
  parted : over_in l ++ f ≡ (w ++ take m behind) ++ drop m behind
  parted = cut ∙ ap (λ (x : List ℕ). w ++ x) (sym (take-append-drop m behind)) ∙ sym (append_assoc w (take m behind) (drop m behind))

  words : length (w ++ take m behind) % 4 ≡ 0
  words = omega (arith, length-append w (take m behind), length-take-le m behind (omega (arith, end)), four, end)

  few : length (drop m behind) < 4
  few = omega (arith, length-drop m behind, end)

  whole_words : whole_of (over_in l ++ f) ≡ w ++ take m behind
  whole_words = rw parted (whole_is (w ++ take m behind) (drop m behind) words few)

  over_then : rest_of (over_in l ++ f) ≡ drop m behind
  over_then = rw parted (rest_is (w ++ take m behind) (drop m behind) words few)

  pub push_not : {after : List ℕ} → listed (Err NoRoom) after ≡ list_of (w ++ take m behind) o → outcome l (Err NoRoom) after ≡ call_of l (push f o)
  unfolding list_of
  push_not e =
      let lines = listing_of (w ++ take m behind) in
      let r = none lines o e in
      rw r.1 (push_open l f o h (rw (whole_words, over_then) (handed_not l (holding (drop m behind)) lines o r.0)))

  pub push_is : {after : List ℕ} {k : ℕ} → listed (Ok k) after ≡ list_of (w ++ take m behind) o → outcome (holding (drop m behind)) (Ok k) after ≡ call_of l (push f o)
  unfolding list_of
  push_is e =
      let lines = listing_of (w ++ take m behind) in
      let r = done lines o e in
      rw (r.1, r.2) (push_open l f o h (rw (whole_words, over_then) (handed_is l (holding (drop m behind)) lines o r.0)))
