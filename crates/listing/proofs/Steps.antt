-- A listing word by word: what is listed from an index on. Assumes nothing.
use Prim.Native.Nat.{ℕ, zero, suc, ◌+◌, ◌-◌, ◌*◌, ◌/◌, ◌%◌, ◌≤◌, ◌<◌}
use mathlib.Core.Path.{◌≡◌, refl, sym, ap, ◌∙◌}
use mathlib.Core.Bool.{Bool, true, false, ◌&&◌, not}
use mathlib.Core.List.{List, [], ◌∷◌, ◌++◌, append_assoc, append-nil}
use native.Mathlib.Omega.{arith}
use borrow.Author.Tests.{ne_eqb, le-leb, lt-leb, leb-true, leb-false}
use lib.Dec.{eqb, leb}
use Rattle.std.proofs.Common.{◌⊎◌, inl, inr}
use lib.ListN.{length, drop, get_or, length-append, length-drop}
use Rattle.bits.specs.Choice.{pick}
use Rattle.instruction.specs.declared.answer.Answer.{Answer}
use Rattle.instruction.specs.declared.answer.Answer.TheVariants.{Done, NotInSet, Undefined, Unpredictable}
use Rattle.instruction.specs.declared.family.Instruction.{Instruction}
use Rattle.instruction.specs.Answers.{answer_number}
use Rattle.instruction.specs.Table.{in_set, undefined, allocated, unpredictable, instruction_of}
use Rattle.decoder.specs.Decoding.{decode_of, class_of, empty}
use Rattle.text.specs.Texts.{text_of, word_text, text_most}
use Rattle.ascii.specs.Ascii.{asc}
use Rattle.ascii.specs.route.Puts.{Puts}
use Rattle.text.proofs.Lengths.{text_short}
use Rattle.ascii.proofs.Pieces.{after, nothing}
use Rattle.listing.specs.Listing.{hex4, hex8, content_text, answer_text, line_text, short_text, line_most, Within, word_of, listing_of}
use Rattle.std.specs.Simd.{first_chunks}
use Rattle.std.specs.Int.{w32, from_le_bytes}

-- ---- the next word

four : (a b c d : ℕ) → from_le_bytes w32 (a ∷ b ∷ c ∷ d ∷ []) ≡ word_of a b c d
unfolding word_of
four a b c d = omega arith

abbrev pub words_in : List ℕ → List (List ℕ)
words_in bs = first_chunks 4 (length bs / 4) bs

-- the words from the front on, each behind those before it
next_in : (k n : ℕ) (bs : List ℕ) → k < n → n * 4 ≤ length bs
    → listing_of (drop (k * 4) bs) ≡ line_text (from_le_bytes w32 (get_or (first_chunks 4 n bs) k [])) ++ listing_of (drop ((k + 1) * 4) bs)
next_in k zero bs h l = absurd (omega (arith, h))
next_in k (suc n) [] h l = absurd (omega (arith, l))
next_in k (suc n) (a ∷ []) h l = absurd (omega (arith, l))
next_in k (suc n) (a ∷ b ∷ []) h l = absurd (omega (arith, l))
next_in k (suc n) (a ∷ b ∷ c ∷ []) h l = absurd (omega (arith, l))
next_in zero (suc n) (a ∷ b ∷ c ∷ d ∷ rest) h l = rw four refl
next_in (suc k) (suc n) (a ∷ b ∷ c ∷ d ∷ rest) h l =
    let here : suc k * 4 ≡ suc (suc (suc (suc (k * 4)))) = omega arith in
    let behind : (suc k + 1) * 4 ≡ suc (suc (suc (suc ((k + 1) * 4)))) = omega arith in
    rw (here, behind) (next_in k n rest (omega arith) (omega arith))

pub next_word : (bs : List ℕ) (k : ℕ) → k < length bs / 4
    → listing_of (drop (k * 4) bs) ≡ line_text (from_le_bytes w32 (get_or (words_in bs) k [])) ++ listing_of (drop ((k + 1) * 4) bs)
next_word bs k h = next_in k (length bs / 4) bs h (omega arith)

-- a word by itself
pub word_line : (bs : List ℕ) → length bs ≡ 4 → listing_of bs ≡ line_text (from_le_bytes w32 bs)
unfolding short_text
word_line (a ∷ b ∷ c ∷ d ∷ []) h = rw four (append-nil (line_text (word_of a b c d)))
word_line [] h = absurd (omega (arith, h))
word_line (a ∷ []) h = absurd (omega (arith, h))
word_line (a ∷ b ∷ []) h = absurd (omega (arith, h))
word_line (a ∷ b ∷ c ∷ []) h = absurd (omega (arith, h))
word_line (a ∷ b ∷ c ∷ d ∷ e ∷ r) h = absurd (omega (arith, h))

-- ---- what is left over

rest_from : (r : List ℕ) → length r < 4 → listing_of r ≡ short_text (length r)
rest_from [] h = refl
rest_from (a ∷ []) h = refl
rest_from (a ∷ b ∷ []) h = refl
rest_from (a ∷ b ∷ c ∷ []) h = refl
rest_from (a ∷ b ∷ c ∷ d ∷ r) h = absurd (omega arith)

pub left_over : (bs : List ℕ) → listing_of (drop (length bs / 4 * 4) bs) ≡ short_text (length (drop (length bs / 4 * 4) bs) % 16)
left_over bs =
    let r = drop (length bs / 4 * 4) bs in
    let l = length-drop (length bs / 4 * 4) bs in
    let e : length r ≡ length r % 16 = omega (arith, l) in
    rest_from r (omega (arith, l)) ∙ ap short_text e

-- ---- a word's own text, or a dash

-- by what is known of the word: whether it is of the set, undefined, unpredictable
abbrev answered : Bool → Bool → Bool → Answer
answered s u p = pick s (pick u Undefined (pick p Unpredictable Done)) NotInSet

dash_by : (s u p : Bool) (t : Instruction) → (answered s u p ≡ NotInSet) ⊎ (answered s u p ≡ Undefined)
    → text_of (pick (s && not u) t empty) ++ asc "-" ≡ pick (s && not u) (text_of t) (asc "-")
unfolding text_of
dash_by true true p t e = refl
dash_by true false true t e = elim e [ inl h ↦ cc | inr h ↦ cc ]
dash_by true false false t e = elim e [ inl h ↦ cc | inr h ↦ cc ]
dash_by false u p t e = refl

pub dash : (w : ℕ) {a : Answer} → a ≡ class_of w → (a ≡ NotInSet) ⊎ (a ≡ Undefined) → text_of (decode_of w).instruction ++ asc "-" ≡ content_text w
unfolding content_text word_text decode_of class_of allocated
dash w e h = dash_by (in_set w) (undefined w) (unpredictable w) (instruction_of w) (rw e at h)

text_by : (s u p : Bool) (t : Instruction) → ¬ (answered s u p ≡ NotInSet) → ¬ (answered s u p ≡ Undefined)
    → text_of (pick (s && not u) t empty) ≡ pick (s && not u) (text_of t) (asc "-")
text_by true true p t two three = absurd (three refl)
text_by true false p t two three = refl
text_by false u p t two three = absurd (two refl)

pub own_text : (w : ℕ) {a : Answer} → a ≡ class_of w → ¬ (a ≡ NotInSet) → ¬ (a ≡ Undefined) → text_of (decode_of w).instruction ≡ content_text w
unfolding content_text word_text decode_of class_of allocated
own_text w e two three = text_by (in_set w) (undefined w) (unpredictable w) (instruction_of w) (rw e at two) (rw e at three)

-- the answer and the newline, put with the tab before them
pub ends : {xs p ys zs : List ℕ} {at m n a d e : ℕ} → Puts xs at p ys m → Puts ys m (a ∷ d ∷ e ∷ []) zs n
    → Puts xs at (p ++ (a ∷ []) ++ (d ∷ e ∷ [])) zs n
ends {p = p} {a = a} {d = d} {e = e} h k = rw (append_assoc p (a ∷ []) (d ∷ e ∷ [])) (after h k)

-- ---- lengths

content_short : (w : ℕ) → (b : Bool) → allocated w ≡ b → length (pick b (word_text w) (asc "-")) ≤ text_most
content_short w true e = text_short w e
content_short w false e = omega arith

-- the line of a word
pub line_within : (w : ℕ) → Within line_most (line_text w)
unfolding line_text hex8 hex4 content_text answer_text
line_within w =
    let front = hex8 w ++ (9 ∷ []) in
    let fields = front ++ content_text w ++ (9 ∷ []) in
    let digit = (48 + answer_number (class_of w)) ∷ [] in
    record {
      line = fields ++ digit;
      ended = sym (append_assoc fields digit (10 ∷ []));
      short =
          omega (
            arith,
            content_short w (allocated w) refl,
            length-append front (content_text w),
            length-append (front ++ content_text w) (9 ∷ []),
            length-append fields digit,
          );
    }

-- the line of bytes that are left over
pub short_within : (n : ℕ) → Within line_most (short_text (suc n))
unfolding short_text
short_within n =
    record { line = asc "short" ++ (9 ∷ 45 ∷ 9 ∷ []) ++ ((48 + suc n) ∷ []); ended = simp (ne_eqb (suc n) 0 (λ e. omega (arith, e))); short = omega arith }

pub line_short : (w : ℕ) → length (line_text w) ≤ suc line_most
line_short w =
    let l = line_within w in
    omega (arith, ap length l.ended, length-append l.line (10 ∷ []), l.short)

short_by : (n : ℕ) (b : Bool) → length (pick b [] (asc "short" ++ (9 ∷ 45 ∷ 9 ∷ []) ++ ((48 + n) ∷ 10 ∷ []))) ≤ 10
short_by n true = omega arith
short_by n false = omega arith

short_most : (n : ℕ) → length (short_text n) ≤ 10
unfolding short_text
short_most n = short_by n (eqb n 0)

-- the longest line for each word, and the `short` line
pub listing_most : (bs : List ℕ) → length (listing_of bs) ≤ length bs / 4 * suc line_most + 10
listing_most [] = omega (arith, short_most 0)
listing_most (a ∷ []) = omega (arith, short_most 1)
listing_most (a ∷ b ∷ []) = omega (arith, short_most 2)
listing_most (a ∷ b ∷ c ∷ []) = omega (arith, short_most 3)
listing_most (a ∷ b ∷ c ∷ d ∷ rest) =
    omega (arith, listing_most rest, line_short (word_of a b c d), length-append (line_text (word_of a b c d)) (listing_of rest))

pub enough : (bs : List ℕ) (room : ℕ) → 10 ≤ room → length bs / 4 ≤ (room - 10) / suc line_most → leb (length (listing_of bs)) room ≡ true
enough bs room h k = le-leb (length (listing_of bs)) room (omega (arith, listing_most bs))

-- ---- measuring: the whole length, and what is still to come, against the room and what is left of it

pub record Measured (bs : List ℕ) (room left k : ℕ) : Type 0 where
  pub sum : length (listing_of bs) + left ≡ room + length (listing_of (drop (k * 4) bs))

pub measured_none : (bs : List ℕ) (room : ℕ) → Measured bs room room 0
measured_none bs room = record { sum = omega arith }

module _ (bs : List ℕ) {ws : List (List ℕ)} (front : ws ≡ words_in bs) (count : length ws ≡ length bs / 4) {room left k : ℕ} (m : Measured bs room left k) where
  module _ (h : k < length ws) {w : ℕ} (e : w ≡ from_le_bytes w32 (get_or ws k [])) where
    word_length : length (listing_of (drop (k * 4) bs)) ≡ length (line_text w) + length (listing_of (drop ((k + 1) * 4) bs))
    word_length = rw (e, front) (ap length (next_word bs k (omega arith)) ∙ length-append (line_text (from_le_bytes w32 (get_or (words_in bs) k []))) (listing_of (drop ((k + 1) * 4) bs)))

    pub measured_word : {n : ℕ} → n ≡ length (line_text w) → n ≤ left → Measured bs room (left - n) (k + 1)
    measured_word q l = record { sum = omega (arith, m.sum, word_length) }

    pub measured_over : {n : ℕ} → n ≡ length (line_text w) → left < n → false ≡ leb (length (listing_of bs)) room
    measured_over q l = sym (lt-leb (length (listing_of bs)) room (omega (arith, m.sum, word_length)))

  same_test : (n : ℕ) → length (listing_of bs) + left ≡ room + n → (b : Bool) → leb n left ≡ b → leb n left ≡ leb (length (listing_of bs)) room
  same_test n e true t = t ∙ sym (le-leb (length (listing_of bs)) room (omega (arith, leb-true n left t)))
  same_test n e false t = t ∙ sym (lt-leb (length (listing_of bs)) room (omega (arith, leb-false n left t)))

  pub measured_end : k ≡ length ws → {r : List ℕ} → r ≡ drop (length bs / 4 * 4) bs → {n : ℕ} → n ≡ length (short_text (length r % 16)) → leb n left ≡ leb (length (listing_of bs)) room
  measured_end h b {n} e =
      let all : k ≡ length bs / 4 = omega arith in
      same_test n (rw all at m.sum ∙ ap (λ (k : ℕ). room + k) (ap length (left_over bs) ∙ sym (rw b at e))) (leb n left) refl

-- ---- putting: what is put, and what is still to come, is the listing

pub record Listed (xs bs ys : List ℕ) (m k : ℕ) : Type 0 where
  pub piece : List ℕ
  pub puts : Puts xs 0 piece ys m
  pub whole : piece ++ listing_of (drop (k * 4) bs) ≡ listing_of bs

pub listed_none : (xs bs : List ℕ) → Listed xs bs xs 0 0
listed_none xs bs = record { piece = []; puts = nothing xs 0; whole = refl }

module _ (bs : List ℕ) {ws : List (List ℕ)} (front : ws ≡ words_in bs) (count : length ws ≡ length bs / 4) {xs ys zs : List ℕ} {m n k : ℕ} (l : Listed xs bs ys m k) where
  pub listed_word : k < length ws → {w : ℕ} → w ≡ from_le_bytes w32 (get_or ws k []) → Puts ys m (line_text w) zs n → Listed xs bs zs n (k + 1)
  listed_word h {w} e a =
      record {
        piece = l.piece ++ line_text w;
        puts = after l.puts a;
        whole = rw (e, front)
            (append_assoc l.piece (line_text (from_le_bytes w32 (get_or (words_in bs) k []))) (listing_of (drop ((k + 1) * 4) bs))
            ∙ ap (λ (r : List ℕ). l.piece ++ r) (sym (next_word bs k (omega arith))) ∙ l.whole);
      }

  pub listed_end : k ≡ length ws → {r : List ℕ} → r ≡ drop (length bs / 4 * 4) bs → Puts ys m (short_text (length r % 16)) zs n → Puts xs 0 (listing_of bs) zs n
  listed_end h b a =
      let all : k ≡ length bs / 4 = omega arith in
      rw (rw all at l.whole) at (after l.puts (rw (← (left_over bs)) at (rw b at a)))
