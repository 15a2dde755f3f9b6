-- Writing a text: what each return shows, over plain values. Assumes nothing.
use Prim.Native.Nat.{ℕ, ◌+◌, ◌≤◌, ◌<◌}
use mathlib.Core.Path.{◌≡◌, refl, sym, ap, ◌∙◌}
use mathlib.Core.Bool.{Bool, true, false, ◌&&◌, not, false≢true}
use mathlib.Core.List.{List, []}
use native.Mathlib.Nat.{zero-add}
use native.Mathlib.Omega.{arith}
use borrow.Author.Tests.{lt-ltb, le-ltb, not-true, not-false}
use lib.ListN.{length}
use Rattle.bits.specs.Choice.{pick}
use Rattle.instruction.specs.declared.answer.Answer.TheVariants.{Done, NotInSet, Undefined, Unpredictable, NoRoom}
use Rattle.instruction.specs.declared.answer.Answer.{Answer}
use Rattle.instruction.specs.Table.{in_set, undefined, allocated, unpredictable}
use Rattle.decoder.specs.Decoding.{decode_of, class_of}
use Rattle.text.specs.Texts.{text_of, word_text}
use Rattle.ascii.specs.route.Puts.{Puts}
use Rattle.printer.specs.Writing.{Outcome, copied, write_of}
use Rattle.printer.specs.route.Printing.{textless}
use Rattle.ascii.proofs.Pieces.{fits}

-- ---- copying it

module _ (t b : List ℕ) where
  pub copied_not : length b < length t → record { answer = NoRoom; length = 0; buffer = b } ≡ copied t b
  unfolding copied
  copied_not h = rw (lt-ltb (length b) (length t) h)

  pub copied_is : {after : List ℕ} {n : ℕ} → length t ≤ length b → Puts b 0 t after n → record { answer = Done; length = n; buffer = after } ≡ copied t b
  unfolding copied
  copied_is h p =
      let r : 0 + length t ≤ length b = omega arith in
      rw (le-ltb (length b) (length t) h, fits p r, p.text, zero-add (length t))

-- ---- the word's own text

-- as `class_of` has it, by its three tests
abbrev answered : Bool → Bool → Bool → Answer
answered s u p = pick s (pick u Undefined (pick p Unpredictable Done)) NotInSet

told_by : (s u p : Bool) → textless (answered s u p) ≡ not (s && not u)
told_by true true p = refl
told_by true false true = refl
told_by true false false = refl
told_by false u p = refl

-- only a word that has a text can have answer 4
same_by : (s u p : Bool) → (s && not u) ≡ false → answered s u p ≡ pick s (pick u Undefined Done) NotInSet
same_by true true p h = refl
same_by true false p h = absurd (false≢true (sym h))
same_by false u p h = refl

module _ (w : ℕ) {a : Answer} (e : a ≡ class_of w) {z : Bool} (q : z ≡ textless a) where
  told : z ≡ not (allocated w)
  unfolding class_of allocated
  told = q ∙ ap textless e ∙ told_by (in_set w) (undefined w) (unpredictable w)

  refused : z ≡ true → allocated w ≡ false
  refused h = not-true (allocated w) (sym told ∙ h)

  same_answer : z ≡ true → a ≡ (decode_of w).answer
  unfolding decode_of class_of allocated
  same_answer h = e ∙ same_by (in_set w) (undefined w) (unpredictable w) (refused h)

  pub no_text : z ≡ true → text_of (decode_of w).instruction ≡ []
  unfolding decode_of text_of
  no_text h = rw (refused h)

  pub write_refused : (b : List ℕ) → z ≡ true → record { answer = a; length = 0; buffer = b } ≡ write_of w b
  unfolding write_of
  write_refused b h = rw (refused h, same_answer h)

  pub write_done : (b : List ℕ) {t : List ℕ} {o : Outcome} → z ≡ false → t ≡ text_of (decode_of w).instruction → o ≡ copied t b
      → o ≡ write_of w b
  unfolding write_of word_text decode_of
  write_done b h p r =
      let g = not-false (allocated w) (sym told ∙ h) in
      rw g (r ∙ ap (λ (x : List ℕ). copied x b) (rw g at p))
