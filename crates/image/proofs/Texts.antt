-- The loops over a whole text, and what is returned. Assumes nothing.
use Rattle.std.specs.Prelude.{Ok, Err}
use Prim.Native.Nat.{ℕ, ◌+◌, ◌*◌, ◌<◌}
use mathlib.Core.Path.{◌≡◌, sym, ap, ◌∙◌}
use mathlib.Core.Bool.{Bool, true, false}
use mathlib.Core.List.{List}
use native.Mathlib.Numerals.{add-one}
use native.Mathlib.Omega.{arith}
use borrow.Author.Tests.{ne_eqb, eqb-false}
use lib.Dec.{eqb}
use lib.ListN.{length, length-drop}
use Rattle.bits.specs.Choice.{pick}
use Rattle.instruction.specs.declared.answer.Answer.{Answer}
use Rattle.instruction.specs.declared.answer.Answer.TheVariants.{Done, BadWindow}
use Rattle.instruction.specs.Answers.{answer_number}
use Rattle.plan.specs.declared.window.Window.{Window}
use Rattle.plan.specs.Window.{bad_window}
use Rattle.plan.specs.Refusals.{answer_in, verdict_in}
use Rattle.image.specs.declared.Reply.{Reply}
use Rattle.image.specs.Lines.{lines_of, byte_in}
use Rattle.image.specs.Records.{upper_after, places_in, places_of}
use Rattle.image.specs.Import.{reply, faults_in, checked, reply_of, is_done, puts, clears, outcome, import_of}
use Rattle.image.specs.route.Rest.{begins, behind, Replies}
use Rattle.image.specs.declared.text.Fault.{Fault}
use Rattle.image.proofs.Steps.{Settles, settled, check_line, places_first, puts_append, clears_append, Sound, sound_next}

pub some_left : (t : List ℕ) (b : Bool) → b ≡ eqb (length t) 0 → b ≡ false → 0 < length t
some_left t b e f = omega (arith, eqb-false (length t) 0 (sym e ∙ f))

pub behind_less : (t r : List ℕ) → 0 < length t → r ≡ behind t → length r < length t
behind_less t r h e = rw e (omega (arith, length-drop (2 * byte_in t 0 + 12) t))

-- ---- the check

module _ (t : List ℕ) (origin len n : ℕ) (ended : Bool) (upper : ℕ) (z : Reply) (some : 0 < length t) (so : checked origin len n ended upper (lines_of t) ≡ z) where
  pub check_stop : (e : Answer) → Err e ≡ verdict_in (faults_in origin len (begins t) ended upper t) → Replies (Err (record { answer = e; line = n })) z
  check_stop e f =
      let s : Settles (Err e) (answer_in (faults_in origin len (begins t) ended upper t)) = settled origin len n ended upper t (Err e) f in
      (sym so ∙ rw (check_line origin len n ended upper t some, s.0, ne_eqb (answer_number e) 0 s.1), s.1)

  pub check_more : (kind u : ℕ) (r : List ℕ) → Ok tt ≡ verdict_in (faults_in origin len (begins t) ended upper t) → kind ≡ byte_in t 3 → u ≡ upper_after upper t → r ≡ behind t
      → checked origin len (n + 1) (eqb kind 1) u (lines_of r) ≡ z
  check_more kind u r f k g b =
      let s : answer_in (faults_in origin len (begins t) ended upper t) ≡ Done = settled origin len n ended upper t (Ok tt) f in
      rw (add-one n, k, g, b) (rw (check_line origin len n ended upper t some, s) at so)

-- ---- the writing

module _ (t : List ℕ) (origin len upper : ℕ) (some : 0 < length t) (sound : Sound origin len upper t) where
  pub fill_sound : (u : ℕ) (r : List ℕ) → u ≡ upper_after upper t → r ≡ behind t → Sound origin len u r
  fill_sound u r g b = rw (g, b) (sound_next t some sound).1

  module _ (u : ℕ) (r xs ys zs : List ℕ) (half : u ≡ upper_after upper t) (next : r ≡ behind t) where
    pub fill_puts : ys ≡ puts origin (places_in upper t) xs → puts origin (places_of upper (lines_of t)) xs ≡ zs → puts origin (places_of u (lines_of r)) ys ≡ zs
    fill_puts q so = rw (q, half, next) (rw (places_first upper t some (sound_next t some sound).0, puts_append) at so)

    pub fill_clears : ys ≡ clears origin (places_in upper t) xs → clears origin (places_of upper (lines_of t)) xs ≡ zs → clears origin (places_of u (lines_of r)) ys ≡ zs
    fill_clears q so = rw (q, half, next) (rw (places_first upper t some (sound_next t some sound).0, clears_append) at so)

-- ---- both

checked_done : (w : Window) (len : ℕ) (t : List ℕ) (b : Bool) → is_done (pick b (reply BadWindow 0) (checked w.origin len 1 false 0 (lines_of t))) ≡ true
    → is_done (checked w.origin len 1 false 0 (lines_of t)) ≡ true
checked_done w len t true h = absurd (let z : ◌≡◌ {A = ℕ} 0 1 = cc in omega arith)
checked_done w len t false h = h

module _ (w : Window) (t memory taint : List ℕ) where
  pub import_not : (r : Reply) (e : Fault) → Replies (Err e) (reply_of w (length memory) (length taint) t) → r ≡ reply e.answer e.line → outcome r memory taint ≡ import_of w t memory taint
  unfolding import_of
  import_not r e h f = rw (f, h.0, ne_eqb (answer_number e.answer) 0 h.1)

  module _ (done : reply_of w (length memory) (length taint) t ≡ reply Done 0) where
    pub import_sound : is_done (checked w.origin (length memory) 1 false 0 (lines_of t)) ≡ true
    unfolding reply_of
    import_sound = checked_done w (length memory) t (bad_window w (length memory) (length taint) 0) (ap is_done done)

    pub import_done : (r : Reply) (m n : List ℕ) → r ≡ reply Done 0 → m ≡ puts w.origin (places_of 0 (lines_of t)) memory → n ≡ clears w.origin (places_of 0 (lines_of t)) taint
        → outcome r m n ≡ import_of w t memory taint
    unfolding import_of
    import_done r m n f e g = rw (done, f, e, g)
