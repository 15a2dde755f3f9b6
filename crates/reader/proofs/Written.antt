-- What writing the line of an allocated word leaves in a buffer that is long enough. Assumes nothing.
use Prim.Native.Nat.{ℕ, ◌≤◌}
use mathlib.Core.Path.{◌≡◌, refl, sym, ap, ◌∙◌}
use mathlib.Core.Bool.{true}
use mathlib.Core.List.{List}
use native.Mathlib.Omega.{arith}
use borrow.Author.Tests.{le-ltb}
use lib.ListN.{length, take}
use lib.Seq.{sets, sets-eq, length-sets, take_at}
use Rattle.instruction.specs.Table.{allocated}
use Rattle.printer.specs.Writing.{Outcome, outcome, copied, write_of}
use Rattle.std.proofs.Common.{Result, Ok, Err}
use Rattle.std.specs.Result.{result_unwrap_or}
use Rattle.text.specs.Texts.{word_text, text_most}
use Rattle.text.proofs.Lengths.{text_short}
use Rattle.reader.specs.Types.{Answer}

starts : (t xs : List ℕ) → length t ≤ length xs → take (length t) (sets xs 0 t) ≡ t
starts t xs h = rw (sets-eq t xs 0 (omega arith)) (take_at t _ (length t) refl)

length_by : (r : Result ℕ Answer) (o : List ℕ) → (outcome r o).length ≡ result_unwrap_or r 0
length_by (Ok n) o = refl
length_by (Err e) o = refl

buffer_by : (r : Result ℕ Answer) (o : List ℕ) → (outcome r o).buffer ≡ o
buffer_by (Ok n) o = refl
buffer_by (Err e) o = refl

module _ (w : ℕ) (r : Result ℕ Answer) (before after : List ℕ) (a : allocated w ≡ true) (e : outcome r after ≡ write_of w before) (h : text_most ≤ length before) where
  room : length (word_text w) ≤ length before
  room = omega (arith, h, text_short w a)

  written : outcome r after ≡ record { answer = Answer.Done; length = length (word_text w); buffer = sets before 0 (word_text w) }
  unfolding write_of copied
  written = rw (a, le-ltb _ _ room) at e

  module _ {n : ℕ} (is : n ≡ result_unwrap_or r 0) where
    -- the line stands in the buffer up to the length that is returned
    written_length : n ≡ length (word_text w)
    written_length = is ∙ sym (length_by r after) ∙ ap (λ (o : Outcome). o.length) written

    written_buffer : after ≡ sets before 0 (word_text w)
    written_buffer = sym (buffer_by r after) ∙ ap (λ (o : Outcome). o.buffer) written

    pub written_line : take n after ≡ word_text w
    written_line = rw (written_length, written_buffer) (starts (word_text w) before room)

    pub written_fits : n ≤ length after
    written_fits = omega (arith, written_length, room, ap length written_buffer, length-sets before 0 (word_text w))
