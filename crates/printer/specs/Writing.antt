-- What writing the text of a word gives: 01, "Answer numbers", tests 2, 3 and 10 in this order.
use Rattle.std.specs.Prelude.{ℕ, List, ltb, Result, Ok, Err}
use Rattle.std.proofs.Math.ListN
use Rattle.std.proofs.lemmas.List.Edits.{sets}
use Rattle.bits.specs.Choice.{pick}
use Rattle.text.specs.Texts.{word_text}
use Rattle.instruction.specs.declared.answer.Answer.{Answer}
use Rattle.instruction.specs.declared.answer.Answer.TheVariants.{Done, NoRoom}
use Rattle.instruction.specs.Table.{allocated}
use Rattle.decoder.specs.Decoding.{decode_of}

-- what is returned, and what the buffer holds after it
pub record Outcome : Type 0 where
  pub answer : Answer
  pub length : ℕ
  pub buffer : List ℕ

-- a refusal has length 0
abbrev pub outcome : Result ℕ Answer → List ℕ → Outcome
outcome (Ok n) buffer = record { answer = Done; length = n; buffer = buffer }
outcome (Err a) buffer = record { answer = a; length = 0; buffer = buffer }

-- a text at the start of a buffer, or answer 10 where the buffer is shorter than the text
unfoldable pub copied : List ℕ → List ℕ → Outcome
copied t buffer =
    record {
      answer = pick (ltb (ListN.length buffer) (ListN.length t)) NoRoom Done;
      length = pick (ltb (ListN.length buffer) (ListN.length t)) 0 (ListN.length t);
      buffer = pick (ltb (ListN.length buffer) (ListN.length t)) buffer (sets buffer 0 t);
    }

unfoldable pub write_of : ℕ → List ℕ → Outcome
write_of w buffer = pick (allocated w) (copied (word_text w) buffer) (record { answer = (decode_of w).answer; length = 0; buffer = buffer })
