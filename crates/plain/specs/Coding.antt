-- What decoding a word to numbers and encoding numbers answer: 01, "What a word says" and answers 2, 3 and 11.
use Rattle.std.specs.Prelude.{ℕ, Result, Ok, Err, ◌^◌, ◌<◌, ◌≡◌, true, ◌⊎◌}
use Rattle.instruction.specs.declared.answer.Answer.{Answer}
use Rattle.instruction.specs.Encoded.{Encoded}
use Rattle.instruction.specs.Answers.{answer_number}
use Rattle.instruction.specs.Table.{allocated, instruction_of}
use Rattle.decoder.specs.Decoding.{decode_of}
use Rattle.plain.specs.declared.record.Plain.{Plain}
use Rattle.plain.specs.Plains.{empty_plain, plain_of}

-- what decoding a word gives; the numbers are zeros where the word is refused
pub record DecodedPlain : Type 0 where
  pub answer : Answer
  pub plain : Plain

-- what a result says of a word
abbrev pub as_decoded_plain : Result Plain Answer → DecodedPlain
as_decoded_plain (Ok p) = record { answer = Answer.Done; plain = p }
as_decoded_plain (Err a) = record { answer = a; plain = empty_plain }

-- the empty instruction's are zeros
unfoldable pub decode_plain : ℕ → DecodedPlain
decode_plain w = record { answer = (decode_of w).answer; plain = plain_of (decode_of w).instruction }

-- p are the numbers of the allocated word w
pub record NumbersOf (w : ℕ) (p : Plain) : Type 0 where
  pub below : w < 2 ^ 32
  pub defined : allocated w ≡ true
  pub numbers : plain_of (instruction_of w) ≡ p

-- the word whose numbers they are, or 11 and word 0 where there is none
abbrev pub EncodedFrom : Plain → Encoded → Type 0
EncodedFrom p r =
    ((answer_number r.answer ≡ 0) × NumbersOf r.word p)
    ⊎ ((answer_number r.answer ≡ 11) × (r.word ≡ 0) × ((w : ℕ) → ¬ NumbersOf w p))
