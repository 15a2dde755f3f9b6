-- What is promised of instructions as numbers, as the library hands them to C and Rust.
use Rattle.std.specs.Prelude.{ℕ, ◌^◌, ◌<◌, ◌≡◌, true, [], ◌∷◌, ◌↔◌}
use Rattle.bits.specs.Choice.{pick}
use Rattle.instruction.specs.Answers.{answer_number}
use Rattle.instruction.specs.Table.{allocated}
use Rattle.decoder.specs.Decoding.{decode_of, class_of}
use Rattle.plain.specs.declared.record.Plain.{Plain}
use Rattle.plain.specs.Plains.{plain_of, empty_plain}
use Rattle.plain.specs.Coding.{decode_plain, NumbersOf}
use Rattle.plain.specs.Examples.{Holds, examples}
use Rattle.records.specs.declared.PlainReply.{PlainReply}
use Rattle.records.specs.declared.EncodedReply.{EncodedReply}
use Rattle.records.specs.Replies.{class_number, decode_numbered, EncodedAs}
use Rattle.promises.specs.Answered.{one_of, Answered}

pub record Numbers : Type 0 where
  -- every word gets an answer, and so do any numbers
  pub classify : (word r : ℕ) → r ≡ class_number word → (one_of (0 ∷ 2 ∷ 3 ∷ 4 ∷ []) r ≡ true) × (r ≡ answer_number (class_of word))
  pub decode : (word : ℕ) (r : PlainReply) → r ≡ decode_numbered (decode_plain word)
      → (one_of (0 ∷ 2 ∷ 3 ∷ []) r.answer ≡ true) × (r.answer ≡ answer_number (decode_of word).answer) × (r.plain ≡ plain_of (decode_of word).instruction)
  pub encode : (p : Plain) → Answered (EncodedAs p) (λ r. r.answer) (0 ∷ 11 ∷ [])
  -- 0 with the word whose numbers they are, and 11 and word 0 exactly if there is none
  pub encode_answers : (p : Plain) (r : EncodedReply) → EncodedAs p r
      → ((r.answer ≡ 0) ↔ NumbersOf r.word p) × ((r.answer ≡ 11) ↔ ((w : ℕ) → ¬ NumbersOf w p)) × (r.answer ≡ 11 → r.word ≡ 0)
  -- a word that is refused has no numbers but zeros
  pub decode_refused : (word : ℕ) → ¬ (answer_number (decode_of word).answer ≡ 0) → (decode_plain word).plain ≡ empty_plain
  -- "the one word that decodes to it": what a word is decoded to is encoded as that word, and zeros as none
  pub encode_decoded : (word : ℕ) → word < 2 ^ 32 → (r : EncodedReply) → EncodedAs (decode_plain word).plain r
      → r ≡ pick (allocated word) (record { answer = 0; word = word }) (record { answer = 11; word = 0 })
  -- and the word that numbers are encoded as is decoded to them
  pub decode_encoded : (p : Plain) (r : EncodedReply) → EncodedAs p r → r.answer ≡ 0
      → (answer_number (decode_plain r.word).answer ≡ 0) × ((decode_plain r.word).plain ≡ p)
  pub numbered : Holds examples
