-- What decoding a word and encoding numbers give a host: the definitions of the crate below, with each answer by its number.
use Rattle.std.specs.Prelude.{ℕ, ◌≡◌, ◌⊎◌}
use Rattle.bits.specs.Choice.{pick}
use Rattle.instruction.specs.Answers.{answer_number}
use Rattle.decoder.specs.Decoding.{class_of}
use Rattle.plain.specs.declared.record.Plain.{Plain}
use Rattle.plain.specs.Coding.{DecodedPlain}
use Rattle.plain.specs.Coding.{NumbersOf}
use Rattle.records.specs.Space.{touches_memory}
use Rattle.records.specs.declared.PlainReply.{PlainReply}
use Rattle.records.specs.declared.EncodedReply.{EncodedReply}

-- what the library answers of a word alone, and whether it touches memory: 1, or 0
abbrev pub class_number : ℕ → ℕ
class_number word = answer_number (class_of word)

abbrev pub touches_number : ℕ → ℕ
touches_number word = pick (touches_memory word) 1 0

abbrev pub decode_numbered : DecodedPlain → PlainReply
decode_numbered d = record { plain = d.plain; answer = answer_number d.answer }

-- the allocated word whose numbers they are, or 11 where there is none
abbrev pub EncodedAs : Plain → EncodedReply → Type 0
EncodedAs p r =
    ((r.answer ≡ 0) × NumbersOf r.word p)
    ⊎ ((r.answer ≡ 11) × (r.word ≡ 0) × ((w : ℕ) → ¬ NumbersOf w p))
