-- What writing, listing and reading a text, and a lister of a stream, give a host: the definitions of the crates below, with each
-- answer by its number.
use Rattle.std.specs.Prelude.{ℕ, ◌≡◌, List, ◌⊎◌}
use Rattle.instruction.specs.Answers.{answer_number}
use Rattle.printer.specs.Writing.{Outcome}
use Rattle.reader.specs.Reading.{LineOf}
use Rattle.host.specs.declared.TextReply.{TextReply}
use Rattle.stream.specs.declared.Lister.{Lister}
use Rattle.stream.specs.Streams as stream
use Rattle.host.specs.declared.WordReply.{WordReply}
use Rattle.host.specs.declared.ListerReply.{ListerReply}

-- what is returned, and what the buffer holds after it
pub record Numbered : Type 0 where
  pub answer : ℕ
  pub length : ℕ
  pub buffer : List ℕ

abbrev pub text_outcome : TextReply → List ℕ → Numbered
text_outcome r buffer = record { answer = r.answer; length = r.length; buffer = buffer }

abbrev pub numbered : Outcome → Numbered
numbered o = record { answer = answer_number o.answer; length = o.length; buffer = o.buffer }

-- the allocated word whose line a text is, or 9 where there is none
abbrev pub ReadAs : List ℕ → WordReply → Type 0
ReadAs t r =
    ((r.answer ≡ 0) × LineOf r.word t)
    ⊎ ((r.answer ≡ 9) × (r.word ≡ 0) × ((w : ℕ) → ¬ LineOf w t))

-- what a call of a lister returns, and what the output holds after it
pub record ListerNumbered : Type 0 where
  pub lister : Lister
  pub answer : ℕ
  pub length : ℕ
  pub buffer : List ℕ

abbrev pub lister_outcome : ListerReply → List ℕ → ListerNumbered
lister_outcome r buffer = record { lister = r.lister; answer = r.answer; length = r.length; buffer = buffer }

abbrev pub lister_numbered : stream.Outcome → ListerNumbered
lister_numbered o = record { lister = o.lister; answer = answer_number o.answer; length = o.length; buffer = o.buffer }
