-- What reading a text answers: the allocated word whose line it is, or 9 where there is none.
use Rattle.std.specs.Prelude.{ℕ, ◌^◌, ◌<◌, ◌≡◌, true, List, ◌⊎◌, Result, Ok, Err}
use Rattle.text.specs.Texts.{word_text}
use Rattle.instruction.specs.Answers.{answer_number}
use Rattle.instruction.specs.Table.{allocated}
use Rattle.reader.specs.Types.{Answer, Done}

-- what reading a text gives: the word is 0 where the text is refused
pub record Reading : Type 0 where
  pub answer : Answer
  pub word : ℕ

abbrev pub told : Result ℕ Answer → Reading
told (Ok w) = record { answer = Done; word = w }
told (Err answer) = record { answer = answer; word = 0 }

-- t is the line of the allocated word w
pub record LineOf (w : ℕ) (t : List ℕ) : Type 0 where
  pub below : w < 2 ^ 32
  pub defined : allocated w ≡ true
  pub line : word_text w ≡ t

abbrev pub ReadOf : List ℕ → Reading → Type 0
ReadOf t r =
    ((answer_number r.answer ≡ 0) × LineOf r.word t)
    ⊎ ((answer_number r.answer ≡ 9) × (r.word ≡ 0) × ((w : ℕ) → ¬ LineOf w t))
