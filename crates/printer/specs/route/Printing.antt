-- Pieces of text that are stored eight bytes at a time, and answers without a text: the route of the code.
use Rattle.std.specs.Prelude.{ℕ, ◌+◌, ◌≤◌, ◌≡◌, Bool, ◌||◌, List, ◌++◌, eqb, length, replicate}
use Rattle.std.proofs.lemmas.List.Edits.{sets}
use Rattle.instruction.specs.declared.answer.Answer.{Answer}
use Rattle.instruction.specs.Answers.{answer_number}
use Rattle.text.specs.declared.piece.Pieces.{Pieces}

-- a text that is put into a line at a position, with some zeros behind it, and the position behind the text
pub record Spills (before : List ℕ) (at : ℕ) (t after : List ℕ) (next : ℕ) : Type 0 where
  pub zeros : ℕ
  pub few : zeros ≤ 8
  pub text : after ≡ sets before at (t ++ replicate zeros 0)
  pub place : next ≡ at + length t

-- the bytes of a line
abbrev pub total_of : Pieces → ℕ
total_of p = p.name.length + p.first.length + p.second.length + p.third.length + p.fourth.length + p.last.length

-- of the answers of words
abbrev pub textless : Answer → Bool
textless a = eqb (answer_number a) 2 || eqb (answer_number a) 3
