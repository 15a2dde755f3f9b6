-- What encoding an instruction gives.
use Rattle.std.specs.Prelude.{ℕ}
use Rattle.instruction.specs.declared.answer.Answer.{Answer}

-- the word is 0 where the instruction is refused
pub record Encoded : Type 0 where
  pub answer : Answer
  pub word : ℕ
