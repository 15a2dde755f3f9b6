-- What decoding and classifying a word answer: 01, "Answer numbers", 2, 3 and 4, the lowest first.
use Rattle.std.specs.Prelude.{ℕ, Result, Ok, Err, eqb}
use Rattle.bits.specs.Choice.{pick}
use Rattle.instruction.specs.declared.answer.Answer.{Answer}
use Rattle.instruction.specs.declared.answer.Decoded.{Decoded}
use Rattle.instruction.specs.declared.family.Family.{Family}
use Rattle.instruction.specs.declared.family.Instruction.{Instruction}
use Rattle.instruction.specs.Answers.{answer_number}
use Rattle.instruction.specs.Table.{in_set, undefined, allocated, unpredictable, instruction_of}

-- 01's empty record
abbrev pub empty : Instruction
empty = record { family = Family.Empty }

-- what a result says of a word
abbrev pub as_decoded : Result Instruction Answer → Decoded
as_decoded (Ok i) = record { answer = Answer.Done; instruction = i }
as_decoded (Err a) = record { answer = a; instruction = empty }

unfoldable pub decode_of : ℕ → Decoded
decode_of w =
    record {
      answer = pick (in_set w) (pick (undefined w) Answer.Undefined Answer.Done) Answer.NotInSet;
      instruction = pick (allocated w) (instruction_of w) empty;
    }

unfoldable pub class_of : ℕ → Answer
class_of w =
    pick (in_set w) (pick (undefined w) Answer.Undefined (pick (unpredictable w) Answer.Unpredictable Answer.Done)) Answer.NotInSet

-- decoding gives no answer 4, which a word of an instruction has
abbrev pub decoded_from : Decoded → Decoded
decoded_from x = record { answer = pick (eqb (answer_number x.answer) 4) Answer.Done x.answer; instruction = x.instruction }
