-- The number that 01, "Answer numbers", and 02 give each answer.
use Rattle.std.specs.Prelude.{ℕ}
use Rattle.instruction.specs.Types.{Answer}

abbrev pub answer_number : Answer → ℕ
answer_number Answer.Done = 0
answer_number Answer.BadWindow = 1
answer_number Answer.NotInSet = 2
answer_number Answer.Undefined = 3
answer_number Answer.Unpredictable = 4
answer_number Answer.TaintedAddress = 5
answer_number Answer.Misaligned = 6
answer_number Answer.OutOfWindow = 7
answer_number Answer.ReadOnly = 8
answer_number Answer.NoSuchText = 9
answer_number Answer.NoRoom = 10
answer_number Answer.NoSuchInstruction = 11
answer_number Answer.NotAllowed = 12
answer_number Answer.Malformed = 13
answer_number Answer.BadChecksum = 14
answer_number Answer.BadRecordType = 15
answer_number Answer.Closed = 16
answer_number Answer.BadTrace = 17
answer_number Answer.AfterEnd = 18
