-- The loop of `rescue::line::digits` keeps the word of the digits so far.
use Rattle.rescue.proofs.Lined.{Sofar}
use Rattle.rescue.proofs.line.digits.Given as goal

abbrev pub invariant-loop-byte : goal.invariant-loop-byte
invariant-loop-byte l = Sofar l.field l.byte-index l.word
