-- The loops of `rescue::put::put_copy` keep that the bytes passed are put.
use Rattle.std.proofs.Common.{◌*◌, take}
use Rattle.ascii.specs.route.Puts.{Puts}
use Rattle.rescue.proofs.put.put_copy.Given as goal

abbrev pub invariant-loop-eight : goal.invariant-loop-eight
invariant-loop-eight l = Puts l.initial.output l.at (take (l.eight-index * 8) l.line) l.output l.next

abbrev pub invariant-loop-byte : goal.invariant-loop-byte
invariant-loop-byte l = Puts l.initial.output l.initial.next (take l.byte-index l.rest) l.output l.next
