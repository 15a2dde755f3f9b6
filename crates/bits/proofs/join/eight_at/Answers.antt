-- `bits::join::eight_at` meets its contract. Assumes nothing.
use Rattle.std.proofs.Common.{arith}
use Rattle.bits.proofs.Joining.{halves, ends, past}
use Rattle.bits.proofs.join.eight_at.Goals as goal

pub returns-then-bytes-at : goal.returns-then-bytes-at
returns-then-bytes-at c = past 8 (omega arith)

pub returns-then-bytes-at-ge4 : goal.returns-then-bytes-at-ge4
returns-then-bytes-at-ge4 c = halves 4 4 c.four-low.ensures c.last_four.ensures

pub returns : goal.returns
returns c = ends 4 (omega arith) c.last_four-2.ensures
