-- `bits::join::four_at` meets its contract. Assumes nothing.
use Rattle.std.proofs.Common.{arith}
use Rattle.bits.proofs.Joining.{past}
use Rattle.bits.proofs.join.four_at.Goals as goal

pub returns-then-bytes-at : goal.returns-then-bytes-at
returns-then-bytes-at c = past 4 (omega arith)
