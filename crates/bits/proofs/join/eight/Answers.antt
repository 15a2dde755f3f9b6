-- `bits::join::eight` meets its contract. Assumes nothing.
use Rattle.bits.proofs.Joining.{halves}
use Rattle.bits.proofs.join.eight.Goals as goal

pub returns : goal.returns
returns c = halves 4 4 c.four-low.ensures c.four.ensures
