-- `bits::join::four` meets its contract. Assumes nothing.
use Rattle.bits.proofs.Joining.{halves}
use Rattle.bits.proofs.join.four.Goals as goal

pub returns : goal.returns
returns c = halves 2 2 c.two-low.ensures c.two.ensures
