-- `bits::join::two` meets its contract. Assumes nothing.
use Rattle.bits.proofs.Joining.{byte, halves}
use Rattle.bits.proofs.join.two.Goals as goal

pub returns : goal.returns
returns c =
    let low = c.wide-low.ensures in
    let high = c.wide.ensures in
    halves 1 1 (byte low.0 low.1) (byte high.0 high.1)
