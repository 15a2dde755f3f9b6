-- `bits::join::last_four` meets its contract. Assumes nothing.
use Rattle.std.proofs.Common.{◌∙◌, arith}
use Rattle.bits.proofs.Joining.{byte, halves, ends}
use Rattle.bits.proofs.join.last_four.Goals as goal

pub returns-then-bytes-at-ge2 : goal.returns-then-bytes-at-ge2
returns-then-bytes-at-ge2 c =
    let third = byte (c.wide.ensures.0 ∙ c.byte_at.ensures) c.wide.ensures.1 in
    ends 1 (omega arith) (halves 2 1 c.two-low.ensures third)

pub returns : goal.returns
returns c = ends 3 (omega arith) (byte (c.wide-2.ensures.0 ∙ c.byte_at-2.ensures) c.wide-2.ensures.1)
