-- `bits::extend::extended` meets its contract. Assumes nothing.
use Rattle.std.proofs.Common.{arith, le-ltb, lt-ltb}
use Rattle.bits.specs.Extension.{extended_of}
use Rattle.bits.proofs.extend.extended.Goals as goal

pub returns-then-top-number : goal.returns-then-top-number
unfolding extended_of
returns-then-top-number c = rw (← c.largest-top.ensures, ← c.largest.ensures, lt-ltb _ _ c.if-top-number.true, ← c.saturating_sub.ensures)

pub returns-else-top-number : goal.returns-else-top-number
unfolding extended_of
returns-else-top-number c = rw (← c.largest-top.ensures, le-ltb _ _ c.if-top-number.false) (omega arith)
