-- `rescue::line::keep` meets its contract. Assumes nothing.
use native.Mathlib.Omega.{arith}
use Rattle.rescue.proofs.Told.{keeps_not}
use Rattle.rescue.proofs.line.keep.Goals as goal

pub returns-else-is_line : goal.returns-else-is_line
returns-else-is_line c = keeps_not _ (omega arith) c.requires c.is_line.ensures c.if-is_line.false
