-- `rescue::line::line_at` meets its contract: a word's line that stands there is a line of the input (`stands_line`), and any other is
-- searched for. Assumes nothing.
use native.Mathlib.Omega.{arith}
use Rattle.rescue.proofs.Placed.{stands_line}
use Rattle.rescue.proofs.line.line_at.Goals as goal

pub returns : goal.returns
returns c = stands_line c.in-Some-standing.ensures.1 c.requires (omega arith)
