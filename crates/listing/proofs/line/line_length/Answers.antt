-- `listing::line::line_length` meets its contract. Assumes nothing.
use native.Mathlib.Omega.{arith}
use Rattle.ascii.proofs.Pieces.{fits}
use Rattle.listing.proofs.Steps.{line_short}
use Rattle.listing.proofs.line.line_length.Goals as goal

pub returns : goal.returns
returns c = omega (arith, fits c.put_line.ensures (omega (arith, line_short c.args.word)))
