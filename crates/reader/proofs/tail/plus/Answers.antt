-- `reader::tail::plus` meets its contract. Assumes nothing.
use native.Mathlib.Omega.{arith}
use mir.Syntax.{w64}
use mir.Facts.{to_z_pos}
use Rattle.reader.specs.route.Tails.{plus_of}
use Rattle.reader.proofs.tail.plus.Goals as goal

pub returns : goal.returns
unfolding plus_of
returns c = to_z_pos w64 (omega arith)
