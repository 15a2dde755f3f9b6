-- `text::number::reaches` meets its contract. Assumes nothing.
use native.Mathlib.Omega.{arith}
use borrow.Author.Tests.{lt-ltb, le-ltb}
use Rattle.text.specs.route.Pieces.{reaches_of}
use Rattle.text.proofs.number.reaches.Goals as goal

pub returns-then-n-least : goal.returns-then-n-least
unfolding reaches_of
returns-then-n-least c = (simp (lt-ltb _ _ c.if-n-least.true), omega arith)

pub returns : goal.returns
unfolding reaches_of
returns c = (simp (le-ltb _ _ c.if-n-least.false), omega arith)
