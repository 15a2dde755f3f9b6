-- `text::piece::Piece::numbered` meets its contract. Assumes nothing.
use native.Mathlib.Omega.{arith}
use Rattle.text.proofs.Packing.{on, leads_as}
use Rattle.text.proofs.Numbers.{one_digit, two_digits}
use Rattle.text.proofs.piece.Piece.numbered.Goals as goal

pub returns-then-n-lt10 : goal.returns-then-n-lt10
returns-then-n-lt10 c = (leads_as (one_digit _ c.if-n-lt10.true) c.led-ones.ensures, omega (arith, c.led-ones.ensures.longer))

pub returns : goal.returns
returns c = (leads_as (two_digits _ c.if-n-lt10.false c.requires.0) (on c.led.ensures c.led-ones.ensures), omega (arith, c.led.ensures.longer, c.led-ones.ensures.longer))
