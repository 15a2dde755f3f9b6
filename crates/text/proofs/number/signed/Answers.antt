-- `text::number::signed` meets its contract. Assumes nothing.
use mir.Facts.{to_z-of_z}
use Rattle.ascii.proofs.Decimals.{signed_minus, signed_plus}
use Rattle.text.proofs.Packing.{spelled}
use Rattle.text.proofs.number.signed.Goals as goal

pub number-far-requires : goal.number-far-requires
number-far-requires c = rw (c.magnitude.ensures, to_z-of_z c.ranges.n) c.requires

pub returns-then-n-lt0 : goal.returns-then-n-lt0
returns-then-n-lt0 c = rw (signed_minus (to_z-of_z c.ranges.n) c.if-n-lt0.true c.magnitude.ensures) (spelled c.led.ensures c.number-far.ensures.0)

pub returns : goal.returns
returns c = rw (signed_plus (to_z-of_z c.ranges.n) c.if-n-lt0.false c.magnitude.ensures) c.number-far.ensures.0
