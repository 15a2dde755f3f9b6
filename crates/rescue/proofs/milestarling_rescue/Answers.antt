-- `rescue::milestarling_rescue` meets its contract. Assumes nothing.
use Rattle.rescue.proofs.Passed.{rescue_refused, rescue_done}
use Rattle.rescue.proofs.milestarling_rescue.Goals as goal

pub returns-then-not-fits : goal.returns-then-not-fits
returns-then-not-fits c = rescue_refused c.fits.ensures c.if-not-fits.true c.replied.ensures

pub returns : goal.returns
returns c = rescue_done c.fits.ensures c.if-not-fits.false c.put_both-ends.ensures c.replied-2.ensures
