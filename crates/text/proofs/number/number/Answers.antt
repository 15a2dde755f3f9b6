-- `text::number::number` meets its contract. Assumes nothing.
use mathlib.Core.Path.{refl}
use Rattle.text.proofs.Numbers.{number_is, number_low}
use Rattle.text.proofs.number.number.Goals as goal

pub invariant_of-result-clause-low : goal.invariant_of-result-clause-low
invariant_of-result-clause-low c = number_low c.args.n _ _ c.seven-all.ensures c.count-length.ensures.2

pub returns : goal.returns
returns c = (number_is c.requires c.seven-all.ensures c.count-length.ensures.0 refl refl, c.count-length.ensures.2)
