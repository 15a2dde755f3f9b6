-- `text::register::operand` meets its contract. Assumes nothing.
use mathlib.Core.Path.{refl}
use Rattle.text.proofs.Packing.{spelled, comma}
use Rattle.text.proofs.register.operand.Goals as goal

pub returns : goal.returns
returns c = (spelled c.register.ensures.0 (comma refl refl), c.register.ensures.1)
