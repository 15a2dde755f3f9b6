-- `printer::store::spill` meets its contract. Assumes nothing.
use mathlib.Core.Path.{refl}
use Rattle.printer.proofs.Spilling.{spill_is}
use Rattle.printer.proofs.store.spill.Goals as goal

pub returns : goal.returns
returns c = (spill_is _ c.put_number.ensures refl, refl)
