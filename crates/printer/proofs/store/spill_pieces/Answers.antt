-- `printer::store::spill_pieces` meets its contract. Assumes nothing.
use Rattle.printer.proofs.Spilling.{flow}
use Rattle.printer.proofs.store.spill_pieces.Goals as goal

pub returns : goal.returns
returns c = flow (flow (flow (flow (flow c.spill-first.ensures.0 c.spill-second.ensures.0) c.spill-third.ensures.0) c.spill-fourth.ensures.0) c.spill-last.ensures.0) c.spill.ensures.0
