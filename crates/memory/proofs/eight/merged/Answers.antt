-- `memory::eight::merged` meets its contract. Assumes nothing.
use Rattle.bits.proofs.Joining.{under_fits}
use Rattle.memory.proofs.Masks.{replaced}
use Rattle.memory.proofs.eight.merged.Goals as goal

pub overflow_add-result : goal.overflow_add-result
overflow_add-result c =
    rw (replaced c.args.n c.args.number c.args.old c.cut-low.ensures c.cut.ensures)
    (record { fits = under_fits c.args.n c.args.number c.requires c.ranges.old.fits })

pub returns : goal.returns
returns c = replaced c.args.n c.args.number c.args.old c.cut-low.ensures c.cut.ensures
