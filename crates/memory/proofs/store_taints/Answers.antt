-- `memory::store_taints` meets its contract. Assumes nothing.
use Rattle.memory.proofs.Taints.{normal_bytes}
use Rattle.memory.proofs.store_taints.Goals as goal

pub returns : goal.returns
returns c =
    let fits = c.ranges.taints.fits in
    rw (c.normal.ensures, normal_bytes 8, fits) at c.store.ensures
