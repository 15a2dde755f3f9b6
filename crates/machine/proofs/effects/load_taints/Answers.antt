-- `machine::effects::load_taints` meets its contract: the taints of bytes read are bytes read of taints. Assumes nothing.
use Rattle.std.proofs.Common.{rules}
use Rattle.machine.proofs.Taints.{normal_loaded}
use Rattle.machine.proofs.effects.load_taints.Goals as goal

pub returns : goal.returns
returns c =
    let a = c.args in
    rw (c.normal.ensures, c.load_halves.ensures) (normal_loaded a.n a.at a.taint.now (λ i. search rules) c.requires.0)
