-- `arm::real` meets its contract: `real_machine`, of what its callees say of each part by its type. Assumes nothing.
use mathlib.Core.Path.{◌≡◌}
use lib.ListN.{length}
use borrow.Author.Rules.{rules}
use Rattle.machine.proofs.Reals.{real_machine}
use Rattle.arm.proofs.real.Goals as goal

pub returns : goal.returns
returns c =
    let a = c.args in
    let values : length a.state.registers.value ≡ 32 = search (rules, c.well_formed.0) in
    let taints : length a.state.registers.taint ≡ 32 = search (rules, c.well_formed.0.1.1.0) in
    real_machine a.state a.vectors a.vector_taint a.memory.now a.taint.now values c.values.ensures taints c.values-2.ensures c.held.ensures c.held-2.ensures c.bytes.ensures
