-- `memory::load_taints` meets its contract. Assumes nothing.
use Prim.Native.Nat.{◌≤◌}
use native.Mathlib.Omega.{arith}
use Rattle.bits.proofs.Joining.{low}
use Rattle.memory.proofs.Taints.{span_taints}
use Rattle.memory.proofs.load_taints.Goals as goal

pub returns : goal.returns
returns c =
    let bound = c.min in
    let m = bound.result in
    let few : m ≤ 8 = omega (arith, bound.ensures) in
    let joins = low m few c.eight_at.ensures in
    let whole = span_taints _ m few joins (rw c.cut.ensures at c.normal.ensures) in
    (rw bound.ensures at whole.0, rw bound.ensures at whole.1)
