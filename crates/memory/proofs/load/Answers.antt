-- `memory::load` meets its contract: of the number of eight bytes, the low ones are the number of those. Assumes nothing.
use Prim.Native.Nat.{min, ◌≤◌}
use native.Mathlib.Omega.{arith}
use Rattle.bits.proofs.Joining.{low, number}
use Rattle.memory.proofs.load.Goals as goal

pub returns : goal.returns
returns c =
    let m = min c.args.n 8 in
    let few : m ≤ 8 = omega arith in
    let joins = low m few c.eight_at.ensures in
    rw (c.cut.ensures, c.min.ensures) (number joins, joins.fits)
