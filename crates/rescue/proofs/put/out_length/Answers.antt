-- `rescue::put::out_length` meets its contract. Assumes nothing.
use native.Mathlib.Omega.{arith}
use Rattle.rescue.proofs.Rooms.{kept_short}
use Rattle.rescue.proofs.put.out_length.Goals as goal

pub overflow_add-result : goal.overflow_add-result
overflow_add-result c = omega (arith, kept_short c.args.body c.args.fate c.requires c.in-Kept.is)
