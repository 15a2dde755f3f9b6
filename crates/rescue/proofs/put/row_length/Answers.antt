-- `rescue::put::row_length` meets its contract. Assumes nothing.
use native.Mathlib.Omega.{arith}
use Rattle.ascii.proofs.Pieces.{fits}
use Rattle.rescue.proofs.Rooms.{row_short}
use Rattle.rescue.proofs.put.row_length.Goals as goal

pub returns : goal.returns
returns c =
    let a = c.args in
    omega (arith, fits c.put_row.ensures (omega (arith, row_short a.number a.fate)))
