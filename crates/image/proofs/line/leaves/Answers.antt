-- `image::line::leaves` meets its contract. Assumes nothing.
use Rattle.image.specs.Lines.{bytes_in}
use Rattle.image.proofs.Faults.{bytes_length}
use Rattle.image.proofs.Tests.{places_data}
use Rattle.image.proofs.line.leaves.Goals as goal

pub returns-then-byte_in-eq0 : goal.returns-then-byte_in-eq0
returns-then-byte_in-eq0 c =
    let count = c.byte_in-then-byte_in-eq0 in
    rw (← places_data c.args.rest.now c.args.upper _ c.byte_in.ensures _ _ c.if-byte_in-eq0.true c.first_in.ensures count.ensures)
    (c.is_left_by.ensures.is (bytes_in c.args.rest.now 4 count.result) (bytes_length _ 4 _))
