-- `rescue::put::put_row` meets its contract. Assumes nothing.
use Rattle.ascii.proofs.Pieces.{after}
use Rattle.rescue.specs.Rescue.{report_line}
use Rattle.rescue.proofs.put.put_row.Goals as goal

pub returns : goal.returns
unfolding report_line
returns c =
    let number = c.put_decimal-tab in
    let tab = c.put_byte-name in
    let name = c.put_name-end in
    after (after (after number.ensures tab.ensures) name.ensures) c.put_byte.ensures
