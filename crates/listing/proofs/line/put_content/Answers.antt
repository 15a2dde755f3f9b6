-- `listing::line::put_content` meets its contract. Assumes nothing.
use Rattle.ascii.proofs.Pieces.{after}
use Rattle.listing.proofs.Steps.{dash, own_text}
use Rattle.listing.proofs.line.put_content.Goals as goal

pub returns-in-NotInSet : goal.returns-in-NotInSet
returns-in-NotInSet c =
    let shown = c.put-shown.ensures in
    (shown.0, rw (dash _ shown.0 c.in-NotInSet.is) at (after shown.1 c.put_byte.ensures))

pub returns-in_default : goal.returns-in_default
returns-in_default c =
    let shown = c.put-shown.ensures in
    (shown.0, rw (own_text _ shown.0 c.in_default.not-NotInSet c.in_default.not-Undefined) at shown.1)
