-- `listing::line::put_line` meets its contract. Assumes nothing.
use Rattle.listing.specs.Listing.{answer_text, line_text}
use Rattle.ascii.proofs.Pieces.{after}
use Rattle.listing.proofs.Steps.{ends}
use Rattle.listing.proofs.line.put_line.Goals as goal

pub returns : goal.returns
unfolding line_text answer_text
returns c =
    let content = c.put_content-shown.ensures in
    ends (after (after c.put_hex-tab.ensures c.put_byte-text.ensures) content.1) (rw (c.answer_number-number.ensures.0, content.0) at c.put_bytes.ensures)
