-- `printer::put` meets its contract. Assumes nothing.
use Rattle.ascii.proofs.Pieces.{nothing}
use Rattle.printer.proofs.Writes.{no_text}
use Rattle.printer.proofs.put.Goals as goal

pub returns-then-has_no_text : goal.returns-then-has_no_text
returns-then-has_no_text c =
    let spell = c.spell-spelled.ensures in
    (spell.0, rw (no_text _ spell.0 c.has_no_text.ensures c.if-has_no_text.true) (nothing _ _))

pub returns : goal.returns
returns c =
    let spell = c.spell-spelled.ensures in
    (spell.0, rw spell.1.text at c.put_pieces.ensures)
