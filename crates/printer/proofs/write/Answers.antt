-- `printer::write` meets its contract. Assumes nothing.
use Rattle.printer.proofs.Writes.{write_refused, write_done}
use Rattle.printer.proofs.write.Goals as goal

pub returns-then-has_no_text-clause-exact : goal.returns-then-has_no_text-clause-exact
returns-then-has_no_text-clause-exact c = write_refused _ c.spell-spelling.ensures.0 c.has_no_text.ensures _ c.if-has_no_text.true

pub returns-clause-exact : goal.returns-clause-exact
returns-clause-exact c =
    let spell = c.spell-spelling.ensures in
    let without = c.has_no_text.ensures in
    write_done _ spell.0 without _ c.if-has_no_text.false spell.1.text c.write_pieces.ensures.exact
