-- `printer::write_pieces` meets its contract. Assumes nothing.
use native.Mathlib.Omega.{arith}
use Rattle.printer.proofs.Spilling.{whole_length}
use Rattle.printer.proofs.Writes.{copied_not, copied_is}
use Rattle.printer.proofs.write_pieces.Goals as goal

pub returns-then-buffer-total-clause-exact : goal.returns-then-buffer-total-clause-exact
returns-then-buffer-total-clause-exact c = copied_not _ _ (omega (arith, whole_length c.args.pieces, c.total.ensures.0, c.if-buffer-total.true))

pub returns-clause-exact : goal.returns-clause-exact
returns-clause-exact c = copied_is _ _ (omega (arith, whole_length c.args.pieces, c.total.ensures.0, c.if-buffer-total.false)) c.put_pieces.ensures
