-- `printer::store::put_in_part` meets its contract. Assumes nothing.
use Rattle.ascii.proofs.Pieces.{after}
use Rattle.printer.proofs.store.put_in_part.Goals as goal

pub returns : goal.returns
returns c =
    after (after (after (after (after c.put_piece-first.ensures c.put_piece-second.ensures) c.put_piece-third.ensures) c.put_piece-fourth.ensures) c.put_piece-last.ensures)
    c.put_piece.ensures
