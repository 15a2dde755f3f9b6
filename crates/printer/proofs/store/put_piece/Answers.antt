-- `printer::store::put_piece` meets its contract. Assumes nothing.
use Rattle.printer.proofs.Spilling.{low_bytes}
use Rattle.printer.proofs.store.put_piece.Goals as goal

pub returns : goal.returns
returns c = rw (c.to_le_bytes-bytes.ensures, low_bytes c.args.piece) at c.put_text.ensures
