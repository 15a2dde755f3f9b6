-- `rescue::put::put_ended` meets its contract. Assumes nothing.
use Rattle.ascii.proofs.Pieces.{after}
use Rattle.rescue.proofs.put.put_ended.Goals as goal

pub returns : goal.returns
returns c = after c.put_copy-end.ensures c.put_byte.ensures
