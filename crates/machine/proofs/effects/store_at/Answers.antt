-- `machine::effects::store_at` meets its contract. Assumes nothing.
use Rattle.bits.specs.Bytes.{bytes_of}
use Rattle.memory.proofs.Spans.{put_back}
use Rattle.machine.proofs.effects.store_at.Goals as goal

pub returns : goal.returns
returns c =
    let a = c.args in
    put_back a.memory.now _ (bytes_of a.n a.number) a.at c.store.ensures
