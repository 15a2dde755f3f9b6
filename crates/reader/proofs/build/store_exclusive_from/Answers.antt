-- `reader::build::store_exclusive_from` meets its contract. Assumes nothing.
use Rattle.reader.proofs.Built.{store_exclusive_is}
use Rattle.reader.proofs.build.store_exclusive_from.Goals as goal

pub returns : goal.returns
returns c =
    let entry = c.args in
    store_exclusive_is entry.s entry.size c.letter_for.ensures c.size_for-told.ensures c.register.ensures
    c.register-2.ensures c.register-3.ensures
