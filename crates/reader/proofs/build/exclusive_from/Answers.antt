-- `reader::build::exclusive_from` meets its contract. Assumes nothing.
use Rattle.reader.proofs.Built.{exclusive_is}
use Rattle.reader.proofs.build.exclusive_from.Goals as goal

pub returns : goal.returns
returns c =
    let entry = c.args in
    exclusive_is entry.s entry.size c.register.ensures c.register-2.ensures
