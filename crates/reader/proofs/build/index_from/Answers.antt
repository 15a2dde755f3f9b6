-- `reader::build::index_from` meets its contract. Assumes nothing.
use Rattle.reader.proofs.Built.{index_is}
use Rattle.reader.proofs.build.index_from.Goals as goal

pub returns : goal.returns
returns c =
    index_is c.args.s c.target_at.ensures c.register.ensures c.register-2.ensures
    c.option_at.ensures c.scaled_at.ensures
