-- `reader::build::build` meets its contract. Assumes nothing.
use Rattle.reader.proofs.Built.{built}
use Rattle.reader.proofs.build.build.Goals as goal

pub returns : goal.returns
returns c = built c.args.s c.name_for.ensures c.family_for.ensures
