-- `mnemonic::sized_at` meets its contract. Assumes nothing.
use Rattle.instruction.specs.Operations.{sized_at}
use Rattle.mnemonic.proofs.Told.{sized_is}
use Rattle.mnemonic.proofs.sized_at.Goals as goal

pub returns : goal.returns
returns c =
    sized_is c.args.stem (sized_at c.args.code) c.sized_entry-entry.ensures c.sized_stem.ensures c.behind.ensures
