-- `mnemonic::pair_at` meets its contract. Assumes nothing.
use Rattle.instruction.specs.Operations.{pair_at}
use Rattle.mnemonic.proofs.Told.{pair_is}
use Rattle.mnemonic.proofs.pair_at.Goals as goal

pub returns : goal.returns
returns c =
    pair_is c.args.mode (pair_at c.args.code) c.pair_entry-entry.ensures c.pair_stem.ensures c.behind.ensures
