-- `vectors::held` meets its contract: an array holds what its type says. Assumes nothing.
use Rattle.vectors.proofs.Rows.{held_by_type}
use Rattle.vectors.proofs.held.Goals as goal

pub returns : goal.returns
returns c = held_by_type c.args.file _ c.well_formed.0
