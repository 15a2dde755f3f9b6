-- `lookup::constant::table` meets its contract: the entries are computed and compared. Assumes nothing.
use mathlib.Core.Path.{refl}
use Rattle.bits.specs.Fields.{part}
use Rattle.instruction.specs.Undefined.{undefined_size, undefined_literal, undefined_pair}
use Rattle.lookup.specs.Entries.{entry_of, entries}
use Rattle.lookup.proofs.Rule.{equal_true}
use Rattle.lookup.proofs.constant.table.Goals as goal

pub returns : goal.returns
unfolding entries entry_of part undefined_size undefined_literal undefined_pair
returns c = equal_true _ entries refl
