-- `text::hint::is_unnamed` meets its contract. Assumes nothing.
use mathlib.Core.Path.{refl}
use Rattle.bits.specs.Fields.{part}
use Rattle.text.proofs.hint.is_unnamed.Goals as goal

pub returns : goal.returns
unfolding part
returns c = refl
