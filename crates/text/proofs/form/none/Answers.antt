-- `text::form::none` meets its contract. Assumes nothing.
use mathlib.Core.Path.{refl}
use Rattle.text.proofs.Forms.{nothing_shown}
use Rattle.text.proofs.form.none.Goals as goal

pub returns : goal.returns
returns c = nothing_shown refl refl
