-- `text::form::name` meets its contract. Assumes nothing.
use mathlib.Core.Path.{refl}
use Rattle.text.proofs.Forms.{name_shown}
use Rattle.text.proofs.form.name.Goals as goal

pub returns : goal.returns
returns c = name_shown _ refl refl
