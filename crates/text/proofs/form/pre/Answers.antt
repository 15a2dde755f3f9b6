-- `text::form::pre` meets its contract. Assumes nothing.
use mir.Facts.{to_z-of_z}
use mathlib.Core.Path.{refl}
use mathlib.Core.List.{◌++◌}
use Rattle.text.specs.Texts.{pre_tail}
use Rattle.text.specs.route.Pieces.{text_in}
use Rattle.text.specs.route.Lines.{ahead}
use Rattle.text.proofs.Forms.{sign_shown, close_shown, ended}
use Rattle.text.proofs.form.pre.Goals as goal

pub returns : goal.returns
unfolding pre_tail
returns c = ended (ahead c.args.front ++ text_in c.args.second) c.bracketed.ensures.0 (sign_shown refl refl) (rw (to_z-of_z c.ranges.offset) at c.signed.ensures) (close_shown refl refl) refl c.line_of.ensures
