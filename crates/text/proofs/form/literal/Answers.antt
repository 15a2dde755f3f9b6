-- `text::form::literal` meets its contract. Assumes nothing.
use mir.Facts.{to_z-of_z}
use mathlib.Core.Path.{refl}
use mathlib.Core.List.{◌++◌}
use Rattle.text.specs.route.Pieces.{text_in}
use Rattle.text.specs.route.Lines.{ahead}
use Rattle.text.proofs.Forms.{hash_shown, literal_by}
use Rattle.text.proofs.form.literal.Goals as goal

pub returns : goal.returns
returns c =
    literal_by (ahead c.args.front ++ text_in c.args.rest) (hash_shown refl refl) (rw (to_z-of_z c.ranges.offset) at c.signed.ensures) c.none.ensures c.line_of.ensures
