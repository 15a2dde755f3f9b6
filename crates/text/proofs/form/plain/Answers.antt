-- `text::form::plain` meets its contract. Assumes nothing.
use mir.Facts.{to_z-of_z}
use mathlib.Core.Path.{refl}
use mathlib.Core.List.{◌++◌}
use Rattle.text.specs.route.Pieces.{text_in}
use Rattle.text.specs.route.Lines.{ahead}
use Rattle.text.proofs.Forms.{bracket_shown, ended, offset_parts}
use Rattle.text.proofs.form.plain.Goals as goal

pub returns : goal.returns
returns c =
    let e = to_z-of_z c.ranges.offset in
    ended (ahead c.args.front ++ text_in c.args.second) c.bracketed.ensures.0 c.sign_for.ensures.0 (rw e at c.offset_for.ensures) (bracket_shown refl refl) (offset_parts e c.magnitude-far.ensures) c.line_of.ensures
