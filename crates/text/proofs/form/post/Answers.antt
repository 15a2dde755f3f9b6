-- `text::form::post` meets its contract. Assumes nothing.
use mir.Facts.{to_z-of_z}
use mathlib.Core.Path.{refl}
use mathlib.Core.List.{◌++◌, append-nil}
use Rattle.text.specs.Texts.{post_tail}
use Rattle.text.specs.route.Pieces.{text_in}
use Rattle.text.specs.route.Lines.{ahead}
use Rattle.text.proofs.Forms.{post_sign_shown, ended}
use Rattle.text.proofs.form.post.Goals as goal

pub returns : goal.returns
unfolding post_tail
returns c = ended (ahead c.args.front ++ text_in c.args.second) c.bracketed.ensures.0 (post_sign_shown refl refl) (rw (to_z-of_z c.ranges.offset) at c.signed.ensures) c.none.ensures (append-nil _) c.line_of.ensures
