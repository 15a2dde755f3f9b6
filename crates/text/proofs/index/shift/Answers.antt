-- `text::index::shift` meets its contract. Assumes nothing.
use mathlib.Core.Path.{refl}
use borrow.Author.Tests.{ne_eqb}
use Rattle.text.specs.route.Lines.{extend_part}
use Rattle.text.proofs.Forms.{lsl_shown}
use Rattle.text.proofs.index.shift.Goals as goal

pub returns-then-scaled-eq1 : goal.returns-then-scaled-eq1
unfolding extend_part
returns-then-scaled-eq1 c = rw c.if-scaled-eq1.true (lsl_shown refl refl)

pub returns : goal.returns
unfolding extend_part
returns c = simp (ne_eqb _ _ c.if-scaled-eq1.false) c.none.ensures
