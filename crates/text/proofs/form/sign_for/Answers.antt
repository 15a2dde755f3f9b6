-- `text::form::sign_for` meets its contract. Assumes nothing.
use mathlib.Core.Path.{refl}
use native.Mathlib.Omega.{arith}
use borrow.Author.Tests.{ne_eqb}
use Rattle.text.proofs.Forms.{sign_shown}
use Rattle.text.proofs.form.sign_for.Goals as goal

pub returns-then-far-eq0 : goal.returns-then-far-eq0
returns-then-far-eq0 c = (rw c.if-far-eq0.true c.none.ensures, omega (arith, c.none.ensures.long))

pub returns : goal.returns
returns c = (simp (ne_eqb _ _ c.if-far-eq0.false) (sign_shown refl refl), omega arith)
