-- `text::form::rest_operand` meets its contract. Assumes nothing.
use native.Mathlib.Omega.{arith}
use borrow.Author.Tests.{ne_eqb}
use Rattle.text.specs.route.Lines.{rest_part}
use Rattle.text.proofs.Hinted.{itself_led}
use Rattle.text.proofs.form.rest_operand.Goals as goal

pub returns-then-m-eq35 : goal.returns-then-m-eq35
unfolding rest_part
returns-then-m-eq35 c = rw c.if-m-eq35.true c.rest.ensures

pub returns : goal.returns
unfolding rest_part
returns c = (simp (ne_eqb _ _ c.if-m-eq35.false) (itself_led _), omega arith)
