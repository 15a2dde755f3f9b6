-- `text::form::first_operand` meets its contract. Assumes nothing.
use borrow.Author.Tests.{ne_eqb}
use Rattle.text.specs.route.Lines.{first_part}
use Rattle.text.proofs.Packing.{spelled}
use Rattle.text.proofs.form.first_operand.Goals as goal

pub returns-then-letter-eq35 : goal.returns-then-letter-eq35
unfolding first_part
returns-then-letter-eq35 c = rw c.if-letter-eq35.true c.front.ensures

pub returns : goal.returns
unfolding first_part
returns c = simp (ne_eqb _ _ c.if-letter-eq35.false) (spelled c.led.ensures c.operand.ensures.0)
