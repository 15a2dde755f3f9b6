-- `text::form::front` meets its contract. Assumes nothing.
use Rattle.text.proofs.Forms.{front_made}
use Rattle.text.proofs.form.front.Goals as goal

pub returns : goal.returns
returns c = front_made _ _ c.name.ensures c.first_operand.ensures
