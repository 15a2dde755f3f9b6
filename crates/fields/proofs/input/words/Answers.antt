-- Each is what the call for its index gives (`made`).
use Rattle.std.proofs.Common.{arith, rules}
use Rattle.fields.specs.Numbers.{number_in}
use Rattle.fields.proofs.Made.{made}
use Rattle.fields.proofs.input.words.Goals as goal

pub returns : goal.returns
returns g c = λ i below. made _ (number_in c.args.bytes.now 4) _ (λ j y q k. search rules) _ 0 _ i c.from_fn.ensures.items.each (omega arith) (omega (arith, below))
