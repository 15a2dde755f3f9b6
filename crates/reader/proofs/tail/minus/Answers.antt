-- `reader::tail::minus` meets its contract. Assumes nothing.
use Prim.Native.Nat.{◌%◌}
use native.Mathlib.Omega.{arith}
use Rattle.decoder.proofs.Products.{negated, negated_fits}
use Rattle.reader.specs.route.Tails.{minus_of}
use Rattle.reader.proofs.tail.minus.Goals as goal

pub overflow_sub-result : goal.overflow_sub-result
unfolding minus_of
overflow_sub-result c = negated_fits (c.args.number % 0x20_0000) (omega arith)

pub returns : goal.returns
unfolding minus_of
returns c = negated (c.args.number % 0x20_0000) (omega arith)
