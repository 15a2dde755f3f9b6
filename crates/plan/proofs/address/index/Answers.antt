-- `plan::address::index` meets its contract. Assumes nothing.
use Rattle.std.proofs.Common.{◌∙◌, arith}
use Rattle.bits.proofs.Extensions.{extended_exact}
use Rattle.plan.specs.Address.{index_of}
use Rattle.plan.proofs.address.index.Goals as goal

pub returns-in-6 : goal.returns-in-6
unfolding index_of
returns-in-6 c = rw c.in-6.is (c.extended.ensures ∙ extended_exact 4 8 _ (omega arith) (omega arith) (omega arith))
