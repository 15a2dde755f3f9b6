-- `memory::ones::normal` meets its contract. Assumes nothing.
use mathlib.Core.Path.{◌∙◌, ap}
use Prim.Native.Nat.{ℕ, ◌/◌}
use native.Mathlib.Nat.{mul-div_cancel}
use lib.Dec.{lit<}
use Rattle.bits.specs.Bytes.{joined}
use Rattle.memory.proofs.Nonzero.{seventh_is}
use Rattle.memory.proofs.ones.normal.Goals as goal

pub returns : goal.returns
unfolding joined
returns c = ap (λ (x : ℕ). x / 128) (seventh_is 8 c.args.taints) ∙ mul-div_cancel _ (lit< tt)
