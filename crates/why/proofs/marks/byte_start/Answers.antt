-- `why::marks::byte_start` meets its contract. Assumes nothing.
use Rattle.std.proofs.Common.{◌*◌, ◌/◌, ◌%◌, ◌^◌, sym, ap, arith, le-ltb}
use Rattle.memory.specs.Taints.{tainted}
use Rattle.why.proofs.Spots.{byte_shift, byte_above}
use Rattle.memory.proofs.Taints.{nonzero_tainted}
use Rattle.why.proofs.marks.byte_start.Goals as goal

pub returns-then-k-lt8 : goal.returns-then-k-lt8
returns-then-k-lt8 c = rw (byte_shift c.args.k c.args.taints) (nonzero_tainted (c.args.taints / 2 ^ (8 * c.args.k) % 256))

pub returns-else-k-lt8 : goal.returns-else-k-lt8
returns-else-k-lt8 c = rw (le-ltb c.args.k 8 (omega arith)) (ap tainted (sym (byte_above 8 c.args.k c.args.taints (omega arith) (omega arith))))
