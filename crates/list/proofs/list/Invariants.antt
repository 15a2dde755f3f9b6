-- The lister is open, and the buffers keep their lengths.
use Rattle.std.proofs.Common.{false, ◌≡◌}
use Rattle.stream.specs.Streams.{refuses}
use Rattle.list.proofs.list.Given as goal

abbrev pub invariant-loop : goal.invariant-loop
invariant-loop g l = refuses l.lister ≡ false
