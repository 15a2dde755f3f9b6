-- The loop of `rescue::newlines` has counted those that it has passed.
use Rattle.std.proofs.Common.{◌≡◌, ◌≤◌, eqb, length, take}
use Rattle.std.specs.List.{filter}
use Rattle.rescue.proofs.newlines.Given as goal

abbrev pub invariant-loop-byte : goal.invariant-loop-byte
invariant-loop-byte l = (l.lines ≡ length (filter (λ byte. eqb byte 10) (take l.byte-index l.bytes))) × (l.lines ≤ l.byte-index)
