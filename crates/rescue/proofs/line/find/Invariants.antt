-- The loop of `rescue::line::find` keeps where the byte will be found.
use Prim.Native.Nat.{◌+◌}
use mathlib.Core.Path.{◌≡◌}
use lib.ListN.{drop}
use Rattle.rescue.specs.route.Search.{until}
use Rattle.rescue.proofs.line.find.Given as goal

abbrev pub invariant-loop-i : goal.invariant-loop-i
invariant-loop-i l = l.i + until l.byte (drop l.i l.bytes) ≡ l.from + until l.byte (drop l.from l.bytes)
