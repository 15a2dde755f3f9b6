-- The loop of `rescue::put_both` keeps what is put so far.
use Prim.Native.Nat.{◌-◌, ◌≤◌}
use lib.ListN.{length}
use Rattle.rescue.proofs.Passed.{Putting}
use Rattle.rescue.proofs.put_both.Given as goal

abbrev pub invariant-loop-at : goal.invariant-loop-at
invariant-loop-at l = (l.at ≤ length l.input) × (l.number ≤ l.at) × Putting l.input l.initial.output l.initial.report l.output l.report l.at l.number l.next l.row

abbrev pub decreases-loop-at : goal.decreases-loop-at
decreases-loop-at l = length l.input - l.at
