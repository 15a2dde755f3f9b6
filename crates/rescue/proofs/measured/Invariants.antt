-- The loop of `rescue::measured` keeps what is left of both rooms.
use Prim.Native.Nat.{◌-◌, ◌≤◌}
use lib.ListN.{length}
use Rattle.rescue.proofs.Passed.{Measured}
use Rattle.rescue.proofs.measured.Given as goal

abbrev pub invariant-loop-at : goal.invariant-loop-at
invariant-loop-at l = (l.at ≤ length l.input) × (l.number ≤ l.at) × Measured l.input l.room l.space l.left l.report_left l.at l.number

abbrev pub decreases-loop-at : goal.decreases-loop-at
decreases-loop-at l = length l.input - l.at
