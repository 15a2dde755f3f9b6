-- The loop of `why::source::last_set`: no step from where it has come to on has set the byte.
use Rattle.std.proofs.Common.{◌≡◌}
use Rattle.why.specs.route.Came.{last_of}
use Rattle.why.specs.route.Lent.{steps_in}
use Rattle.why.proofs.source.last_set.Given as goal

abbrev pub invariant-loop-at : goal.invariant-loop-at
invariant-loop-at l = last_of (steps_in l.history) l.at l.spot ≡ last_of (steps_in l.history) l.step l.spot
