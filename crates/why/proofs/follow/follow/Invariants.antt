-- The loop of `why::follow::follow`: what has been put, with what is still to be followed, is the whole, at ever earlier steps.
use Rattle.std.proofs.Common.{◌≡◌, length}
use Rattle.why.specs.Trail.{trail_of}
use Rattle.why.specs.route.Came.{spot_place, Asks}
use Rattle.why.specs.route.Lent.{past_in, steps_in}
use Rattle.why.specs.route.Reached.{written_of}
use Rattle.why.proofs.follow.follow.Given as goal

abbrev pub invariant-loop-links : goal.invariant-loop-links
invariant-loop-links l = (written_of l.history.origin l.depth (trail_of (past_in l.history) l.before (spot_place l.byte)) l.links ≡ written_of l.history.origin 0 (trail_of (past_in l.history) l.fn.step (spot_place l.fn.spot)) l.initial.links)
    × Asks (steps_in l.history) l.before l.depth × (length l.links ≡ length l.initial.links)

abbrev pub decreases-loop-links : goal.decreases-loop-links
decreases-loop-links l = l.before
