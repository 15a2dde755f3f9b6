-- The loop of `image::line::sum_of`: what is still to do gives the whole. Assumes nothing.
use Rattle.std.proofs.Common.{◌≡◌, ◌*◌, ◌-◌, ◌≤◌}
use Rattle.image.specs.route.Rest.{summed}
use Rattle.image.proofs.line.sum_of.Given as goal

abbrev pub invariant-loop-i : goal.invariant-loop-i
invariant-loop-i l = (l.sum ≤ 255 * l.i) × (summed l.rest l.i (l.n - l.i) l.sum ≡ summed l.rest 0 l.n 0)
