-- `why::source::last_set` meets its contract. Assumes nothing.
use Rattle.std.proofs.Common.{◌∙◌, arith}
use Rattle.why.specs.route.Lent.{steps_in}
use Rattle.why.proofs.Walked.{last_kept}
use Rattle.why.proofs.source.last_set.Goals as goal

pub loop-at-preserved : goal.loop-at-preserved
loop-at-preserved c = last_kept (steps_in c.args.history.now) c.args.spot c.loop-at.at (omega arith) c.in-Kept.ensures ∙ c.loop-at.invariant
