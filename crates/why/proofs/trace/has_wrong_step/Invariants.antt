-- The loop of `why::trace::has_wrong_step`: whether a step below where it has come to is wrong says whether one of all is.
use Rattle.std.proofs.Common.{◌≡◌}
use Rattle.execution.specs.Walk.{log}
use Rattle.why.specs.Trace.{some_step, wrong_at}
use Rattle.why.proofs.trace.has_wrong_step.Given as goal

abbrev pub invariant-loop-i : goal.invariant-loop-i
invariant-loop-i l =
    let wrong = wrong_at l.window l.len l.history.words.now (log l.history.trace.now l.history.statuses.now) in
    some_step wrong l.i ≡ some_step wrong l.steps
