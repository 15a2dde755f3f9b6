-- `execution::reaching` meets its contract. The three ways that a run goes are laws of proofs/Walks.antt. Assumes nothing.
use Rattle.std.proofs.Common.{sym, ◌∙◌}
use Rattle.machine.specs.Machine.{machine_of}
use Rattle.machine.specs.Step.{step_in}
use Rattle.execution.specs.Walk.{log}
use Rattle.execution.specs.Run.{bad_in}
use Rattle.execution.proofs.Walks.{long_enough, run_bad, run_short, run_begun}
use Rattle.execution.proofs.reaching.Goals as goal

pub returns-then-is_bad : goal.returns-then-is_bad
returns-then-is_bad c =
    let a = c.args in
    run_bad (bad_in a.window a.reach) (step_in a.window a.reach) a.words.now (machine_of a.state a.vectors.now a.vector_taint.now a.memory.now a.taint.now) (log a.trace.now a.statuses.now) (rw c.no_code.ensures at (c.ended.ensures a.vectors.now a.vector_taint.now a.memory.now a.taint.now a.trace.now a.statuses.now)) (sym c.is_bad.ensures ∙ c.if-is_bad.true)

pub returns-then-is_short : goal.returns-then-is_short
returns-then-is_short c =
    let a = c.args in
    run_short (bad_in a.window a.reach) (step_in a.window a.reach) a.words.now (machine_of a.state a.vectors.now a.vector_taint.now a.memory.now a.taint.now) (log a.trace.now a.statuses.now) (rw c.no_code-then-is_short.ensures at (c.ended-then-is_short.ensures a.vectors.now a.vector_taint.now a.memory.now a.taint.now a.trace.now a.statuses.now)) (sym c.is_bad.ensures ∙ c.if-is_bad.false) (sym c.is_short.ensures ∙ c.if-is_short.true)

pub walk-requires : goal.walk-requires
walk-requires c =
    let a = c.args in
    long_enough a.words.now (log a.trace.now a.statuses.now) (sym c.is_short.ensures ∙ c.if-is_short.false)

pub returns : goal.returns
returns c =
    let a = c.args in
    run_begun (bad_in a.window a.reach) (step_in a.window a.reach) a.words.now (machine_of a.state a.vectors.now a.vector_taint.now a.memory.now a.taint.now) (log a.trace.now a.statuses.now) c.walk.ensures (sym c.is_bad.ensures ∙ c.if-is_bad.false) (sym c.is_short.ensures ∙ c.if-is_short.false)
