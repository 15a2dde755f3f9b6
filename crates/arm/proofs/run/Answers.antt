-- `arm::run` meets its contract: what `execution::run` does, by `run_as_arm`. Assumes nothing.
use Rattle.machine.specs.Machine.{machine_of}
use Rattle.execution.specs.Walk.{log}
use Rattle.arm.proofs.Runs.{run_as_arm}
use Rattle.arm.proofs.run.Goals as goal

pub returns : goal.returns
returns c =
    let a = c.args in
    let m = machine_of a.state a.vectors.now a.vector_taint.now a.memory.now a.taint.now in
    let real = c.real.ensures in
    rw (← run_as_arm a.window a.words.now m (log a.trace.now a.statuses.now) real) c.run.ensures.exact
