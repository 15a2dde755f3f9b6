-- `execution::run` meets its contract: what is promised of its taints and of secrecy follows from the run alone. Assumes nothing.
use Rattle.machine.specs.Machine.{machine_of}
use Rattle.execution.specs.Walk.{log}
use Rattle.execution.proofs.Secrecy.{promised}
use Rattle.execution.proofs.run.Goals as goal

pub returns : goal.returns
returns c =
    let a = c.args in
    let p = promised a.window a.words.now (machine_of a.state a.vectors.now a.vector_taint.now a.memory.now a.taint.now) (log a.trace.now a.statuses.now) c.reaching.ensures in
    record { exact = p.exact; rule = p.rule; secret = p.secret; filled = p.filled }
