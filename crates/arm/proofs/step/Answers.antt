-- `arm::step` meets its contract: what `machine::step` does, by `step_as_arm`. Assumes nothing.
use Rattle.machine.specs.Machine.{machine_of}
use Rattle.arm.proofs.Arm.{step_as_arm}
use Rattle.arm.proofs.step.Goals as goal

pub returns : goal.returns
returns c =
    let a = c.args in
    let m = machine_of a.state a.vectors a.vector_taint a.memory.now a.taint.now in
    let real = c.real.ensures in
    rw (← step_as_arm a.window a.word m real) c.step.ensures
