-- The invariant of the loop of `execution::walk`, by which what is done, with what is still to do, is the whole.
use Rattle.machine.specs.Machine.{machine_of}
use Rattle.machine.specs.Step.{step_in}
use Rattle.execution.specs.Walk.{log}
use Rattle.execution.proofs.Decisions.{Going}
use Rattle.execution.proofs.walk.Given as goal

abbrev pub invariant-loop-i : goal.invariant-loop-i
invariant-loop-i l = Going (step_in l.window l.reach) l.words (machine_of l.initial.state l.initial.vectors l.initial.vector_taint l.initial.memory l.initial.taint) (log l.initial.trace l.initial.statuses) l.i (machine_of l.state l.vectors l.vector_taint l.memory l.taint) (log l.trace l.statuses) l.last
