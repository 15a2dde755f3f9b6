-- `execution::walk` meets its contract. The loop's invariant is `Going` of proofs/Decisions.antt: what is done, with what is
-- still to do from here, is the whole. A step that is done goes by the law `goes_on`, and a refused one by `stops`.
-- Assumes nothing.
use Rattle.std.proofs.Common.{◌≡◌, length, ◌∙◌, arith}
use Rattle.machine.specs.Machine.{machine_of}
use Rattle.machine.specs.Step.{step_in}
use Rattle.execution.specs.Walk.{log}
use Rattle.execution.proofs.Walks.{walk_end}
use Rattle.execution.proofs.Decisions.{goes_on, stops}
use Rattle.execution.proofs.walk.Goals as goal

pub returns-in-Err : goal.returns-in-Err
returns-in-Err c =
    let l = c.loop-i in
    let a = c.args in
    c.ended.ensures l.vectors l.vector_taint _ _ _ _
    ∙ rw c.no_code.ensures (stops (step_in a.window a.reach) a.words.now _ _ l.i (machine_of l.state l.vectors l.vector_taint l.memory l.taint) (log l.trace l.statuses) l.last c.loop-i-test.true l.invariant (rw c.in-Err.is at c.decide.ensures))

pub loop-i-preserved : goal.loop-i-preserved
loop-i-preserved c =
    let l = c.loop-i in
    let a = c.args in
    goes_on (step_in a.window a.reach) a.words.now _ _ l.i (machine_of l.state l.vectors l.vector_taint l.memory l.taint) (log l.trace l.statuses) l.last c.loop-i-test.true l.invariant
    c.decide.auto.memory c.decide.auto.taint c.note.ensures (c.settle-last.ensures _ _ ∙ (rw c.in-Ok.is at c.decide.ensures))

pub returns : goal.returns
returns c =
    let l = c.loop-i in
    let a = c.args in
    let all : length a.words.now ≡ l.i = omega (arith, l.invariant.0, c.loop-i-test.false) in
    c.ended-2.ensures l.vectors l.vector_taint _ _ _ _
    ∙ rw all (walk_end (step_in a.window a.reach) a.words.now l.i (machine_of l.state l.vectors l.vector_taint l.memory l.taint) (log l.trace l.statuses) l.last c.loop-i-test.false ∙ l.invariant.7)
