-- `machine::step` meets its contract: what is returned of a decision is what it tells (`completes`), and what it tells is what
-- the definition does (`shows`). Assumes nothing.
use Rattle.std.proofs.Common.{◌≡◌, length, ◌∙◌, rules}
use Rattle.machine.specs.Machine.{machine_of}
use Rattle.machine.specs.Step.{step_of}
use Rattle.machine.proofs.Writing.{shows, completes}
use Rattle.machine.proofs.step.Goals as goal

pub returns : goal.returns
returns c =
    let a = c.args in
    let m = machine_of a.state a.vectors a.vector_taint a.memory.now a.taint.now in
    let vectors : length a.vectors ≡ 32 = search (rules, c.well_formed.1.1.0) in
    let vector_taint : length a.vector_taint ≡ 32 = search (rules, c.well_formed.1.1.1.0) in
    rw c.completed.ensures (completes a.state a.vectors a.vector_taint _ _ vectors vector_taint c.decide-decision.result ∙ shows m (step_of a.window a.word m) c.decide-decision.ensures)
