-- `machine::decide_word` meets its contract. Assumes nothing.
use Rattle.std.proofs.Common.{ne_eqb}
use Rattle.instruction.specs.declared.answer.Answer.TheVariants.{Done}
use Rattle.instruction.proofs.Answers.{number_once}
use Rattle.access.proofs.Bounds.{bounded}
use Rattle.machine.proofs.Answers.{step_class}
use Rattle.machine.proofs.decide_word.Goals as goal

pub decide_access-requires : goal.decide_access-requires
decide_access-requires c = (rw (c.access_of.ensures, c.examine-examined.ensures.1) (bounded c.args.word), c.requires)

pub returns-in-Done : goal.returns-in-Done
returns-in-Done c =
    let seen = c.examine-examined.ensures in
    rw (step_class, ← seen.0, c.in-Done.is, ← seen.1, ← c.access_of.ensures) c.decide_access.ensures

pub returns-in_default : goal.returns-in_default
returns-in_default c =
    let answer = c.examine-examined.result.answer in
    rw (step_class, ← c.examine-examined.ensures.0, ne_eqb _ 0 (λ h. c.in_default.not-Done (number_once answer Done h)))
