-- `plan::planned` meets its contract. Assumes nothing.
use Rattle.std.proofs.Common.{◌∙◌, sym}
use Rattle.plan.proofs.Tests.{plan_tainted, plan_stack, plan_admitted}
use Rattle.plan.proofs.planned.Goals as goal

pub returns-then-operands : goal.returns-then-operands
returns-then-operands c = plan_tainted _ _ _ _ c.if-operands.true

pub returns-then-is_misaligned_stack : goal.returns-then-is_misaligned_stack
returns-then-is_misaligned_stack c = plan_stack _ _ _ _ c.if-operands.false c.is_misaligned_stack.ensures c.if-is_misaligned_stack.true

pub returns-in-Ok : goal.returns-in-Ok
returns-in-Ok c =
    let a = c.args in
    plan_admitted a.window a.reach a.len a.transfer a.addressing a.operands c.if-operands.false c.is_misaligned_stack.ensures c.if-is_misaligned_stack.false c.sum-sum.ensures c.first_byte-address.ensures (sym c.in-Ok.is ∙ c.admission.ensures)

pub returns-in-Err : goal.returns-in-Err
returns-in-Err c =
    let a = c.args in
    plan_admitted a.window a.reach a.len a.transfer a.addressing a.operands c.if-operands.false c.is_misaligned_stack.ensures c.if-is_misaligned_stack.false c.sum-sum.ensures c.first_byte-address.ensures (sym c.in-Err.is ∙ c.admission.ensures)
