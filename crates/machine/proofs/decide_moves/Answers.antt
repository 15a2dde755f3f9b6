-- `machine::decide_moves` meets its contract. Assumes nothing.
use Rattle.std.proofs.Common.{length, ap, arith}
use Rattle.std.proofs.lemmas.Result.{err_from_is_err_and}
use Rattle.plan.specs.Ranges.{admit_in}
use Rattle.plan.specs.Plans.{plan_in}
use Rattle.machine.specs.route.Writing.{state_of}
use Rattle.plan.proofs.Tests.{touch_inside}
use Rattle.machine.proofs.Answers.{planned_plain}
use Rattle.machine.proofs.decide_moves.Goals as goal

pub touched-requires : goal.touched-requires
touched-requires c =
    let a = c.args in
    let s = a.start.now in
    let i = touch_inside s.window s.reach (length a.memory.now) a.t a.a c.operands_of-operands.result c.planned.ensures (ap plan_in c.in_ok-touch.was) in
    (c.requires.0, c.requires.1.written, i.starts, omega (arith, i.starts, i.ends), c.requires.2)

pub returns-in_err-touch : goal.returns-in_err-touch
returns-in_err-touch c =
    let a = c.args in
    let s = a.start.now in
    let f = s.files in
    let p = err_from_is_err_and c.from_residual.result c.from_residual.ensures.1 in
    rw (p.1, p.2, planned_plain s.window.origin (admit_in s.window s.reach (length a.memory.now)) a.t a.a (state_of f.value.now f.tainted.now s.pc s.monitor) f.vectors.now f.vector_taint.now a.memory.now a.taint.now f.full c.requires.1, ← c.operands_of-operands.ensures, ← c.planned.ensures, c.in_err-touch.was)

pub returns : goal.returns
returns c =
    let a = c.args in
    let s = a.start.now in
    let f = s.files in
    rw (planned_plain s.window.origin (admit_in s.window s.reach (length a.memory.now)) a.t a.a (state_of f.value.now f.tainted.now s.pc s.monitor) f.vectors.now f.vector_taint.now a.memory.now a.taint.now f.full c.requires.1, ← c.operands_of-operands.ensures, ← c.planned.ensures, c.in_ok-touch.was)
    c.touched.ensures
