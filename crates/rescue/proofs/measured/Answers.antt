-- `rescue::measured` meets its contract. Assumes nothing.
use mathlib.Core.Path.{refl}
use native.Mathlib.Omega.{arith}
use Rattle.rescue.proofs.Passed.{measured_line, measured_over, measured_rows, measured_end}
use Rattle.rescue.proofs.measured.Goals as goal

pub returns-then-left-n : goal.returns-then-left-n
returns-then-left-n c = measured_over c.loop-at.invariant.2 c.loop-at-test.true c.line_at-line.ensures refl c.out_length-n.ensures refl c.if-left-n.true

pub returns-then-report_left-m : goal.returns-then-report_left-m
returns-then-report_left-m c = measured_rows c.loop-at.invariant.2 c.loop-at-test.true c.line_at-line.ensures refl c.out_length-n.ensures c.row_length-m.ensures c.if-report_left-m.true

pub loop-at-preserved : goal.loop-at-preserved
loop-at-preserved c =
    let loop = c.loop-at in
    let line = c.line_at-line in
    let on = c.behind-at.ensures in (
      omega (arith, on),
      omega (arith, on, loop.invariant.1, line.ensures.ends),
      measured_line loop.invariant.2 c.loop-at-test.true line.ensures on c.out_length-n.ensures c.row_length-m.ensures c.if-left-n.false c.if-report_left-m.false,
    )

pub returns : goal.returns
returns c = measured_end c.loop-at.invariant.2 c.loop-at-test.false
