-- `rescue::put_both` meets its contract. Assumes nothing.
use native.Mathlib.Omega.{arith}
use Rattle.rescue.proofs.Passed.{putting_line, putting_end}
use Rattle.rescue.proofs.put_both.Goals as goal

pub loop-at-preserved : goal.loop-at-preserved
loop-at-preserved c =
    let loop = c.loop-at in
    let test = c.loop-at-test in
    let line = c.line_at-line in
    let put = c.put_out-next in
    let row = c.put_row-row in
    let on = c.behind-at.ensures in (
      omega (arith, on),
      omega (arith, on, loop.invariant.1, line.ensures.ends),
      putting_line loop.invariant.2 test.true line.ensures on put.ensures row.ensures,
    )

pub returns : goal.returns
returns c = putting_end c.loop-at.invariant.2 c.loop-at-test.false
