-- `rescue::line::digits` meets its contract. Assumes nothing.
use native.Mathlib.Omega.{arith}
use Rattle.rescue.proofs.Lined.{sofar_fits, sofar_more, sofar_end, not_digits, not_eight}
use Rattle.rescue.proofs.line.digits.Goals as goal

pub returns-then-field-ne8 : goal.returns-then-field-ne8
returns-then-field-ne8 c = not_eight _ c.if-field-ne8.true

pub returns-in_err-number : goal.returns-in_err-number
returns-in_err-number c = rw c.from_residual.ensures (not_digits c.args.field.now c.loop-byte.byte-index (omega (arith, c.loop-byte-test.true, c.if-field-ne8.false)) c.in_err-number.ensures)

pub overflow_mul-word : goal.overflow_mul-word
overflow_mul-word c = omega (arith, sofar_fits c.loop-byte.invariant (omega (arith, c.loop-byte-test.true, c.if-field-ne8.false)))

pub overflow_add-word : goal.overflow_add-word
overflow_add-word c = omega (arith, sofar_fits c.loop-byte.invariant (omega (arith, c.loop-byte-test.true, c.if-field-ne8.false)), c.in_ok-number.ensures.1)

pub loop-byte-preserved : goal.loop-byte-preserved
loop-byte-preserved c =
    let loop = c.loop-byte in
    let byte = c.type_inv.field loop.byte-index in
    let digit = c.in_ok-number.ensures in
    sofar_more loop.invariant c.loop-byte-test.true (omega (arith, byte)) digit.0 digit.1

pub returns : goal.returns
returns c = sofar_end c.loop-byte.invariant (omega (arith, c.loop-byte-test.false, c.if-field-ne8.false)) c.if-field-ne8.false
