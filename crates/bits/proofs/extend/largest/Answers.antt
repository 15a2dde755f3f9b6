-- `bits::extend::largest` meets its contract. Assumes nothing.
use Rattle.std.proofs.Common.{◌≡◌, ◌<◌, min, arith}
use Rattle.bits.specs.Extension.{largest}
use Rattle.bits.proofs.Extensions.{shifted, shifted_positive}
use Rattle.bits.proofs.extend.largest.Goals as goal

pub returns-then-n-gt7 : goal.returns-then-n-gt7
unfolding largest
returns-then-n-gt7 c =
    let e : min c.args.n 8 ≡ 8 = omega (arith, c.if-n-gt7.true) in
    rw e

pub overflow_sub-result : goal.overflow_sub-result
unfolding largest
overflow_sub-result c =
    let h : c.args.n < 8 = omega (arith, c.if-n-gt7.false) in
    shifted_positive h

pub returns-else-n-gt7 : goal.returns-else-n-gt7
unfolding largest
returns-else-n-gt7 c =
    let h : c.args.n < 8 = omega (arith, c.if-n-gt7.false) in
    let e : min c.args.n 8 ≡ c.args.n = omega arith in
    rw (e, shifted h)
