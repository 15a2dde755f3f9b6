-- `machine::effects::store_halves` meets its contract. Assumes nothing.
use Rattle.std.proofs.Common.{◌^◌, ◌<◌, ◌∙◌, arith, rules}
use Rattle.vectors.proofs.Wide.{sets_low, sets_both}
use Rattle.machine.proofs.effects.store_halves.Goals as goal

pub returns-then-n-le8 : goal.returns-then-n-le8
returns-then-n-le8 c =
    let a = c.args in
    let fits : a.number.low < 2 ^ 64 = search rules in
    c.store_at.ensures ∙ sets_low a.memory.now a.at a.n a.number.low a.number.high fits (omega (arith, c.if-n-le8.true))

pub returns : goal.returns
returns c =
    let a = c.args in
    let fits : a.number.low < 2 ^ 64 = search rules in
    rw (c.store_at-3.ensures, c.store_at-2.ensures) (sets_both a.memory.now a.at a.n a.number.low a.number.high fits (omega (arith, c.if-n-le8.false)))
