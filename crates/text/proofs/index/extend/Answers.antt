-- `text::index::extend` meets its contract. Assumes nothing.
use native.Mathlib.Omega.{arith}
use Rattle.text.proofs.Forms.{uxtw_shown, sxtw_shown, sxtx_shown}
use Rattle.text.proofs.index.extend.Goals as goal

pub returns-in-3 : goal.returns-in-3
returns-in-3 c = rw c.in-3.is c.shift.ensures

pub returns-in-2 : goal.returns-in-2
returns-in-2 c = rw c.in-2.is (uxtw_shown c.args.scaled c.six.ensures.0 c.six.ensures.1)

pub returns-in-6 : goal.returns-in-6
returns-in-6 c = rw c.in-6.is (sxtw_shown c.args.scaled c.six-in-6.ensures.0 c.six-in-6.ensures.1)

pub returns-in_default : goal.returns-in_default
returns-in_default c =
    sxtx_shown c.args.option c.args.scaled (λ e. absurd (omega arith)) (λ e. absurd (omega arith)) (λ e. absurd (omega arith)) c.six-in_default.ensures.0
    c.six-in_default.ensures.1
