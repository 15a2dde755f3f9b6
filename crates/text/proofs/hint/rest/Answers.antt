-- `text::hint::rest` meets its contract. Assumes nothing.
use mathlib.Core.Path.{refl, sym, ◌∙◌}
use native.Mathlib.Omega.{arith}
use Rattle.text.proofs.Hinted.{small, itself_led, rest_named, rest_low}
use Rattle.text.proofs.hint.rest.Goals as goal

pub returns-then-is_unnamed : goal.returns-then-is_unnamed
returns-then-is_unnamed c =
    let u = sym c.is_unnamed.ensures ∙ c.if-is_unnamed.true in
    (rw u (itself_led _), omega arith)

pub overflow_mul-result : goal.overflow_mul-result
overflow_mul-result c =
    let pre = c.requires in
    omega (arith, small c.args.behind pre.1)

pub overflow_add-result : goal.overflow_add-result
overflow_add-result c =
    let pre = c.requires in
    omega (arith, small c.args.behind pre.1, c.policy.ensures.1)

pub invariant_of-result-clause-low : goal.invariant_of-result-clause-low
invariant_of-result-clause-low c = rest_low c.args.behind _ c.policy.ensures.1

pub returns : goal.returns
returns c =
    let pre = c.requires in
    let u = sym c.is_unnamed.ensures ∙ c.if-is_unnamed.false in
    let policy = c.policy.ensures in
    (rest_named _ _ _ pre.0 u policy.0 policy.1 refl refl, omega arith)
