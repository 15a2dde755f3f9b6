-- `image::text::check_lines` meets its contract. Assumes nothing.
use Rattle.std.proofs.Common.{arith}
use Rattle.image.proofs.Texts.{some_left, behind_less, check_stop, check_more}
use Rattle.image.proofs.text.check_lines.Goals as goal

pub returns-in-Err : goal.returns-in-Err
returns-in-Err c =
    let l = c.loop-rest in
    let some = some_left l.rest.now _ c.is_empty.ensures c.loop-rest-test.true in
    let a = c.args in
    check_stop l.rest.now a.span.origin a.span.len l.line l.ended l.upper _ some l.invariant.1 c.in-Err.answer c.in-Err.ensures

pub loop-rest-preserved : goal.loop-rest-preserved
loop-rest-preserved c =
    let l = c.loop-rest in
    let some = some_left l.rest.now _ c.is_empty.ensures c.loop-rest-test.true in
    let a = c.args in (
      omega (arith, behind_less l.rest.now _ some c.behind-rest.ensures),
      check_more l.rest.now a.span.origin a.span.len l.line l.ended l.upper _ some l.invariant.1 _ _ _ c.in_default.ensures c.byte_in-ended.ensures c.upper_after-upper.ensures c.behind-rest.ensures,
    )
