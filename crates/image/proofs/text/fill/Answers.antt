-- `image::text::fill` meets its contract. Assumes nothing.
use Rattle.std.proofs.Common.{length, arith}
use Rattle.image.proofs.Texts.{some_left, fill_sound, fill_puts, fill_clears}
use Rattle.image.proofs.text.fill.Goals as goal

pub loop-rest-preserved : goal.loop-rest-preserved
loop-rest-preserved c =
    let l = c.loop-rest in
    let some = some_left l.rest.now _ c.is_empty.ensures c.loop-rest-test.true in
    let rest = l.rest.now in
    let origin = c.args.origin in
    let len = length c.args.memory.now in
    let half = c.upper_after-upper.ensures in
    let next = c.behind-rest.ensures in
    let sound = l.invariant.2 in (
      omega arith,
      omega arith,
      fill_sound rest origin len l.upper some sound _ _ half next,
      fill_puts rest origin len l.upper some sound _ _ _ _ _ half next c.fill_line.ensures.0 l.invariant.3,
      fill_clears rest origin len l.upper some sound _ _ _ _ _ half next c.fill_line.ensures.1 l.invariant.4,
    )
