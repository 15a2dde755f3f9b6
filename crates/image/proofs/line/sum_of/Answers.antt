-- `image::line::sum_of` meets its contract. Assumes nothing.
use Rattle.std.proofs.Common.{ap, ◌∙◌, arith}
use Rattle.image.specs.Lines.{digit_of}
use Rattle.image.proofs.Loops.{summed_more}
use Rattle.image.proofs.line.sum_of.Goals as goal

pub loop-i-preserved : goal.loop-i-preserved
loop-i-preserved c =
    let l = c.loop-i in
    let h = c.in_ok-high.ensures in
    let d = c.in_ok-low.ensures in
    let high = h.0 ∙ ap digit_of c.byte_at.ensures in
    let low = d.0 ∙ ap digit_of c.byte_at-in-loop-i.ensures in
    (omega (arith, h.1, d.1), summed_more c.args.rest.now c.args.n l.i l.sum _ _ c.loop-i-test.true l.invariant.1 high _ (omega (arith, h.1)) low _ (omega (arith, d.1)) c.from-sum.ensures)
