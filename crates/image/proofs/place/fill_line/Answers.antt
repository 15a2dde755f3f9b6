-- `image::place::fill_line` meets its contract. Assumes nothing.
use Rattle.std.proofs.Common.{refl, arith}
use Rattle.image.proofs.Loops.{puts_more, clears_more}
use Rattle.image.proofs.place.fill_line.Goals as goal

pub loop-i-preserved : goal.loop-i-preserved
loop-i-preserved c =
    let rest = c.args.rest.now in
    let first = c.first_in-first.result in
    let count = c.byte_in-count.result in
    let l = c.loop-i in
    let written = c.put_byte in
    let cleared = c.put_byte-in-loop-i in (
      omega arith,
      omega arith,
      puts_more rest first count l.i c.args.origin _ _ _ c.loop-i-test.true _ _ (rw c.from-in-loop-i.ensures at c.byte_in-in-loop-i.ensures) written.ensures (omega (arith, c.from.ensures)) l.invariant.2,
      clears_more rest first count l.i c.args.origin _ _ _ c.loop-i-test.true _ _ cleared.ensures (omega (arith, c.from.ensures)) refl l.invariant.3,
    )
