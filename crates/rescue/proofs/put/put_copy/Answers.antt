-- `rescue::put::put_copy` meets its contract. Assumes nothing.
use Rattle.std.proofs.Common.{arith}
use Rattle.ascii.proofs.Pieces.{nothing}
use Rattle.rescue.proofs.Copied.{eight_more, byte_more, all_passed}
use Rattle.rescue.proofs.put.put_copy.Goals as goal

pub loop-eight-init : goal.loop-eight-init
loop-eight-init c = nothing _ _

pub loop-eight-preserved : goal.loop-eight-preserved
loop-eight-preserved c =
    let eights = c.as_chunks.ensures in
    eight_more _ eights.front eights.front_len c.loop-eight-test.true c.loop-eight.invariant c.put_bytes-next.ensures

pub loop-byte-init : goal.loop-byte-init
loop-byte-init c = nothing _ _

pub loop-byte-preserved : goal.loop-byte-preserved
loop-byte-preserved c = byte_more _ _ c.loop-byte-test.true c.loop-byte.invariant c.put_byte-next.ensures

pub returns : goal.returns
returns c =
    let eights = c.as_chunks.ensures in
    all_passed _ _ _ (omega (arith, c.loop-eight-test.false, eights.front_len)) eights.back (omega (arith, c.loop-byte-test.false)) c.loop-eight.invariant c.loop-byte.invariant
