-- `memory::store_by_byte` meets its contract. Assumes nothing.
use Rattle.std.proofs.Common.{◌-◌, ◌<◌, ◌∙◌, sym, arith}
use native.Mathlib.Numerals.{add-one}
use Rattle.bits.specs.Bytes.{bytes_of}
use Rattle.memory.proofs.Spans.{bytes_left, sets_end}
use Rattle.memory.proofs.store_by_byte.Goals as goal

pub loop-i-preserved : goal.loop-i-preserved
unfolding bytes_of
loop-i-preserved c =
    let l = c.loop-i in
    let more : l.i < c.args.n = omega (arith, c.loop-i-test.true, c.min-i-end.ensures) in
    rw add-one (rw (bytes_left l.rest more) at l.invariant)

pub returns : goal.returns
returns c =
    let l = c.loop-i in
    sym (sets_end l.part l.i (c.args.n - l.i) l.rest (λ h. omega (arith, h, c.min-i-end.ensures, c.loop-i-test.false, l.auto.part))) ∙ l.invariant
