-- `why::marks::halves_start` meets its contract. Assumes nothing.
use Rattle.std.proofs.Common.{◌≡◌, ◌-◌, sym, ap, ◌∙◌, arith}
use Rattle.memory.specs.Taints.{tainted, byte_at}
use Rattle.why.proofs.Starts.{byte_low, byte_high}
use Rattle.why.proofs.marks.halves_start.Goals as goal

pub returns-then-k-lt8 : goal.returns-then-k-lt8
returns-then-k-lt8 c =
    let a = c.args in
    c.byte_start.ensures ∙ ap tainted (sym (byte_low 8 a.k a.h.low a.h.high c.if-k-lt8.true))

pub returns-else-k-lt8 : goal.returns-else-k-lt8
returns-else-k-lt8 c =
    let a = c.args in
    let upper : c.byte_start-else-k-lt8.result ≡ tainted (byte_at (a.k - 8) a.h.high) = c.byte_start-else-k-lt8.ensures in
    upper ∙ ap tainted (sym (byte_high 8 a.k a.h.low a.h.high (omega arith) c.if-k-lt8.false))
