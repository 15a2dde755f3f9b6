-- `why::marks::register_start` meets its contract. Assumes nothing.
use Rattle.std.proofs.Common.{ℕ, ◌/◌, ◌%◌, sym, ap, ◌∙◌}
use Rattle.memory.specs.Taints.{tainted, byte_at}
use Rattle.memory.proofs.Taints.{no_byte}
use Rattle.why.proofs.Starts.{taints_none}
use Rattle.why.proofs.marks.register_start.Goals as goal

pub returns-else-slot-lt64 : goal.returns-else-slot-lt64
returns-else-slot-lt64 c =
    let a = c.args in
    sym (ap (λ (v : ℕ). tainted (byte_at (a.part % 16) v)) (taints_none a.register_taint.now a.vector_taint.now (a.part / 16) c.counted.ensures c.held.ensures.count c.if-slot-lt64.false) ∙ ap tainted (no_byte (a.part % 16)))
