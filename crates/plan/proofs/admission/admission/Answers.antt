-- `plan::admission::admission` meets its contract. Assumes nothing.
use Rattle.plan.proofs.Tests.{verdict_placed}
use Rattle.plan.proofs.admission.admission.Goals as goal
use Rattle.plan.proofs.admission.admission.Goals.{then-is_misaligned-via-then-is_misaligned, then-is_misaligned-via-else-is_misaligned+then-is_unaligned}

pub returns-then-is_misaligned : goal.returns-then-is_misaligned
returns-then-is_misaligned c =
    let a = c.args in
    elim c.then-is_misaligned.branch [
      | then-is_misaligned-via-then-is_misaligned w ↦
          verdict_placed a.window a.reach a.len a.t a.address (rw (← c.from.ensures, ← c.from-2.ensures, ← c.is_misaligned.ensures, w.if-is_misaligned.true))
      | then-is_misaligned-via-else-is_misaligned+then-is_unaligned w ↦
          verdict_placed a.window a.reach a.len a.t a.address (rw (← c.from.ensures, ← c.from-2.ensures, ← c.is_misaligned.ensures, w.if-is_misaligned.false, ← w.is_unaligned.ensures, w.if-is_unaligned.true))
    ]

pub returns-then-is_outside : goal.returns-then-is_outside
returns-then-is_outside c =
    let a = c.args in
    verdict_placed a.window a.reach a.len a.t a.address (rw (← c.from.ensures, ← c.from-2.ensures, ← c.is_misaligned.ensures, c.if-is_misaligned.false, ← c.is_unaligned.ensures, c.if-is_unaligned.false, ← c.is_outside.ensures, c.if-is_outside.true))

pub returns : goal.returns
returns c =
    let a = c.args in
    verdict_placed a.window a.reach a.len a.t a.address
    (rw (← c.from.ensures, ← c.from-2.ensures, ← c.is_misaligned.ensures, c.if-is_misaligned.false, ← c.is_unaligned.ensures, c.if-is_unaligned.false, ← c.is_outside.ensures, c.if-is_outside.false) c.reached.ensures)
