-- `why::follow::follow` meets its contract. Assumes nothing.
use Rattle.std.proofs.Common.{refl, ◌∙◌, arith}
use Rattle.why.specs.route.Lent.{steps_in}
use Rattle.why.proofs.Walked.{written_start, written_lost, written_ahead, copied_before, asks_less}
use Rattle.why.proofs.follow.follow.Goals as goal

pub loop-links-init : goal.loop-links-init
loop-links-init c = (refl, c.requires, refl)

pub last_set-requires : goal.last_set-requires
last_set-requires c = c.loop-links.invariant.1.range

pub returns-in-Clearing : goal.returns-in-Clearing
returns-in-Clearing c =
    let h = c.args.history.now in
    let l = c.loop-links in
    written_lost h l.depth l.before l.byte l.links l.links c.in-Clearing.ensures ∙ l.invariant.0

pub returns-then-started_tainted : goal.returns-then-started_tainted
returns-then-started_tainted c =
    let h = c.args.history.now in
    let l = c.loop-links in
    written_start h l.depth l.before l.byte l.links _ _ _ c.in-Never.ensures c.started_tainted.ensures (rw c.if-started_tainted.true) (rw (← c.numbers.ensures) c.put.ensures) ∙ l.invariant.0

pub returns-else-started_tainted : goal.returns-else-started_tainted
returns-else-started_tainted c =
    let h = c.args.history.now in
    let l = c.loop-links in
    written_start h l.depth l.before l.byte l.links _ _ _ c.in-Never.ensures c.started_tainted.ensures (rw c.if-started_tainted.false) (rw (← c.numbers.ensures) c.put.ensures) ∙ l.invariant.0

pub overflow_add-at : goal.overflow_add-at
overflow_add-at c =
    let l = c.loop-links in
    omega (arith, l.invariant.1.small, copied_before (steps_in c.args.history.now) l.byte l.before c.in-Copying.from c.in-Copying.at c.in-Copying.ensures)

pub loop-links-smaller : goal.loop-links-smaller
loop-links-smaller c = copied_before (steps_in c.args.history.now) c.loop-links.byte c.loop-links.before c.in-Copying.from c.in-Copying.at c.in-Copying.ensures

pub loop-links-preserved : goal.loop-links-preserved
loop-links-preserved c =
    let h = c.args.history.now in
    let l = c.loop-links in
    let i = c.in-Copying in
    let earlier = copied_before (steps_in h) l.byte l.before i.from i.at i.ensures in (
      written_ahead h l.depth l.before l.byte l.links _ i.from i.at _ i.ensures c.across-byte.ensures (rw (← c.numbers-in-Copying.ensures) c.put-in-Copying.ensures) ∙ l.invariant.0,
      asks_less (steps_in h) i.at l.before l.depth l.invariant.1 earlier,
      c.put-in-Copying.auto.links ∙ l.invariant.2,
    )
