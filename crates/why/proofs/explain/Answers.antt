-- `why::explain` meets its contract: `said_early` where a test refuses, else `said_listed`. Assumes nothing.
use Rattle.std.proofs.Common.{refl, sym, ap, ◌∙◌, arith}
use Rattle.machine.specs.Origins.{Place}
use Rattle.why.specs.Trail.{trail_of, told}
use Rattle.why.specs.route.Lent.{past_in}
use Rattle.why.specs.route.Reached.{listed_of}
use Rattle.why.proofs.Tests.{asks, said_early, accepted_by, said_listed}
use Rattle.why.proofs.explain.Goals as goal

pub returns-in-Err : goal.returns-in-Err
returns-in-Err c =
    let a = c.args in
    said_early _ a.len (past_in a.history.now) a.steps a.step a.q a.links.now _ _ c.in-Err.ensures c.replied.ensures

pub spot-requires : goal.spot-requires
spot-requires c =
    let a = c.args in
    (accepted_by _ a.len (past_in a.history.now) a.steps a.step a.q a.links.now c.in-Ok.ensures).register

pub listed-requires : goal.listed-requires
listed-requires c =
    let a = c.args in
    asks _ a.len a.history.now a.steps a.step a.q refl (accepted_by _ a.len (past_in a.history.now) a.steps a.step a.q a.links.now c.in-Ok.ensures) (omega arith) (omega arith)

pub returns-in-Ok : goal.returns-in-Ok
returns-in-Ok c =
    let a = c.args in
    c.listed.ensures
    ∙ ap (λ (x : Place). listed_of a.history.now.origin (told (trail_of (past_in a.history.now) a.step x)) a.links.now) c.spot.ensures
    ∙ sym (said_listed _ a.len (past_in a.history.now) a.steps a.step a.q a.links.now c.in-Ok.ensures)
