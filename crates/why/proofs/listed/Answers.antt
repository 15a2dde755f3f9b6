-- `why::listed` meets its contract. Assumes nothing.
use Rattle.std.proofs.Common.{sym, ◌∙◌, arith}
use Rattle.why.specs.Trail.{trail_of}
use Rattle.why.specs.route.Came.{spot_place}
use Rattle.why.specs.route.Lent.{past_in}
use Rattle.why.proofs.Tests.{found, listed_short, listed_none, listed_links}
use Rattle.why.proofs.listed.Goals as goal

pub returns-then-links-found : goal.returns-then-links-found
returns-then-links-found c =
    let a = c.args in
    let t = trail_of (past_in a.history.now) a.step (spot_place a.spot) in
    listed_short a.history.now.origin t a.links.now _ (omega (arith, c.if-links-found.true, found a.history.now.origin t _ _ _ c.follow-found.ensures)) c.replied.ensures

pub returns-then-found-eq0 : goal.returns-then-found-eq0
returns-then-found-eq0 c =
    let a = c.args in
    let t = trail_of (past_in a.history.now) a.step (spot_place a.spot) in
    listed_none a.history.now.origin t a.links.now _ (sym (found a.history.now.origin t _ _ _ c.follow-found.ensures) ∙ c.if-found-eq0.true) c.replied-then-found-eq0.ensures

pub returns : goal.returns
returns c =
    let a = c.args in
    let t = trail_of (past_in a.history.now) a.step (spot_place a.spot) in
    let n = found a.history.now.origin t _ _ _ c.follow-found.ensures in
    listed_links a.history.now.origin t a.links.now _ _ c.follow-written.result (λ h. c.if-found-eq0.false (n ∙ h)) (omega (arith, c.if-links-found.false, n)) c.replied-2.ensures c.follow-written.ensures
