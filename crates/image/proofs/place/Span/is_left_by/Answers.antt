-- `image::place::Span::is_left_by` meets its contract. Assumes nothing.
use Rattle.std.proofs.Common.{arith}
use Rattle.image.proofs.Spans.{beyond_within, beyond_across}
use Rattle.image.proofs.place.Span.is_left_by.Goals as goal

pub returns-in-Some : goal.returns-in-Some
returns-in-Some c =
    let a = c.args in
    beyond_within a.self.origin a.self.len a.first a.count (omega arith) _ _ (omega arith) (omega (arith, c.in-Some.ensures.1, c.from.ensures)) (omega arith) c.excludes.ensures

pub returns-in-None : goal.returns-in-None
returns-in-None c =
    let a = c.args in
    beyond_across a.self.origin a.self.len a.first a.count (omega arith) _ (omega (arith, c.in-None.ensures)) c.excludes-in-None.ensures
