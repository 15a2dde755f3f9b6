-- `listing::line::put_short` meets its contract. Assumes nothing.
use borrow.Author.Tests.{eq-eqb, ne_eqb}
use Rattle.listing.specs.Listing.{short_text}
use Rattle.ascii.proofs.Pieces.{after, nothing}
use Rattle.listing.proofs.line.put_short.Goals as goal

pub returns-then-n-eq0 : goal.returns-then-n-eq0
unfolding short_text
returns-then-n-eq0 c = simp (eq-eqb _ _ c.if-n-eq0.true) (nothing _ _)

pub returns : goal.returns
unfolding short_text
returns c =
    simp (ne_eqb _ _ c.if-n-eq0.false)
    (after (after c.put_text-dash.ensures c.put_bytes-digit.ensures) c.put_bytes.ensures)
