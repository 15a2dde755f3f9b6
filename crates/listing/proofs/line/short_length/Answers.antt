-- `listing::line::short_length` meets its contract. Assumes nothing.
use borrow.Author.Tests.{eq-eqb, ne_eqb}
use Rattle.listing.specs.Listing.{short_text}
use Rattle.listing.proofs.line.short_length.Goals as goal

pub returns-then-count-eq0 : goal.returns-then-count-eq0
unfolding short_text
returns-then-count-eq0 c = simp (eq-eqb _ _ c.if-count-eq0.true)

pub returns-else-count-eq0 : goal.returns-else-count-eq0
unfolding short_text
returns-else-count-eq0 c = simp (ne_eqb _ _ c.if-count-eq0.false)
