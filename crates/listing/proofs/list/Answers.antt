-- `listing::list` meets its contract. Assumes nothing.
use borrow.Author.Tests.{leb-true, leb-false}
use mathlib.Core.Path.{sym, ◌∙◌}
use Rattle.listing.specs.Listing.{list_of}
use Rattle.printer.proofs.Writes.{copied_not, copied_is}
use Rattle.listing.proofs.list.Goals as goal

pub returns-then-not-fits-clause-value : goal.returns-then-not-fits-clause-value
unfolding list_of
returns-then-not-fits-clause-value c = copied_not _ _ (leb-false _ _ (sym c.fits.ensures ∙ c.if-not-fits.true))

pub returns-clause-value : goal.returns-clause-value
unfolding list_of
returns-clause-value c = copied_is _ _ (leb-true _ _ (sym c.fits.ensures ∙ c.if-not-fits.false)) c.put_listing.ensures
