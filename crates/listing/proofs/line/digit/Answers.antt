-- `listing::line::digit` meets its contract. Assumes nothing.
use mathlib.Core.Path.{refl}
use Rattle.listing.specs.Listing.{hex_digit}
use Rattle.listing.proofs.line.digit.Goals as goal

pub returns : goal.returns
unfolding hex_digit
returns c = refl
