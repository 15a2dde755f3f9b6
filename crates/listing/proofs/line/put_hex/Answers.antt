-- `listing::line::put_hex` meets its contract. Assumes nothing.
use Rattle.bits.proofs.Bytes.{halves}
use Rattle.listing.specs.Listing.{hex8}
use native.Mathlib.Nat.{div-one}
use Rattle.listing.proofs.line.put_hex.Goals as goal

pub returns : goal.returns
unfolding hex8
returns c =
    let high = c.four_digits-high.ensures in
    let low = c.four_digits-low.ensures in
    rw div-one (rw (halves _ _ high.1, high.0, low.0) at c.put_eight.ensures)
