-- `image::line::byte_in` meets its contract. Assumes nothing.
use Rattle.image.proofs.Tests.{byte_is}
use Rattle.image.proofs.line.byte_in.Goals as goal

pub returns : goal.returns
returns c =
    byte_is c.args.rest.now c.args.i _ _ _ _ _ _ c.byte_at.ensures c.digit.ensures c.unwrap_or-high.ensures c.byte_at-2.ensures c.digit-2.ensures c.unwrap_or-low.ensures
