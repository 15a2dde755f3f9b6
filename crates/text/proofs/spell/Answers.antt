-- `text::spell` meets its contract. Assumes nothing.
use Rattle.text.specs.Texts.{text_of}
use Rattle.decoder.proofs.Decodes.{decoded_bounded}
use Rattle.text.proofs.spell.Goals as goal

pub pieces_of-requires : goal.pieces_of-requires
unfolding text_of
pieces_of-requires c = rw c.examine-examined.ensures.1 (decoded_bounded _)

pub returns : goal.returns
unfolding text_of
returns c = (c.examine-examined.ensures.0, rw (← c.examine-examined.ensures.1) c.pieces_of.ensures)
