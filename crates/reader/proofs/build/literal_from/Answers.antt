-- `reader::build::literal_from` meets its contract. Assumes nothing.
use mir.Syntax.{w64}
use mathlib.Core.Path.{◌∙◌}
use mir.Facts.{to_z-of_z}
use Rattle.reader.proofs.Built.{literal_is}
use borrow.Author.Rules.{sfits_of}
use Rattle.reader.proofs.build.literal_from.Goals as goal

pub returns : goal.returns
returns c = literal_is c.args.s c.target_at.ensures (to_z-of_z {w = w64} (sfits_of c.offset_at.type_inv) ∙ c.offset_at.ensures)
