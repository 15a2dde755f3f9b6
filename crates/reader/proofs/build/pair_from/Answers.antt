-- `reader::build::pair_from` meets its contract. Assumes nothing.
use mir.Syntax.{w64}
use mathlib.Core.Path.{◌∙◌}
use mir.Facts.{to_z-of_z}
use Rattle.reader.proofs.Built.{pair_is}
use borrow.Author.Rules.{sfits_of}
use Rattle.reader.proofs.build.pair_from.Goals as goal

pub returns : goal.returns
returns c =
    pair_is c.args.s c.args.mode c.register.ensures c.register-2.ensures c.register-3.ensures
    (to_z-of_z {w = w64} (sfits_of c.offset_at.type_inv) ∙ c.offset_at.ensures)
