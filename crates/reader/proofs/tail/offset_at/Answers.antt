-- `reader::tail::offset_at` meets its contract: each arm is an entry of the table. Assumes nothing.
use mir.Syntax.{w64}
use mathlib.Core.Path.{◌∙◌}
use mir.Facts.{to_z-of_z}
use Rattle.bits.proofs.Choices.{absent, entry}
use Rattle.reader.specs.route.Tails.{offset_table, offset_at}
use borrow.Author.Rules.{sfits_of}
use Rattle.reader.proofs.tail.offset_at.Goals as goal

pub returns-in-3252443355891630080 : goal.returns-in-3252443355891630080
unfolding offset_at
returns-in-3252443355891630080 c = to_z-of_z {w = w64} (sfits_of c.minus.type_inv) ∙ c.minus.ensures ∙ entry _ (offset_table _) c.in-3252443355891630080.is

pub returns-in-6714061102386249728 : goal.returns-in-6714061102386249728
unfolding offset_at
returns-in-6714061102386249728 c = to_z-of_z {w = w64} (sfits_of c.minus-in-6714061102386249728.type_inv) ∙ c.minus-in-6714061102386249728.ensures ∙ entry _ (offset_table _) c.in-6714061102386249728.is

pub returns-in-2404127404432818176 : goal.returns-in-2404127404432818176
unfolding offset_at
returns-in-2404127404432818176 c = to_z-of_z {w = w64} (sfits_of c.minus-in-2404127404432818176.type_inv) ∙ c.minus-in-2404127404432818176.ensures ∙ entry _ (offset_table _) c.in-2404127404432818176.is

pub returns-in_default : goal.returns-in_default
unfolding offset_at
returns-in_default c = to_z-of_z {w = w64} (sfits_of c.plus.type_inv) ∙ c.plus.ensures ∙ absent _ (offset_table _) _ c.in_default.in_default-own.rest
