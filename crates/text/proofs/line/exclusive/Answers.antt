-- `text::line::exclusive` meets its contract. Assumes nothing.
use mathlib.Core.List.{append-nil}
use Rattle.mnemonic.specs.Operands.{access_operand}
use Rattle.mnemonic.proofs.Registers.{access_registered}
use Rattle.text.specs.Texts.{exclusive_text}
use Rattle.text.proofs.Forms.{register_front, fits, no_offset, made_as}
use Rattle.text.proofs.line.exclusive.Goals as goal

pub front-requires : goal.front-requires
front-requires c = (fits _ _ (access_operand c.args.o.size) c.exclusive_name-m.ensures, c.requires.target)

pub returns : goal.returns
unfolding exclusive_text
returns c =
    let size = c.args.o.size in
    made_as (simp append-nil) (rw (c.front.ensures, register_front _ _ (access_operand size) (access_registered size) _ c.exclusive_name-m.ensures, c.none.ensures.text, no_offset) at c.plain.ensures)
