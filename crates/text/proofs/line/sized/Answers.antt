-- `text::line::sized` meets its contract. Assumes nothing.
use mir.Syntax.{w64}
use mir.Val.{SFits}
use mir.Facts.{to_z-of_z}
use borrow.Author.Rules.{rules}
use Rattle.mnemonic.specs.Operands.{sized_operand}
use Rattle.text.specs.Texts.{sized_text}
use Rattle.text.proofs.Forms.{front_is, fits, rest_alone}
use Rattle.text.proofs.line.sized.Goals as goal

pub front-front-requires : goal.front-front-requires
front-front-requires c = (fits _ _ (sized_operand c.args.op) c.sized_name-m.ensures, c.requires.0)

pub in_mode-requires : goal.in_mode-requires
in_mode-requires c =
    let f : SFits w64 c.args.o.offset = search rules in
    (c.requires.1, rw (to_z-of_z f) c.requires.2)

pub returns : goal.returns
unfolding sized_text
returns c =
    let f : SFits w64 c.args.o.offset = search rules in
    rw (c.front-front.ensures, rest_alone c.rest_operand-rest.ensures.0 c.none.ensures, front_is _ _ (sized_operand c.args.op) _ c.sized_name-m.ensures, to_z-of_z f) at c.in_mode.ensures
