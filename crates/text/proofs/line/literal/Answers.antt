-- `text::line::literal` meets its contract. Assumes nothing.
use mir.Syntax.{w64}
use mir.Val.{SFits}
use mir.Facts.{to_z-of_z}
use Rattle.mnemonic.specs.Operands.{literal_operand}
use Rattle.text.specs.Texts.{literal_text}
use Rattle.text.proofs.Forms.{front_is, fits, rest_alone}
use native.Mathlib.Omega.{arith}
use borrow.Author.Rules.{rules}
use Rattle.text.proofs.line.literal.Goals as goal

pub front-front-requires : goal.front-front-requires
front-front-requires c = (fits _ _ (literal_operand c.args.op) c.literal_name-m.ensures, c.requires.target)

pub literal-requires : goal.literal-requires
literal-requires c =
    let f : SFits w64 c.args.o.offset = search rules in
    rw (to_z-of_z f) (omega (arith, c.requires.offset))

pub returns : goal.returns
unfolding literal_text
returns c =
    let f : SFits w64 c.args.o.offset = search rules in
    rw (c.front-front.ensures, rest_alone c.rest_operand-rest.ensures.0 c.none.ensures, front_is _ _ (literal_operand c.args.op) _ c.literal_name-m.ensures, to_z-of_z f) at c.literal.ensures
