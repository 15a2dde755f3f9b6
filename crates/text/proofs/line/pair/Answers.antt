-- `text::line::pair` meets its contract. Assumes nothing.
use native.Mathlib.Omega.{arith}
use mir.Syntax.{w64}
use mir.Val.{SFits}
use mir.Facts.{to_z-of_z}
use mathlib.Core.List.{append_assoc}
use Rattle.mnemonic.specs.Operands.{pair_operand}
use Rattle.mnemonic.proofs.Registers.{pair_registered}
use Rattle.text.specs.Texts.{pair_text}
use Rattle.text.proofs.Forms.{register_operand, register_front, fits, made_as}
use borrow.Author.Rules.{rules}
use Rattle.text.proofs.line.pair.Goals as goal

pub front-requires : goal.front-requires
front-requires c = (fits _ _ (pair_operand c.args.op) c.pair_name-m.ensures, c.requires.first)

pub in_mode-requires : goal.in_mode-requires
in_mode-requires c =
    let f : SFits w64 c.args.o.offset = search rules in
    (c.requires.base, rw (to_z-of_z f) (omega (arith, c.requires.offset)))

pub returns : goal.returns
unfolding pair_text
returns c =
    let f : SFits w64 c.args.o.offset = search rules in
    let e = c.pair_name-m.ensures in
    let op = c.args.op in
    made_as (simp append_assoc) (rw (c.front.ensures, register_front _ _ (pair_operand op) (pair_registered op) _ e, c.operand-second.ensures.0.text, register_operand _ _ (pair_operand op) (pair_registered op) _ e, to_z-of_z f) at c.in_mode.ensures)
