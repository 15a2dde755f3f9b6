-- `text::line::store_exclusive` meets its contract. Assumes nothing.
use mathlib.Core.Path.{refl}
use mathlib.Core.List.{append_assoc}
use Rattle.mnemonic.specs.Operands.{Narrow, access_operand}
use Rattle.mnemonic.proofs.Registers.{access_registered}
use Rattle.text.specs.Texts.{store_exclusive_text}
use Rattle.text.proofs.Forms.{register_is, register_front, fits, no_offset, made_as}
use Rattle.text.proofs.line.store_exclusive.Goals as goal

pub front-requires : goal.front-requires
front-requires c = (fits _ _ Narrow c.store_exclusive_name-m.ensures, c.requires.status)

pub returns : goal.returns
unfolding store_exclusive_text
returns c =
    let size = c.args.o.size in
    made_as (simp append_assoc)
    (rw (
      c.front.ensures,
      register_front _ _ Narrow refl _ c.store_exclusive_name-m.ensures,
      c.operand-data.ensures.0.text,
      c.data_letter.ensures,
      register_is (access_operand size) (access_registered size) c.args.o.target,
      no_offset,
    ) at c.plain.ensures)
