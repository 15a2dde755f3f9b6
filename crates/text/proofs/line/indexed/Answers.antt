-- `text::line::indexed` meets its contract. Assumes nothing.
use mathlib.Core.Path.{refl}
use mathlib.Core.List.{append_assoc}
use Rattle.ascii.specs.Ascii.{asc}
use Rattle.mnemonic.specs.route.Named.{known}
use Rattle.mnemonic.specs.Operands.{sized_operand}
use Rattle.text.specs.Texts.{sized_text, index_tail}
use Rattle.text.specs.route.Lines.{front_in, rest_part}
use Rattle.text.proofs.Forms.{front_is, fits, opened, open_shown}
use Rattle.text.proofs.line.indexed.Goals as goal

pub front-front-requires : goal.front-front-requires
front-front-requires c = (fits _ _ (sized_operand c.args.op) c.sized_name-m.ensures, c.requires.target)

pub returns : goal.returns
unfolding sized_text index_tail
returns c =
    let m = c.sized_name-m.result in
    let target = c.args.o.target in
    rw (
      c.front-front.ensures,
      c.scale.ensures.0,
      opened c.rest_operand-rest.ensures.0 (open_shown refl refl),
      ← append_assoc (front_in m target) (rest_part (known m).letter target) (asc "["),
      front_is _ _ (sized_operand c.args.op) _ c.sized_name-m.ensures,
    ) at c.indexed.ensures
