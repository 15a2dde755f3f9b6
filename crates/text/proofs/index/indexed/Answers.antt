-- `text::index::indexed` meets its contract. Assumes nothing.
use mathlib.Core.List.{◌++◌}
use Rattle.text.specs.Texts.{extend_text}
use Rattle.text.specs.route.Pieces.{text_in}
use Rattle.text.specs.route.Lines.{ahead}
use Rattle.text.proofs.Packing.{on}
use Rattle.text.proofs.Forms.{indexed_by, index_parts}
use Rattle.text.proofs.index.indexed.Goals as goal

pub returns : goal.returns
returns c =
    let entry = c.args in
    let comma = on c.led-2.ensures c.led.ensures in
    indexed_by (ahead entry.front ++ text_in entry.second) (extend_text entry.o.option entry.o.scaled entry.size) c.base-base.ensures.0 comma c.register-index.ensures.0 c.none.ensures
    c.extend.ensures c.amount.ensures (index_parts _ _ _) c.line_of.ensures
