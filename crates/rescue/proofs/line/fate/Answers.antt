-- `rescue::line::fate` meets its contract: what the first field is (`Told`) is what its two callees need. Assumes nothing.
use mathlib.Core.Path.{◌∙◌}
use native.Mathlib.Nat.{zero-add}
use Rattle.rescue.proofs.Told.{word_first, other_first}
use Rattle.rescue.proofs.line.fate.Goals as goal

pub keep-requires : goal.keep-requires
keep-requires c = word_first _ _ (c.find-first.ensures.0 ∙ zero-add _) c.in-Some.ensures

pub restore-requires : goal.restore-requires
restore-requires c = other_first _ _ (c.find-first.ensures.0 ∙ zero-add _) c.in-None.ensures
