-- `reader::is_line` meets its contract. Assumes nothing.
use mathlib.Core.Path.{sym, ◌∙◌}
use native.Mathlib.Omega.{arith}
use lib.Seq.{length-take-le}
use Rattle.std.proofs.lemmas.Slice.Eq.{slice_eq-Decides}
use Rattle.std.proofs.lemmas.Bool.Decides.{Decides-eqb}
use Rattle.reader.proofs.Written.{written_fits, written_line}
use Rattle.reader.proofs.is_line.Goals as goal

pub slice_bounds-buffer-end : goal.slice_bounds-buffer-end
slice_bounds-buffer-end c = written_fits _ c.write.result _ c.write.new.buffer c.requires c.write.ensures.exact (omega arith) c.unwrap_or-length.ensures

pub slice_bounds-line-end : goal.slice_bounds-line-end
slice_bounds-line-end c = sym (length-take-le _ _ (written_fits _ c.write.result _ c.write.new.buffer c.requires c.write.ensures.exact (omega arith) c.unwrap_or-length.ensures))

pub returns : goal.returns
returns c =
    let line = written_line _ c.write.result _ c.write.new.buffer c.requires c.write.ensures.exact (omega arith) c.unwrap_or-length.ensures in
    let same = slice_eq-Decides Decides-eqb _ _ _ c.eq.ensures in
    ((λ t. sym line ∙ same.0 t), (λ t. same.1 (line ∙ t)))
