-- One block more was handled, which was full.
use Rattle.std.proofs.Common.{arith, length-take-le, refl}
use denote.Param.Always.{mut_next}
use Rattle.std.proofs.lemmas.Fn.{FoldsTo-push}
use Rattle.console.proofs.for_each_block.Goals as goal

pub loop-preserved : goal.loop-preserved
loop-preserved g c = record {
  callable = λ a. mut_next g.F.FnMut _ _ _ _ _ c.handle.ensures refl (c.loop.invariant.callable a);
  handled = (_, FoldsTo-push _ _ _ _ _ _ c.loop.invariant.handled.1 (search (arith, length-take-le), c.in_ok-handle.ensures));
}
