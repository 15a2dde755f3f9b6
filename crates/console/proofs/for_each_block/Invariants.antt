-- So far each block was full, and was handled.
use Rattle.std.proofs.Common.{List, length}
use denote.Param.Always.{always_mut}
use Rattle.std.specs.List.{FoldsTo}
use Rattle.console.specs.Handled.{FullStep}
use Rattle.console.proofs.for_each_block.Given as goal

abbrev pub invariant-loop : goal.invariant-loop
invariant-loop g l = record {
  callable : always_mut g.F.FnMut l.initial.handle → always_mut g.F.FnMut l.handle;
  handled : (blocks : List _) × FoldsTo (FullStep (length l.initial.buf) (λ f x r h. goal.F-step g f x r h)) l.initial.handle blocks l.handle;
}
