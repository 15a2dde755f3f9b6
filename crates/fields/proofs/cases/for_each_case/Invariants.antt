-- So far each case was answered.
use Rattle.std.proofs.Common.{List, length}
use denote.Param.Always.{always_mut}
use Rattle.std.specs.List.{FoldsTo}
use Rattle.fields.specs.Answered.{AnswerStep}
use Rattle.fields.proofs.cases.for_each_case.Given as goal

abbrev pub invariant-loop-number : goal.invariant-loop-number
invariant-loop-number g l = record {
  callable : always_mut g.F.FnMut l.initial.answer → always_mut g.F.FnMut l.answer;
  answered : (heads : List _) × FoldsTo (AnswerStep (length l.initial.head) (λ f n x r h. goal.F-step g f n x r h)) (l.initial.answer, 0) heads (l.answer, l.number);
}
