-- One case more was answered, or none.
use Rattle.std.proofs.Common.{refl, rules}
use mathlib.Core.Logic.{inl, inr}
use denote.Param.Always.{mut_next}
use Rattle.std.proofs.lemmas.Fn.{FoldsTo-push}
use Rattle.fields.proofs.cases.for_each_case.Goals as goal

pub returns-then-n-eq0 : goal.returns-then-n-eq0
returns-then-n-eq0 g c = (_, (_, _, c.loop-number.invariant.answered.1, inl refl))

pub returns-then-n-head : goal.returns-then-n-head
returns-then-n-head g c = (_, (_, _, c.loop-number.invariant.answered.1, inl refl))

pub returns-in-Err : goal.returns-in-Err
returns-in-Err g c = (_, (_, _, c.loop-number.invariant.answered.1, inr (_, _, search rules, c.in-Err.ensures)))

pub returns : goal.returns
returns g c = (_, (_, _, c.loop-number.invariant.answered.1, inl refl))

pub loop-number-preserved : goal.loop-number-preserved
loop-number-preserved g c = record {
  callable = λ a. mut_next g.F.FnMut _ _ _ _ _ c.answer.ensures refl (c.loop-number.invariant.callable a);
  answered = (_, FoldsTo-push _ _ _ _ _ _ c.loop-number.invariant.answered.1 (search rules, c.in_default.ensures, refl));
}
