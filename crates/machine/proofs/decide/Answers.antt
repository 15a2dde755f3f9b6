-- `machine::decide` meets its contract. Assumes nothing.
use Rattle.std.proofs.Common.{sym, ◌∙◌}
use Rattle.plan.proofs.Tests.{same_lengths}
use Rattle.machine.proofs.Answers.{step_in_lem}
use Rattle.machine.proofs.decide.Goals as goal

pub returns-then-is_bad : goal.returns-then-is_bad
returns-then-is_bad c = rw (step_in_lem, ← c.is_bad.ensures, c.if-is_bad.true)

pub invariant_of-start : goal.invariant_of-start
invariant_of-start c =
    record {
      full = record {
        values = c.counted.ensures;
        taints = c.counted-2.ensures;
        vectors = c.held.ensures.count;
        vector_taints = c.held-2.ensures.count;
      };
    }

pub decide_word-requires : goal.decide_word-requires
decide_word-requires c = same_lengths _ _ _ _ (sym c.is_bad.ensures ∙ c.if-is_bad.false)

pub returns : goal.returns
returns c = rw (step_in_lem, ← c.is_bad.ensures, c.if-is_bad.false) c.decide_word.ensures
