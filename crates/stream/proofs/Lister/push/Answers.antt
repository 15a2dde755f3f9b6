-- `stream::Lister::push` meets its contract. Assumes nothing.
use mathlib.Core.Path.{refl, sym, ◌∙◌}
use Prim.Native.Nat.{◌+◌, ◌-◌, ◌%◌}
use lib.ListN.{length, drop}
use native.Mathlib.Omega.{arith}
use Rattle.std.proofs.lemmas.Result.{err_from_is_err_and}
use Rattle.stream.proofs.Returns.{push_refused, few_held, no_word, word_held, word_full, to_end, push_not, push_is}
use Rattle.stream.proofs.Lister.push.Goals as goal

pub returns-then-refuses-clause-value : goal.returns-then-refuses-clause-value
returns-then-refuses-clause-value c = push_refused _ _ _ (sym c.refuses.ensures ∙ c.if-refuses.true)

pub returns-then-count-used-lt4-clause-value : goal.returns-then-count-used-lt4-clause-value
returns-then-count-used-lt4-clause-value c =
    let may = sym c.refuses.ensures ∙ c.if-refuses.false in
    let all = rw c.from-count.ensures at c.min-used.ensures in
    let few = rw c.from-count.ensures at c.if-count-used-lt4.true in
    let is = rw (c.copy_from_slice.ensures.after, c.from-count.ensures, few_held c.args.self.now c.args.fragment.now may all few _) at c.holding.ensures in
    rw is (no_word c.args.self.now c.args.fragment.now may all few c.args.output.now)

pub returns-in_err-length-clause-value : goal.returns-in_err-length-clause-value
returns-in_err-length-clause-value c =
    let may = sym c.refuses.ensures ∙ c.if-refuses.false in
    let all = rw c.from-count.ensures at c.min-used.ensures in
    let many = rw c.from-count.ensures at c.if-count-used-lt4.false in
    let p = err_from_is_err_and c.from_residual.result c.from_residual.ensures.1 in
    let over = c.in_err-length.ensures.refused in
    let l = c.args.self.now in
    let f = c.args.fragment.now in
    let cut = word_held l f may all {k = l.count + c.min-used.result - l.count} (omega arith) (omega (arith, many)) in
    let full = word_full l f may all {k = l.count + c.min-used.result - l.count} (omega arith) (omega (arith, many)) in
    rw (p.1, p.2, over) (push_not l f c.args.output.now may _ _ full cut refl (rw (over, c.copy_from_slice.ensures.after, c.from-count.ensures, to_end f c.min-used.result) at c.in_err-length.ensures.value))

pub returns-clause-value : goal.returns-clause-value
returns-clause-value c =
    let may = sym c.refuses.ensures ∙ c.if-refuses.false in
    let all = rw c.from-count.ensures at c.min-used.ensures in
    let many = rw c.from-count.ensures at c.if-count-used-lt4.false in
    let l = c.args.self.now in
    let f = c.args.fragment.now in
    let cut = word_held l f may all {k = l.count + c.min-used.result - l.count} (omega arith) (omega (arith, many)) in
    let full = word_full l f may all {k = l.count + c.min-used.result - l.count} (omega arith) (omega (arith, many)) in
    let b = drop c.min-used.result f in
    rw (c.holding-2.ensures, to_end f c.min-used.result, to_end b (length b - length b % 4)) (push_is l f c.args.output.now may _ _ full cut refl (rw (c.copy_from_slice.ensures.after, c.from-count.ensures, to_end f c.min-used.result) at c.in_ok-length.ensures.value))
