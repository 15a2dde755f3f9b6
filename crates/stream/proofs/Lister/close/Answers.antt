-- `stream::Lister::close` meets its contract: the listing of the bytes over is 01's, and what it shows is handed on
-- (`close_not`, `close_is`). Assumes nothing.
use mathlib.Core.Path.{sym, ◌∙◌}
use Rattle.std.proofs.lemmas.Result.{err_from_is_err_and}
use Rattle.stream.proofs.Returns.{close_refused, close_not, close_is}
use Rattle.stream.proofs.Lister.close.Goals as goal

pub returns-then-refuses-clause-value : goal.returns-then-refuses-clause-value
returns-then-refuses-clause-value c = close_refused _ _ (sym c.refuses.ensures ∙ c.if-refuses.true)

pub returns-in_err-length-clause-value : goal.returns-in_err-length-clause-value
returns-in_err-length-clause-value c =
    let p = err_from_is_err_and c.from_residual.result c.from_residual.ensures.1 in
    let over = c.in_err-length.ensures.refused in
    rw (p.1, p.2, over) (close_not _ _ (sym c.refuses.ensures ∙ c.if-refuses.false) (rw (over, c.from.ensures) at c.in_err-length.ensures.value))

pub returns-clause-value : goal.returns-clause-value
returns-clause-value c = close_is _ _ (sym c.refuses.ensures ∙ c.if-refuses.false) (rw c.from.ensures at c.in_ok-length.ensures.value)
