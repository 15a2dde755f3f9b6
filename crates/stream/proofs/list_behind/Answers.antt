-- `stream::list_behind` meets its contract. Assumes nothing.
use native.Mathlib.Omega.{arith}
use Rattle.std.proofs.Common.{rules}
use Rattle.std.proofs.lemmas.Result.{err_from_is_err_and}
use Rattle.stream.proofs.Returns.{first_length, first_text, behind_short, behind_not, behind_room, behind_is}
use Rattle.stream.proofs.list_behind.Goals as goal

pub returns-then-output-start-clause-value : goal.returns-then-output-start-clause-value
returns-then-output-start-clause-value c =
    let first = first_length c.args.word (search rules) c.from_le_bytes.ensures c.put_line-start.ensures (search rules) in
    behind_short c.args.word c.args.bytes.now c.args.output.now (search rules) first c.if-output-start.true

pub returns-in_err-length-clause-value : goal.returns-in_err-length-clause-value
returns-in_err-length-clause-value c =
    let p = err_from_is_err_and c.from_residual.result c.from_residual.ensures.1 in
    let first = first_length c.args.word (search rules) c.from_le_bytes.ensures c.put_line-start.ensures (search rules) in
    rw (p.1, p.2, c.in_err-length.ensures.refused)
    (behind_not c.args.word c.args.bytes.now c.args.output.now (search rules) first c.if-output-start.false (rw c.in_err-length.ensures.refused at c.in_err-length.ensures.value))

pub overflow_add-result : goal.overflow_add-result
overflow_add-result c =
    let first = first_length c.args.word (search rules) c.from_le_bytes.ensures c.put_line-start.ensures (search rules) in
    let room = behind_room c.args.word c.args.bytes.now c.args.output.now (search rules) first c.if-output-start.false c.in_ok-length.ensures.value in
    omega (arith, room, c.well_formed)

pub returns-clause-value : goal.returns-clause-value
returns-clause-value c =
    let first = first_length c.args.word (search rules) c.from_le_bytes.ensures c.put_line-start.ensures (search rules) in
    let text = first_text c.args.word (search rules) c.from_le_bytes.ensures c.put_line-start.ensures (search rules) in
    behind_is c.args.word c.args.bytes.now c.args.output.now (search rules) first c.if-output-start.false c.in_ok-length.ensures.value (rw text at c.copy_from_slice.ensures.after)
