-- `plain::decode` meets its contract. Assumes nothing.
use Rattle.std.proofs.lemmas.Result.{err_from_is_err_and}
use Rattle.plain.proofs.Arms.{decode_done, decode_refused}
use Rattle.plain.proofs.decode.Goals as goal

pub returns-in_err-instruction : goal.returns-in_err-instruction
returns-in_err-instruction c =
    let p = err_from_is_err_and c.from_residual.result c.from_residual.ensures.1 in
    rw (p.1, p.2) (record { exact = decode_refused c.args.word c.in_err-instruction.ensures.exact; refusal = c.in_err-instruction.ensures.refusal })

pub returns-clause-exact : goal.returns-clause-exact
returns-clause-exact c = decode_done c.args.word c.in_ok-instruction.ensures.exact c.plain_of.ensures
