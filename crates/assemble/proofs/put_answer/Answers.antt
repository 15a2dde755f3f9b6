-- The law of an answer's eleven bytes (`eleven`).
use Rattle.std.proofs.Common.{arith, ◌<◌, ◌^◌, sym, ◌∙◌}
use Rattle.assemble.proofs.Answers.{eight_digits, read_below, eleven}
use Rattle.assemble.proofs.put_answer.Goals as goal
use Rattle.assemble.proofs.put_answer.Goals.{in-Ok, in-Err}

pub returns : goal.returns
returns c =
    let below : c.match-read.word.0 < 2 ^ 32 = elim c.match-read.branch [ in-Ok w ↦ rw w.word-is (read_below _ w.in-Ok.word w.in-Ok.ensures) | in-Err w ↦ rw w.word-is (omega arith) ] in
    eleven c.put_text-tab.ensures c.put_bytes.ensures (sym c.hex-n.ensures.in_bounds.1 ∙ eight_digits _ _ c.hex-n.ensures.len (omega (arith, below))) c.requires
