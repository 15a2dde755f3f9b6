-- `listing::measured` meets its contract. Assumes nothing.
use native.Mathlib.Omega.{arith}
use Rattle.listing.proofs.Steps.{measured_word, measured_over, measured_end}
use Rattle.listing.proofs.measured.Goals as goal

pub returns-then-left-n : goal.returns-then-left-n
returns-then-left-n c =
    let words = c.as_chunks.ensures in
    measured_over _ words.front words.front_len c.loop-word.invariant c.loop-word-test.true c.from_le_bytes.ensures c.line_length-n.ensures c.if-left-n.true

pub loop-word-preserved : goal.loop-word-preserved
loop-word-preserved c =
    let words = c.as_chunks.ensures in
    measured_word _ words.front words.front_len c.loop-word.invariant c.loop-word-test.true c.from_le_bytes.ensures c.line_length-n.ensures c.if-left-n.false

pub returns : goal.returns
returns c =
    let words = c.as_chunks.ensures in
    measured_end _ words.front words.front_len c.loop-word.invariant (omega (arith, c.loop-word-test.false)) words.back c.short_length.ensures
