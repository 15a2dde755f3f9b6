-- `listing::put_listing` meets its contract. Assumes nothing.
use native.Mathlib.Omega.{arith}
use Rattle.listing.proofs.Steps.{listed_word, listed_end}
use Rattle.listing.proofs.put_listing.Goals as goal

pub loop-word-preserved : goal.loop-word-preserved
loop-word-preserved c =
    let words = c.as_chunks.ensures in
    listed_word _ words.front words.front_len c.loop-word.invariant c.loop-word-test.true c.from_le_bytes.ensures c.put_line-next.ensures

pub returns : goal.returns
returns c =
    let words = c.as_chunks.ensures in
    listed_end _ words.front words.front_len c.loop-word.invariant (omega (arith, c.loop-word-test.false)) words.back c.put_short.ensures
