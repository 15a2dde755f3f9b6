-- `encoder::encode` meets its contract. Assumes nothing.
use Rattle.encoder.specs.Encoding.{encode_of}
use Rattle.encoder.proofs.encode.Goals as goal

pub returns-in-Some-clause-exact : goal.returns-in-Some-clause-exact
unfolding encode_of
returns-in-Some-clause-exact c = rw (← c.word_of.ensures, c.in-Some.is, ← c.is_allocated.ensures, c.if-is_allocated.true)

pub returns-in_default-clause-exact : goal.returns-in_default-clause-exact
unfolding encode_of
returns-in_default-clause-exact c = rw (← c.word_of.ensures, c.in-Some.is, ← c.is_allocated.ensures, c.if-is_allocated.false)

pub returns-in_default-2-clause-exact : goal.returns-in_default-2-clause-exact
unfolding encode_of
returns-in_default-2-clause-exact c = rw (← c.word_of.ensures, c.in_default.is)
