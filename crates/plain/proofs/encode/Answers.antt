-- `plain::encode` meets its contract. Assumes nothing.
use Rattle.plain.proofs.RoundTrip.{encoded_from, refused_from}
use Rattle.plain.proofs.encode.Goals as goal

pub returns-then-eq-clause-exact : goal.returns-then-eq-clause-exact
returns-then-eq-clause-exact c = encoded_from _ c.instruction_of-instruction.ensures c.plain_of.ensures c.eq.ensures c.if-eq.true c.encode.ensures.exact

pub returns-else-eq-clause-exact : goal.returns-else-eq-clause-exact
returns-else-eq-clause-exact c = refused_from _ c.instruction_of-instruction.ensures c.plain_of.ensures c.eq.ensures c.if-eq.false
