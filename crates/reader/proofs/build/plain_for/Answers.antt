-- `reader::build::plain_for` meets its contract. Assumes nothing.
use Rattle.reader.proofs.Built.{bracket_is, literal_family}
use Rattle.reader.proofs.build.plain_for.Goals as goal

pub returns-then-s-eq0 : goal.returns-then-s-eq0
returns-then-s-eq0 c = bracket_is c.args.s c.args.op c.if-s-eq0.true c.tail_at.ensures c.bracketed_for.ensures

pub returns : goal.returns
returns c = literal_family c.args.s c.args.op c.if-s-eq0.false c.literal_for.ensures c.literal_from.ensures
