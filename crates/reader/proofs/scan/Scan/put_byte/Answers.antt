-- `reader::scan::Scan::put_byte` meets its contract. Assumes nothing.
use Rattle.reader.proofs.Words.{key_set}
use Rattle.reader.proofs.scan.Scan.put_byte.Goals as goal

pub returns : goal.returns
returns c = key_set c.args.self.now c.args.byte c.from.ensures
