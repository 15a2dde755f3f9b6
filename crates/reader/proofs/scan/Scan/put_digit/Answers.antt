-- `reader::scan::Scan::put_digit` meets its contract. Assumes nothing.
use Rattle.reader.proofs.Words.{num_set}
use Rattle.reader.proofs.scan.Scan.put_digit.Goals as goal

pub returns : goal.returns
returns c = num_set c.args.self.now c.args.digit c.from.ensures
