-- `reader::read` meets its contract. Assumes nothing.
use native.Mathlib.Omega.{arith}
use Rattle.reader.proofs.Answers.{read_long, read_refused, read_defined, read_taken, read_other}
use Rattle.reader.proofs.read.Goals as goal

pub returns-then-text-gt-TEXT_MAX : goal.returns-then-text-gt-TEXT_MAX
returns-then-text-gt-TEXT_MAX c = read_long _ c.if-text-gt-TEXT_MAX.true

pub is_line-requires : goal.is_line-requires
is_line-requires c = read_defined c.args.text.now c.scan_text.ensures c.build.ensures c.in-Ok.ensures.exact

pub returns-in-Ok : goal.returns-in-Ok
returns-in-Ok c = read_taken c.args.text.now c.scan_text.ensures c.build.ensures c.in-Ok.ensures.exact c.is_line.ensures (omega arith) c.if-is_line.true

pub returns-in_default : goal.returns-in_default
returns-in_default c = read_other c.args.text.now c.scan_text.ensures c.build.ensures c.in-Ok.ensures.exact c.is_line.ensures c.if-is_line.false

pub returns-in_default-2 : goal.returns-in_default-2
returns-in_default-2 c = read_refused c.args.text.now c.scan_text.ensures c.build.ensures c.in_default.ensures.exact
