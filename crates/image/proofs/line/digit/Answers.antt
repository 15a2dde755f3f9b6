-- `image::line::digit` meets its contract: the value of each digit is computed. Assumes nothing.
use Rattle.std.proofs.Common.{arith}
use Rattle.image.proofs.Digits.{digit_none, digit_value}
use Rattle.image.proofs.line.digit.Goals as goal

pub returns-then-is_digit : goal.returns-then-is_digit
returns-then-is_digit c = digit_value c.args.c _ (omega arith) c.is_digit.ensures c.if-is_digit.true

pub returns-else-is_digit : goal.returns-else-is_digit
returns-else-is_digit c = digit_none c.args.c _ (omega arith) c.is_digit.ensures c.if-is_digit.false
