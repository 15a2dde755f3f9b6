-- `ascii::piece::put_decimal` calls itself with a digit fewer.
use Rattle.ascii.proofs.piece.+put_decimal.Given as goal

abbrev pub decreases-put_decimal : goal.decreases-put_decimal
decreases-put_decimal l = l.n
