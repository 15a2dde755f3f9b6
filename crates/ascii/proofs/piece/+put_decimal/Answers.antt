-- `ascii::piece::put_decimal` meets its contract: each call puts one digit fewer. Assumes nothing.
use native.Mathlib.Omega.{arith}
use Rattle.ascii.proofs.Pieces.{after}
use Rattle.ascii.proofs.Decimals.{dec_more}
use Rattle.ascii.proofs.piece.+put_decimal.Goals as goal

pub returns-in_default : goal.returns-in_default
returns-in_default t c =
    rw (dec_more c.args.n (omega arith) (omega arith)) (after c.put_decimal-next.ensures (rw c.digit-in_default.ensures at c.put_byte-in_default.ensures))
