-- `printer::store::put_in_room` meets its contract. Assumes nothing.
use native.Mathlib.Omega.{arith}
use Rattle.printer.proofs.Spilling.{restored, whole_length}
use Rattle.printer.proofs.store.put_in_room.Goals as goal

pub returns : goal.returns
returns c =
    let e = c.total.ensures.0 in
    restored _ c.spill_pieces.ensures (omega (arith, e, whole_length c.args.p)) (omega (arith, e, c.requires)) c.eight_at-behind.ensures.are c.put_number.ensures
