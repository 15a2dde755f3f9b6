-- `text::piece::Piece::led` meets its contract. Assumes nothing.
use Prim.Native.Nat.{ℕ, ◌+◌, ◌*◌}
use mathlib.Core.Path.{refl, ap}
use native.Mathlib.Omega.{arith}
use borrow.Author.Rules.{rules}
use Rattle.text.proofs.Packing.{room, led_is, led_low}
use Rattle.text.proofs.piece.Piece.led.Goals as goal

pub overflow_mul-result : goal.overflow_mul-result
overflow_mul-result c = omega (arith, room c.args.self c.requires)

pub overflow_add-result : goal.overflow_add-result
overflow_add-result c = omega (arith, room c.args.self c.requires)

pub invariant_of-result-clause-low : goal.invariant_of-result-clause-low
invariant_of-result-clause-low c = led_low c.from.result c.args.self (search rules)

pub returns : goal.returns
returns c = led_is _ c.args.self _ (search rules) (ap (λ (b : ℕ). b + c.args.self.bytes * 256) c.from.ensures) refl
