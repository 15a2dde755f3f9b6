-- `text::register::register` meets its contract. Assumes nothing.
use native.Mathlib.Omega.{arith}
use mathlib.Core.Path.{sym, ◌∙◌}
use Rattle.text.specs.Texts.{register_text}
use Rattle.text.proofs.Packing.{on}
use Rattle.text.proofs.register.register.Goals as goal

pub returns-then-is_zero : goal.returns-then-is_zero
unfolding register_text
returns-then-is_zero c = (rw (sym c.is_zero.ensures ∙ c.if-is_zero.true) (on (on c.led-then-is_zero-2.ensures c.led-then-is_zero.ensures) c.led.ensures), omega (arith, c.led-then-is_zero-2.ensures.longer, c.led-then-is_zero.ensures.longer, c.led.ensures.longer))

pub returns : goal.returns
unfolding register_text
returns c = (rw (sym c.is_zero.ensures ∙ c.if-is_zero.false) (on c.led-2.ensures c.numbered.ensures.0), omega (arith, c.led-2.ensures.longer, c.numbered.ensures.1))
