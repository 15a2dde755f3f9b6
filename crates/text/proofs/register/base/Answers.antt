-- `text::register::base` meets its contract. Assumes nothing.
use native.Mathlib.Omega.{arith}
use borrow.Author.Tests.{eq-eqb, ne_eqb}
use Rattle.text.specs.Texts.{base_text}
use Rattle.text.proofs.Packing.{on}
use Rattle.text.proofs.register.base.Goals as goal

pub returns-then-n-eq31 : goal.returns-then-n-eq31
unfolding base_text
returns-then-n-eq31 c = (simp (eq-eqb _ _ c.if-n-eq31.true) (on c.led-then-n-eq31.ensures c.led.ensures), omega (arith, c.led-then-n-eq31.ensures.longer, c.led.ensures.longer))

pub returns : goal.returns
unfolding base_text
returns c = (simp (ne_eqb _ _ c.if-n-eq31.false) (on c.led-2.ensures c.numbered.ensures.0), omega (arith, c.led-2.ensures.longer, c.numbered.ensures.1))
