-- `text::hint::front` meets its contract. Assumes nothing.
use mathlib.Core.Path.{refl, sym, ◌∙◌}
use Rattle.text.specs.Hints.{hint_text}
use Rattle.text.proofs.Packing.{on, spelled, comma}
use Rattle.text.proofs.Hinted.{front_named}
use Rattle.text.proofs.hint.front.Goals as goal

pub returns-then-is_unnamed : goal.returns-then-is_unnamed
unfolding hint_text
returns-then-is_unnamed c =
    let u = sym c.is_unnamed.ensures ∙ c.if-is_unnamed.true in
    rw u (spelled (on c.led-then-is_unnamed.ensures (on c.led.ensures c.numbered.ensures.0)) (comma refl refl))

pub returns : goal.returns
unfolding hint_text
returns c =
    let u = sym c.is_unnamed.ensures ∙ c.if-is_unnamed.false in
    front_named _ c.requires u (rw (c.kind.ensures.0, c.from.ensures) refl) refl
