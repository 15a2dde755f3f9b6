-- `text::index::amount` meets its contract. Assumes nothing.
use Prim.Native.Nat.{ℕ, ◌+◌, ◌*◌}
use mathlib.Core.Path.{refl, ap}
use borrow.Author.Tests.{ne_eqb}
use Rattle.text.specs.route.Lines.{amount_part}
use Rattle.text.specs.Texts.{amount_text}
use Rattle.text.proofs.Forms.{amount_shown, bracket_shown}
use Rattle.text.proofs.index.amount.Goals as goal

pub returns-then-scaled-eq1 : goal.returns-then-scaled-eq1
unfolding amount_part amount_text
returns-then-scaled-eq1 c = rw c.if-scaled-eq1.true (amount_shown c.args.size c.requires (ap (λ (n : ℕ). 0x5d30_2320 + n * 0x1_0000) c.from.ensures) refl)

pub returns : goal.returns
unfolding amount_part amount_text
returns c = simp (ne_eqb _ _ c.if-scaled-eq1.false) (bracket_shown refl refl)
