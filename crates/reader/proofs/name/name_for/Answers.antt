-- `reader::name::name_for` meets its contract. Assumes nothing.
use Prim.Native.Nat.{ℕ, suc}
use mathlib.Core.Path.{◌≡◌, sym, ap, ◌∙◌}
use mathlib.Core.Bool.{true, false}
use native.Mathlib.Omega.{arith}
use Rattle.mnemonic.specs.route.Names.{name_at, name_count}
use Rattle.reader.specs.route.Names.{is_name, searched, name_for}
use Rattle.reader.proofs.name.name_for.Goals as goal

nowhere : (name letter : ℕ) {n : ℕ} → n ≡ 0 → searched n name letter ≡ name_at 0
unfolding searched
nowhere name letter e = rw e

module _ (name letter : ℕ) {n m : ℕ} (e : n ≡ suc m) where
  here : is_name (name_at m) name letter ≡ true → searched n name letter ≡ name_at m
  unfolding searched
  here h = rw (e, h)

  farther : is_name (name_at m) name letter ≡ false → searched n name letter ≡ searched m name letter
  unfolding searched
  farther h = rw (e, h)

pub returns-then-is_name : goal.returns-then-is_name
unfolding name_for
returns-then-is_name c =
    let loop = c.loop-number in
    let letter = c.letter_for-letter in
    let name = c.args.name in
    c.name_at.ensures ∙ sym (here name letter.result (omega (arith, c.loop-number-test.true)) (sym c.is_name.ensures ∙ c.if-is_name.true))
    ∙ loop.invariant ∙ ap (searched name_count name) letter.ensures

pub loop-number-preserved : goal.loop-number-preserved
loop-number-preserved c =
    let letter = c.letter_for-letter in
    sym (farther c.args.name letter.result (omega (arith, c.loop-number-test.true)) (sym c.is_name.ensures ∙ c.if-is_name.false)) ∙ c.loop-number.invariant

pub returns : goal.returns
unfolding name_for
returns c =
    let letter = c.letter_for-letter in
    let name = c.args.name in
    c.name_at-2.ensures ∙ sym (nowhere name letter.result (omega (arith, c.loop-number-test.false))) ∙ c.loop-number.invariant ∙ ap (searched name_count name) letter.ensures
