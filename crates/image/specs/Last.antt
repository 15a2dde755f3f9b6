-- What the bytes of a text say of one address.
use Rattle.std.specs.Prelude.{ℕ, ◌≡◌, Bool, true, false, List, [], ◌∷◌, ◌++◌, eqb}
use Rattle.bits.specs.Choice.{pick}

-- a byte with an address is there
abbrev pub named : ℕ → List (ℕ × ℕ) → Bool
named a [] = false
named a (p ∷ ps) = pick (eqb p.0 a) true (named a ps)

-- b is the last byte with address a
pub record LastIs (a : ℕ) (ps : List (ℕ × ℕ)) (b : ℕ) : Type 0 where
  pub before : List (ℕ × ℕ)
  pub after : List (ℕ × ℕ)
  pub there : ps ≡ before ++ ((a, b) ∷ after)
  pub last : named a after ≡ false
