-- Every word is not of the set, undefined or allocated. Assumes nothing.
use Prim.Native.Nat.{ℕ}
use mathlib.Core.Path.{◌≡◌, refl}
use mathlib.Core.Bool.{Bool, true, false, ◌&&◌, not}
use mathlib.Core.List.{[], ◌∷◌}
use Rattle.bits.specs.Choice.{how_many}
use Rattle.instruction.specs.Table.{in_set, undefined, allocated}
use Rattle.instruction.proofs.Rows.{set_none, rowed}

-- undefined words are of the set
pub inside : (w : ℕ) → in_set w ≡ false → undefined w ≡ false
inside w e = (rowed w (set_none w e)).undefined_is

one_of : (s u : Bool) → (s ≡ false → u ≡ false) → how_many (not s ∷ u ∷ (s && not u) ∷ []) ≡ 1
one_of true true n = refl
one_of true false n = refl
one_of false true n = cc (n refl)
one_of false false n = refl

-- a word is exactly one of: not of the set, undefined, allocated
pub exactly_one : (w : ℕ) → how_many (not (in_set w) ∷ undefined w ∷ allocated w ∷ []) ≡ 1
unfolding allocated
exactly_one w = one_of (in_set w) (undefined w) (inside w)
