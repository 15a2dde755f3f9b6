-- The law of an array that a closure makes which keeps its state.
use Rattle.std.proofs.Common.{ℕ, zero, suc, ◌+◌, ◌≤◌, ◌<◌, ◌≡◌, List, slice_index, arith, subst, ◌∙◌}
use native.Mathlib.Decide.{dec_lt}
use Prim.{Unit}
use denote.Param.Members.{Mut}
use Rattle.std.specs.Fn.{Called}
use Rattle.std.specs.Array.{IsFromFnResultFrom}

module _ {F : Type 0} (g : Mut F (ℕ × Unit {0}) ℕ) (of : ℕ → ℕ) (f : F) (keeps : (i y : ℕ) (q : F) → Called g f (i, tt) y q → (q ≡ f) × (y ≡ of i)) where
  -- each of the n elements from i on is what the closure gives for its index
  pub made : (ys : List ℕ) (i n k : ℕ) → IsFromFnResultFrom g f ys i n → i ≤ k → k < i + n → slice_index ys k ≡ of k
  made ys i zero k e low high = absurd (omega arith)
  made ys i (suc n) k e low high = by_index (dec_lt i k) (λ later. made ys (i + 1) n k (subst (λ q. IsFromFnResultFrom g q ys (i + 1) n) kept.0 e.4) (omega (arith, later)) (omega (arith, high)))
    where
      kept : (e.0 ≡ f) × (e.1 ≡ of i)
      kept = keeps i e.1 e.0 e.3

      by_index : Dec (i < k) → (i < k → slice_index ys k ≡ of k) → slice_index ys k ≡ of k
      by_index (yes later) rest = rest later
      by_index (no not_later) rest =
          let here : i ≡ k = omega arith in
          subst (λ j. slice_index ys j ≡ of j) here (e.2.1 0 ∙ kept.1)
