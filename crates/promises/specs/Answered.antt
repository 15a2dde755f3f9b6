-- What "get an answer" means: for every input there is exactly one result, and its answer is one of 01's table. And what refusals say
-- that several calls have.
use Rattle.std.specs.Prelude.{ℕ, ◌+◌, ◌^◌, ◌<◌, ◌≡◌, Bool, true, false, List, [], ◌∷◌, ◌⊎◌, eqb}
use Rattle.bits.specs.Choice.{pick}
use Rattle.plan.specs.declared.window.Window.{Window}

abbrev pub one_of : List ℕ → ℕ → Bool
one_of [] n = false
one_of (k ∷ ks) n = pick (eqb n k) true (one_of ks n)

-- of each of some numbers
abbrev pub Each : (ℕ → Type 0) → List ℕ → Type 0
Each P [] = Unit {0}
Each P (n ∷ ns) = P n × Each P ns

-- `allows` is what is promised of a result, and `numbers` are the answers that can be given
pub record Answered {R : Type 0} (allows : R → Type 0) (number : R → ℕ) (numbers : List ℕ) : Type 0 where
  pub some : (r : R) × allows r
  pub one : (r s : R) → allows r → allows s → r ≡ s
  pub answer : (r : R) → allows r → one_of numbers (number r) ≡ true

-- a result that a definition gives
abbrev pub Is : {R : Type 0} → R → R → Type 0
Is x r = r ≡ x

-- refusals in their order: n is k where the first of them holds, else what those behind it say
abbrev pub First : ℕ → ℕ → Type 0 → Type 0 → Type 0
First n k holds behind = (holds × (n ≡ k)) ⊎ ((¬ holds) × behind)

-- "1 for window or mark length": memory ends above the addresses, the read-only part is longer, or there isn't one mark for each byte
abbrev pub WrongLent : Window → ℕ → ℕ → Type 0
WrongLent w len marks = (2 ^ 64 < w.origin + len) ⊎ ((len < w.readonly) ⊎ (¬ (marks ≡ len)))
