-- How a byte is related to another by their taint: for demand 3, and for its other half (02, CR 13).
use Rattle.std.specs.Prelude.{ℕ, ◌≡◌, Bool, true, false}

-- "equal values in every unmarked register and byte"
abbrev pub Secret : Bool → ℕ → ℕ → Type 0
Secret true a b = Unit {0}
Secret false a b = a ≡ b

-- "fill every marked starting byte with 0 in one run and 255 in another, else alike"
abbrev pub Opposed : Bool → ℕ → ℕ → Type 0
Opposed true a b = (a ≡ 0) × (b ≡ 255)
Opposed false a b = a ≡ b
