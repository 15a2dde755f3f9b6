-- Choices: by a test, and by a table; whether something passes a test, and how many of some tests hold.
use Rattle.std.specs.Prelude.{ℕ, suc, Bool, true, false, ◌||◌, List, [], ◌∷◌, map, ◌==◌}

-- a where the test holds, else b
abbrev pub pick : {A : Type 0} → Bool → A → A → A
pick true a b = a
pick false a b = b

-- the first entry of a table that has the key, or d
abbrev pub lookup : {A : Type 0} → A → List (ℕ × A) → ℕ → A
lookup d [] k = d
lookup d (e ∷ es) k = pick (k == e.0) e.1 (lookup d es k)

-- a table of some things by their codes
abbrev pub by_code : {A : Type 0} → (A → ℕ) → List A → List (ℕ × A)
by_code code things = map (λ a. (code a, a)) things

-- one of a list passes the test
abbrev pub any : {A : Type 0} → (A → Bool) → List A → Bool
any p [] = false
any p (x ∷ xs) = p x || any p xs

abbrev pub how_many : List Bool → ℕ
how_many [] = 0
how_many (true ∷ bs) = suc (how_many bs)
how_many (false ∷ bs) = how_many bs
