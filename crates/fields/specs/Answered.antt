-- How cases are answered one after the other. Which bytes their heads have is the system's to say.
use Rattle.std.specs.Prelude.{ℕ, ◌+◌, ◌≡◌, ◌⊎◌, List, length, Result, Ok, Err}
use Prim.{Unit}
use denote.Ref.{Bor}
use Rattle.std.specs.List.{FoldsTo}
use Rattle.fields.specs.declared.cases.Halt.{Halt}

-- a case was answered, by its number and its whole head, and the next number is one more
abbrev pub AnswerStep : {F : Type 0} → ℕ → (F → ℕ → Bor (List ℕ) → Result (Unit {0}) Halt → F → Type 0) → F × ℕ → Bor (List ℕ) → F × ℕ → Type 0
AnswerStep size step p head q = (length head.now ≡ size) × step p.0 p.1 head (Ok tt) q.0 × (q.1 ≡ p.1 + 1)

-- so were all from 0 on; or there was one more, which was refused
abbrev pub Answered : {F : Type 0} → ℕ → (F → ℕ → Bor (List ℕ) → Result (Unit {0}) Halt → F → Type 0) → F → F → Type 0
Answered size step first last =
    (heads : List (Bor (List ℕ))) × (p : _ × ℕ) × FoldsTo (AnswerStep size step) (first, 0) heads p × ((p.0 ≡ last) ⊎ ((head : Bor (List ℕ)) × (halt : Halt) × (length head.now ≡ size) × step p.0 p.1 head (Err halt) last))
