-- Refusals: an answer, when it is given, and the address that it reports. They stand in one list, in the order in which
-- they are tested, and the first that holds decides.
use Rattle.std.specs.Prelude.{◌≡◌, ℕ, Bool, true, false, ◌⊎◌, List, [], ◌∷◌, Result, Ok, Err}
use Rattle.bits.specs.Choice.{pick}
use Rattle.instruction.specs.declared.answer.Answer.{Answer}
use Rattle.instruction.specs.declared.answer.Answer.TheVariants.{Done}
use Rattle.instruction.specs.Answers.{answer_number}

pub record Refusal : Type 0 where
  pub answer : Answer
  pub holds : Bool
  pub address : ℕ

abbrev pub refusal : Answer → Bool → ℕ → Refusal
refusal answer holds address = record { answer = answer; holds = holds; address = address }

-- what the first refusal that holds comes to, and `done` where none does
abbrev pub first_of : {A : Type 0} → (Answer → ℕ → A) → A → List Refusal → A
first_of refuse done [] = done
first_of refuse done (e ∷ es) = pick e.holds (refuse e.answer e.address) (first_of refuse done es)

abbrev pub answer_in : List Refusal → Answer
answer_in es = first_of (λ answer address. answer) Done es

-- the same as a function returns it: what is refused is an error, with its answer
abbrev pub verdict_in : List Refusal → Result (Unit {0}) Answer
verdict_in es = first_of (λ answer address. Err answer) (Ok tt) es

-- a refusal with this number holds, and none before it does
abbrev pub Given : ℕ → List Refusal → Type 0
Given n [] = ⊥
Given n (e ∷ es) = ((e.holds ≡ true) × (answer_number e.answer ≡ n)) ⊎ ((e.holds ≡ false) × Given n es)
