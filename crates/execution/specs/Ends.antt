-- What a run keeps, and how it ends: 01, "Memory, marks and the trace". Of any machine whose step takes a word.
use Rattle.std.specs.Prelude.{ℕ, ◌<◌, ◌≡◌, List, [], ◌∷◌, ◌⊎◌, length, take, get_or}
use Rattle.instruction.specs.Answers.{answer_number}
use Rattle.machine.specs.Step.{shown, Step, Outcome, leaves}
use Rattle.execution.specs.Walk.{Walked, walk_of, Log, logged, Result}

-- the first i words, run alone
abbrev pub alone : {A : Type 0} → (ℕ → A → Step A) → List ℕ → A → ℕ → Walked A
alone f ws m i = walk_of f (take i ws) m (shown 0 0 0)

-- what a run leaves is what the steps done leave, run alone, and none of those is refused
pub record Kept {A : Type 0} (f : ℕ → A → Step A) (ws : List ℕ) (m : A) (before : Log) (t : Result A) : Type 0 where
  pub machine : t.machine ≡ (alone f ws m t.steps).machine
  pub log : t.log ≡ logged 0 before (alone f ws m t.steps).done
  pub steps : t.steps ≡ length (alone f ws m t.steps).done
  pub done : answer_number (alone f ws m t.steps).answer ≡ 0

-- the step of the word at i, from the machine as the steps before left it
abbrev pub step_at : {A : Type 0} → (ℕ → A → Step A) → List ℕ → A → ℕ → Outcome A
step_at f ws m i = leaves (f (get_or ws i 0)) (alone f ws m i).machine

-- the last step tried is that of the word at i, and what is returned and left of it is this
abbrev pub Tried : {A : Type 0} → (ℕ → A → Step A) → List ℕ → A → ℕ → Outcome A → Type 0
Tried f ws m i o = (i < length ws) × (step_at f ws m i ≡ o)

-- every word is done, and the last step tried is that of the last word; an empty list has code and address 0
abbrev pub AllDone : {A : Type 0} → (ℕ → A → Step A) → List ℕ → A → Outcome A → Type 0
AllDone f [] m o = (o.machine ≡ m) × (o.shown ≡ shown 0 0 0)
AllDone f (w ∷ ws) m o = Tried f (w ∷ ws) m (length ws) o

-- every word is done and the answer is 0, or the word at the number of steps done is the one that is refused
abbrev pub Ends : {A : Type 0} → (ℕ → A → Step A) → List ℕ → A → ℕ → Outcome A → Type 0
Ends f ws m steps o =
    ((steps ≡ length ws) × (answer_number o.answer ≡ 0) × AllDone f ws m o)
    ⊎ (¬ (answer_number o.answer ≡ 0) × Tried f ws m steps o)

-- what a run says of the last step tried
abbrev pub last_of : {A : Type 0} → Result A → Outcome A
last_of t = record { machine = t.machine; answer = t.answer; shown = t.shown }

-- the answers that stop a run at its start, by their numbers
abbrev pub Early : ℕ → Type 0
Early number = (number ≡ 1) ⊎ (number ≡ 10)
