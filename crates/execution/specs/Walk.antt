-- A run of any machine whose step takes a word: a step for each word, up to the first refusal. 01, "Memory, marks
-- and the trace", and 02, CR 8, on statuses.
use Rattle.std.specs.Prelude.{ℕ, zero, suc, ◌+◌, ◌*◌, Bool, true, List, [], ◌∷◌, ltb, length, get_or}
use Rattle.std.proofs.lemmas.List.Edits.{sets}
use Rattle.bits.specs.Choice.{pick}
use Rattle.instruction.specs.declared.answer.Answer.{Answer}
use Rattle.instruction.specs.declared.answer.Answer.TheVariants.{Done, BadWindow, NoRoom}
use Rattle.machine.specs.declared.Shown.{Shown}
use Rattle.machine.specs.Step.{shown, Step, stopped, moved}

-- what each step done showed, and the answer of the last step tried and what it shows
pub record Walked (A : Type 0) : Type 0 where
  pub machine : A
  pub done : List Shown
  pub answer : Answer
  pub shown : Shown

abbrev pub halted : {A : Type 0} → A → Answer → Shown → Walked A
halted m answer s = record { machine = m; done = []; answer = answer; shown = s }

abbrev pub ahead : {A : Type 0} → Shown → Walked A → Walked A
ahead s t = record { machine = t.machine; done = s ∷ t.done; answer = t.answer; shown = t.shown }

-- a step, and what the further words do after it
abbrev pub go_on : {A : Type 0} → A → (A → Shown → Walked A) → Step A → Walked A
go_on m rest (stopped answer address) = halted m answer (shown 0 address 0)
go_on m rest (moved n s) = ahead s (rest n s)

-- with what the step before showed
unfoldable pub walk_of : {A : Type 0} → (ℕ → A → Step A) → List ℕ → A → Shown → Walked A
walk_of f [] m last = halted m Done last
walk_of f (w ∷ ws) m last = go_on m (walk_of f ws) (f w m)

-- the trace: the code and the address of each step
abbrev pub numbers_of : List Shown → List ℕ
numbers_of [] = []
numbers_of (s ∷ ss) = s.code ∷ s.address ∷ numbers_of ss

-- the statuses: one of each step, 0 for words that have none
abbrev pub statuses_of : List Shown → List ℕ
statuses_of [] = []
statuses_of (s ∷ ss) = s.status ∷ statuses_of ss

-- what is lent to a run, and written for the steps done
pub record Log : Type 0 where
  pub trace : List ℕ
  pub statuses : List ℕ

abbrev pub log : List ℕ → List ℕ → Log
log trace statuses = record { trace = trace; statuses = statuses }

-- with what steps from the one at i on have shown; the rest stays
abbrev pub logged : ℕ → Log → List Shown → Log
logged i l ss = log (sets l.trace (i * 2) (numbers_of ss)) (sets l.statuses i (statuses_of ss))

-- all that a run returns and leaves
pub record Result (A : Type 0) : Type 0 where
  pub machine : A
  pub log : Log
  pub steps : ℕ
  pub answer : Answer
  pub shown : Shown

-- what i steps before and then a walk leave, with a log that holds what those i steps showed
abbrev pub glue : {A : Type 0} → ℕ → Log → Walked A → Result A
glue i l t = record { machine = t.machine; log = logged i l t.done; steps = i + length t.done; answer = t.answer; shown = t.shown }

abbrev pub not_begun : {A : Type 0} → Answer → A → Log → Result A
not_begun answer m l = record { machine = m; log = l; steps = 0; answer = answer; shown = shown 0 0 0 }

-- 10: a trace shorter than two numbers a word, or a list of statuses shorter than the words
unfoldable pub too_short : ℕ → ℕ → ℕ → Bool
too_short words trace statuses = pick (ltb trace (words * 2)) true (ltb statuses words)

abbrev pub short : List ℕ → Log → Bool
short ws l = too_short (length ws) (length l.trace) (length l.statuses)

-- 1, then 10, then the steps
unfoldable pub run_of : {A : Type 0} → (A → Bool) → (ℕ → A → Step A) → List ℕ → A → Log → Result A
run_of bad f ws m l = pick (bad m) (not_begun BadWindow m l) (pick (short ws l) (not_begun NoRoom m l) (glue 0 l (walk_of f ws m (shown 0 0 0))))

-- what a log holds of the step at j
abbrev pub shown_at : Log → ℕ → Shown
shown_at l j = shown (get_or l.trace (j * 2) 0) (get_or l.trace (j * 2 + 1) 0) (get_or l.statuses j 0)

-- a rule applied in order to the word of each of the first steps and to what it showed, by a log
unfoldable pub after_steps : {B : Type 0} → (ℕ → Shown → B → B) → List ℕ → Log → ℕ → B → B
after_steps rule ws l zero b = b
after_steps rule ws l (suc j) b = rule (get_or ws j 0) (shown_at l j) (after_steps rule ws l j b)
