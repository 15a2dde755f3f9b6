-- Answer 17: 02, CR 8. A trace and statuses that no run can have left.
use Rattle.std.specs.Prelude.{ℕ, zero, suc, Bool, true, false, not, List, length, ◌==◌, nat_lt, slice_index}
use Rattle.bits.specs.Choice.{pick}
use Rattle.instruction.specs.declared.answer.Answer.{Answer}
use Rattle.instruction.specs.Answers.{answer_number}
use Rattle.decoder.specs.Decoding.{class_of}
use Rattle.access.specs.declared.Access.{Access}
use Rattle.access.specs.declared.Access.TheVariants.{Nothing, Moves}
use Rattle.access.specs.Accesses.{word_access}
use Rattle.plan.specs.declared.window.Window.{Window}
use Rattle.plan.specs.Refusals.{answer_in}
use Rattle.plan.specs.Admission.{admit_of}
use Rattle.machine.specs.declared.Shown.{Shown}
use Rattle.machine.specs.Machine.{code_of}
use Rattle.execution.specs.Walk.{Log, shown_at, too_short}

abbrev pub is_refused : Answer → Bool
is_refused answer = not (answer_number answer == 0)

-- "a code not the word's", "a prefetch address not 0, or another address that would be 6 (SP's test aside), 7 or 8"
abbrev pub wrong_access : Window → ℕ → Access → ℕ → ℕ → Bool
wrong_access w len Nothing code address = pick (code == 0) (not (address == 0)) true
wrong_access w len (Moves t a) code address =
    pick (code == code_of t) (is_refused (answer_in (admit_of w len t address))) true

-- "a word of answer 2, 3 or 4", "a status not 0 or 1"
unfoldable pub wrong_step : Window → ℕ → ℕ → Shown → Bool
wrong_step w len word s =
    pick (is_refused (class_of word)) true
    (pick (nat_lt 1 s.status) true
    (wrong_access w len (word_access word) s.code s.address))

unfoldable pub some_step : (ℕ → Bool) → ℕ → Bool
some_step f zero = false
some_step f (suc n) = pick (f n) true (some_step f n)

abbrev pub wrong_at : Window → ℕ → List ℕ → Log → ℕ → Bool
wrong_at w len ws l j = wrong_step w len (slice_index ws j) (shown_at l j)

-- "if words, statuses or trace fall short of the steps, or some step" is wrong, also one after the one asked about
unfoldable pub wrong_trace : Window → ℕ → List ℕ → Log → ℕ → Bool
wrong_trace w len ws l steps =
    pick (nat_lt (length ws) steps) true
    (pick (too_short steps (length l.trace) (length l.statuses)) true
    (some_step (wrong_at w len ws l) steps))
