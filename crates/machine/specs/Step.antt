-- One step: 01, "Memory, marks and the trace" and "Answer numbers". The first refusal that holds is given.
use Rattle.std.specs.Prelude.{ℕ, ◌-◌, List}
use Rattle.instruction.specs.declared.answer.Answer.{Answer}
use Rattle.instruction.specs.declared.answer.Answer.TheVariants.{Done}
use Rattle.access.specs.declared.transfer.Transfer.{Transfer}
use Rattle.access.specs.declared.Access.{Access}
use Rattle.access.specs.declared.Access.TheVariants.{Nothing, Moves}
use Rattle.access.specs.Accesses.{word_access}
use Rattle.vectors.specs.File.{files_after, taints_after}
use Rattle.plan.specs.declared.window.Window.{Window}
use Rattle.plan.specs.declared.ranges.Reach.{Reach}
use Rattle.plan.specs.declared.ranges.Reach.TheVariants.{Alone}
use Rattle.plan.specs.Address.{sum_of, address_of}
use Rattle.plan.specs.Refusals.{first_of}
use Rattle.machine.specs.Monitor.{status_of, monitor_after, written_back, made_of}
use Rattle.machine.specs.Machine.{Machine, machine_of, operands_of, passed_over, effect_of, code_of}
use Rattle.machine.specs.Refusals.{refusals_in}
use Rattle.machine.specs.declared.Shown.{Shown}
use Rattle.machine.specs.declared.Stepped.{Stepped}

abbrev pub shown : ℕ → ℕ → ℕ → Shown
shown code address status = record { code = code; address = address; status = status }

-- a step stops with an answer and an address, or moves to a machine and shows a code, an address and a status
pub data Step (A : Type 0) : Type 0 where
  stopped : Answer → ℕ → Step A
  moved : A → Shown → Step A

-- an access at an address, in memory that begins at origin. 02, CR 3: the monitor is looked at when all tests are passed,
-- and "the trace shows a failed store like a successful one"
abbrev pub touch_of : ℕ → Transfer → ℕ → ℕ → ℕ → Machine → Step Machine
touch_of origin t written address sum m =
    let status = status_of t address m.monitor in
    moved (effect_of (made_of t status) written (address - origin) (written_back t status sum) (monitor_after t address m.monitor) m) (shown (code_of t) address status)

-- an access that is not refused
abbrev pub perform_of : ℕ → Access → Machine → Step Machine
perform_of origin Nothing m = moved (passed_over m) (shown 0 0 0)
perform_of origin (Moves t a) m = touch_of origin t a.written (address_of a (operands_of a m)) (sum_of a (operands_of a m)) m

unfoldable pub step_in : Window → Reach → ℕ → Machine → Step Machine
step_in w reach word m = first_of stopped (perform_of w.origin (word_access word) m) (refusals_in w reach word m)

-- the step of a plugin alone
abbrev pub step_of : Window → ℕ → Machine → Step Machine
step_of w = step_in w Alone

-- all that a step returns and leaves; a step that stops leaves the machine as it was
pub record Outcome (A : Type 0) : Type 0 where
  pub machine : A
  pub answer : Answer
  pub shown : Shown

-- the vector registers that were handed in, with what the step wrote to them
abbrev pub outcome : Stepped → List (List ℕ) → List (List ℕ) → List ℕ → List ℕ → Outcome Machine
outcome r vectors vector_taint memory taint = record { machine = machine_of r.state (files_after r.vectors vectors) (taints_after r.vectors vector_taint) memory taint; answer = r.answer; shown = r.shown }

abbrev pub performed : {A : Type 0} → A → Step A → Outcome A
performed m (stopped answer address) = record { machine = m; answer = answer; shown = shown 0 address 0 }
performed m (moved n s) = record { machine = n; answer = Done; shown = s }

-- what a machine comes to by a step
abbrev pub leaves : {A : Type 0} → (A → Step A) → A → Outcome A
leaves f m = performed m (f m)
