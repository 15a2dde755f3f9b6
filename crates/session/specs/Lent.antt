-- A record that is lent to a step, and to setting one register, is left as the forms by value return it: 02, CR 9.
use Rattle.std.specs.Prelude.{ℕ, ◌≡◌, List, length}
use Rattle.instruction.specs.declared.answer.Answer.{Answer}
use Rattle.instruction.specs.Answers.{answer_number}
use Rattle.registers.specs.declared.Registers.{Registers}
use Rattle.registers.specs.File.{set_at}
use Rattle.vectors.specs.File.{files_after, taints_after, Held}
use Rattle.plan.specs.declared.window.Window.{Window}
use Rattle.machine.specs.Machine.{Machine, machine_of}
use Rattle.machine.specs.Step.{Outcome, leaves}
use Rattle.machine.specs.declared.State.{State}
use Rattle.machine.specs.declared.Shown.{Shown}
use Rattle.machine.specs.declared.Stepped.{Stepped}
use Rattle.arm.specs.Choices.{arm_step}
use Rattle.session.specs.declared.StepReply.{StepReply}

-- all that a step returns and leaves: the record, the vector registers and their marks, memory and taint bytes are a machine
pub record Lent : Type 0 where
  pub machine : Machine
  pub reply : StepReply

abbrev pub lent_outcome : State → StepReply → List (List ℕ) → List (List ℕ) → List ℕ → List ℕ → Lent
lent_outcome s r vectors vector_taint memory taint = record { machine = machine_of s vectors vector_taint memory taint; reply = r }

-- what code holds: thirty-two registers of each kind, and as many numbers of marks
pub record Holding (s : State) (vectors vector_taint : List (List ℕ)) : Type 0 where
  pub values : length s.registers.value ≡ 32
  pub taints : length s.registers.taint ≡ 32
  pub vectors_held : Held vectors
  pub vector_taint_held : Held vector_taint

-- an answer crosses as its number
abbrev pub reply_of : Answer → Shown → StepReply
reply_of answer shown = record { answer = answer_number answer; code = shown.code; address = shown.address; status = shown.status }

abbrev pub lent_of : Outcome Machine → Lent
lent_of o = record { machine = o.machine; reply = reply_of o.answer o.shown }

-- what the step by value leaves and says
abbrev pub lent_step : Window → ℕ → State → List (List ℕ) → List (List ℕ) → List ℕ → List ℕ → Lent
lent_step w word s vectors vector_taint memory taint = lent_of (leaves (arm_step w word) (machine_of s vectors vector_taint memory taint))

-- what is left in place, with what a step by value returns and leaves: the record, both files, memory and its marks, and what is said
pub record LeftAs (after : State) (r : Stepped) (vs us vs' us' : List (List ℕ)) (m k m' k' : List ℕ) (reply : StepReply) : Type 0 where
  pub state : after ≡ r.state
  pub vectors : vs' ≡ files_after r.vectors vs
  pub vector_taint : us' ≡ taints_after r.vectors us
  pub memory : m' ≡ m
  pub taint : k' ≡ k
  pub says : reply ≡ reply_of r.answer r.shown

-- the record with another file
abbrev pub with_file : Registers → State → State
with_file file s = record { registers = file; pc = s.pc; monitor = s.monitor }

-- 01: "the whole file with one register changed, value and mark"; a mark for each byte (02, CR 13), of which any but 0 is one
unfoldable pub with_register : ℕ → ℕ → ℕ → State → State
with_register n value marks s = with_file (set_at s.registers n value marks) s
