-- A step in two halves: what the first decides, and what the second sets of it. What a step does is said in Step.antt;
-- this is how the two halves come to it.
use Rattle.std.specs.Prelude.{◌≡◌, ℕ, ◌+◌, ◌-◌, min, Bool, List, map, length, Result, Ok, Err}
use Rattle.bits.specs.Choice.{pick}
use Rattle.bits.specs.Bytes.{joined, span_of}
use Rattle.bits.specs.Extension.{extended_of}
use Rattle.memory.specs.Taints.{normal}
use Rattle.memory.specs.Sources.{loaded_taint}
use Rattle.registers.specs.declared.Registers.{Registers}
use Rattle.registers.specs.File.{set_at}
use Rattle.vectors.specs.declared.Halves.{Halves}
use Rattle.vectors.specs.declared.VectorWrite.{VectorWrite}
use Rattle.vectors.specs.declared.VectorWrites.{VectorWrites}
use Rattle.vectors.specs.File.{files_after, taints_after, no_writes, vector_slot}
use Rattle.instruction.specs.declared.answer.Answer.TheVariants.{Done}
use Rattle.access.specs.declared.transfer.Transfer.{Transfer}
use Rattle.machine.specs.Machine.{Machine, machine_of, next_pc}
use Rattle.machine.specs.Step.{Step, stopped, moved, shown}
use Rattle.machine.specs.declared.monitor.Monitor.{Monitor}
use Rattle.machine.specs.declared.State.{State}
use Rattle.machine.specs.declared.Shown.{Shown}
use Rattle.machine.specs.declared.Stepped.{Stepped}
use Rattle.machine.specs.declared.Effect.{Effect}
use Rattle.machine.specs.declared.Effect.TheVariants.{Passed, Wrote, Vectors}
use Rattle.plan.specs.declared.Refusal.{Refusal}
use Rattle.machine.specs.declared.effects.Writes.{Writes}

-- the state whose register file is lent as two arrays
abbrev pub state_of : List ℕ → List ℕ → ℕ → Monitor → State
state_of values tainted pc monitor = record { registers = record { value = values; taint = tainted }; pc = pc; monitor = monitor }

-- thirty-two of each: what the two arrays of a register file, the vector registers and their marks have
pub record Full (v u : List ℕ) (x k : List (List ℕ)) : Type 0 where
  pub values : length v ≡ 32
  pub taints : length u ≡ 32
  pub vectors : length x ≡ 32
  pub vector_taints : length k ≡ 32

-- ---- what is set

abbrev pub written_of : Writes → Registers → Registers
written_of w file = set_at (set_at (set_at file w.base w.next 0) w.first w.value w.taint) w.second w.value2 w.taint2

-- the base alone: setting it again changes nothing
abbrev pub based_of : ℕ → ℕ → Monitor → Writes
based_of base next monitor =
    record { base = base; next = next; first = base; value = next; taint = 0; second = base; value2 = next; taint2 = 0; monitor = monitor }

-- a load at an index
abbrev pub loads_of : Transfer → ℕ → ℕ → Monitor → ℕ → List ℕ → List ℕ → Writes
loads_of t base next monitor at m k =
    record {
      base = base;
      next = next;
      first = t.target;
      value = extended_of t.bytes t.extent (joined (span_of m at t.bytes));
      taint = loaded_taint at t.bytes t.extent k;
      second = t.second;
      value2 = extended_of t.more t.extent (joined (span_of m (at + t.bytes) t.more));
      taint2 = loaded_taint (at + t.bytes) t.more t.extent k;
      monitor = monitor;
    }

-- the two halves of n bytes at an index, of memory or of its taints: what they don't fill is 0
abbrev pub halves_in : List ℕ → ℕ → ℕ → Halves
halves_in m at n = record { low = joined (span_of m at (min n 8)); high = joined (span_of m (at + 8) (n - 8)) }

-- what n bytes at an index fill of a vector register
abbrev pub fill_of : ℕ → ℕ → ℕ → List ℕ → List ℕ → VectorWrite
fill_of number n at m k = record { number = number; value = halves_in m at n; taint = halves_in (map normal k) at n }

-- a load of vector registers at an index
abbrev pub fills_of : Transfer → ℕ → List ℕ → List ℕ → VectorWrites
fills_of t at m k = record { first = fill_of (t.target - 32) t.bytes at m k; second = fill_of (t.second - 32) t.more (at + t.bytes) m k }

-- ---- what an access that is made decides

-- a store, by whether it leaves anything to set
abbrev pub after_store : Bool → ℕ → ℕ → Shown → Monitor → Effect
after_store more written next shown monitor = pick more (Wrote shown (based_of written next monitor)) (Passed shown)

-- a load at an index
abbrev pub after_load : Transfer → ℕ → ℕ → ℕ → Shown → Monitor → List ℕ → List ℕ → Effect
after_load t written at next shown monitor m k =
    pick (vector_slot t.target) (Vectors shown (based_of written next monitor) (fills_of t at m k)) (Wrote shown (loads_of t written next monitor at m k))

-- ---- the state after the second half

-- no register is set
abbrev pub passed_on : State → State
passed_on s = record { registers = s.registers; pc = next_pc s.pc; monitor = s.monitor }

abbrev pub settled_of : Writes → State → State
settled_of w s = record { registers = written_of w s.registers; pc = next_pc s.pc; monitor = w.monitor }

-- what a step returns of a decision
abbrev pub completed_of : State → Result Effect Refusal → Stepped
completed_of s (Err r) = record { state = s; answer = r.answer; shown = shown 0 r.address 0; vectors = no_writes }
completed_of s (Ok (Passed shown)) = record { state = passed_on s; answer = Done; shown = shown; vectors = no_writes }
completed_of s (Ok (Wrote shown w)) = record { state = settled_of w s; answer = Done; shown = shown; vectors = no_writes }
completed_of s (Ok (Vectors shown w x)) = record { state = settled_of w s; answer = Done; shown = shown; vectors = x }

-- ---- both halves

-- a step, and the machine after it
pub record Ended : Type 0 where
  pub step : Step Machine
  pub machine : Machine

abbrev pub ended : Machine → Step Machine → Ended
ended m (stopped answer address) = record { step = stopped answer address; machine = m }
ended m (moved n s) = record { step = moved n s; machine = n }

abbrev pub ends : (Machine → Step Machine) → Machine → Ended
ends f m = ended m (f m)

abbrev pub moved_to : Machine → Shown → Ended
moved_to m shown = record { step = moved m shown; machine = m }

-- what a decision comes to with the second half, and with the memory and the taint bytes that the first has left
abbrev pub told : State → List (List ℕ) → List (List ℕ) → Result Effect Refusal → List ℕ → List ℕ → Ended
told s vectors vector_taint (Err r) memory taint = record { step = stopped r.answer r.address; machine = machine_of s vectors vector_taint memory taint }
told s vectors vector_taint (Ok (Passed shown)) memory taint = moved_to (machine_of (passed_on s) vectors vector_taint memory taint) shown
told s vectors vector_taint (Ok (Wrote shown w)) memory taint = moved_to (machine_of (settled_of w s) vectors vector_taint memory taint) shown
told s vectors vector_taint (Ok (Vectors shown w x)) memory taint = moved_to (machine_of (settled_of w s) (files_after x vectors) (taints_after x vector_taint) memory taint) shown

-- the contract of the first half: its decision, with the memory and the taint bytes that it leaves, comes to a step of the machine
-- that it was handed
abbrev pub Decides : (Machine → Step Machine) → State → List (List ℕ) → List (List ℕ) → List ℕ → List ℕ → Result Effect Refusal → List ℕ → List ℕ → Type 0
Decides step s vectors vector_taint memory taint decision memory-left taint-left =
    told s vectors vector_taint decision memory-left taint-left ≡ ends step (machine_of s vectors vector_taint memory taint)
