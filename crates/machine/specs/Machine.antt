-- The machine: what a step reads and changes, and what an access leaves of it: 01, "What a word says".
use Rattle.std.specs.Prelude.{ℕ, ◌+◌, ◌%◌, ◌^◌, List, ◌++◌, map, slice_set}
use Rattle.bits.specs.Choice.{pick}
use Rattle.bits.specs.Bytes.{bytes_of, joined, span_of}
use Rattle.bits.specs.Extension.{extended_of}
use Rattle.vectors.specs.File.{wide}
use Rattle.access.specs.declared.transfer.Transfer.{Transfer}
use Rattle.access.specs.declared.addressing.Addressing.{Addressing}
use Rattle.plan.specs.declared.operands.Operands.{Operands}
use Rattle.plan.specs.Operands.{operands_in}
use Rattle.plan.specs.Admission.{total_of}
use Rattle.machine.specs.Rule.{Taints, loaded_in, stored_in, move_rule}
use Rattle.machine.specs.Monitor.{open_monitor}
use Rattle.machine.specs.declared.monitor.Monitor.{Monitor}
use Rattle.machine.specs.declared.State.{State}

pub record Machine : Type 0 where
  pub values : List ℕ
  pub pc : ℕ
  pub memory : List ℕ
  pub taints : Taints
  pub monitor : Monitor

-- the machine of a state, of the vector registers and their marks, and of the lent memory and taint bytes. Its registers are one list
-- of 64 slots: X0 to X30, SP, and behind them the vector registers, a number of two halves each; and so are their taints
abbrev pub machine_of : State → List (List ℕ) → List (List ℕ) → List ℕ → List ℕ → Machine
machine_of s vectors vector_taint memory taint =
    record {
      values = s.registers.value ++ map wide vectors;
      pc = s.pc;
      memory = memory;
      taints = record { registers = s.registers.taint ++ map wide vector_taint; bytes = taint };
      monitor = s.monitor;
    }

-- 02, CR 3: "the host can open it"
abbrev pub opened : State → State
opened s = record { registers = s.registers; pc = s.pc; monitor = open_monitor }

-- what an access reads of it to form its address
abbrev pub operands_of : Addressing → Machine → Operands
operands_of a m = operands_in a m.pc m.values m.taints.registers

abbrev pub next_pc : ℕ → ℕ
next_pc pc = (pc + 4) % 2 ^ 64

-- a prefetch changes nothing but PC
abbrev pub passed_over : Machine → Machine
passed_over m = record { values = m.values; pc = next_pc m.pc; memory = m.memory; taints = m.taints; monitor = m.monitor }

-- writeback, or a status
abbrev pub based_values : ℕ → ℕ → List ℕ → List ℕ
based_values written next v = slice_set v written next

-- bytes are little-endian
abbrev pub loaded_values : Transfer → ℕ → List ℕ → List ℕ → List ℕ
loaded_values t at v m = loaded_in (λ at n. extended_of n t.extent (joined (span_of m at n))) t at v

abbrev pub stored_bytes : Transfer → ℕ → List ℕ → List ℕ → List ℕ
stored_bytes t at v m = stored_in bytes_of t at v m

-- what an access at an index leaves, with what it writes back and the monitor after it
unfoldable pub effect_of : Transfer → ℕ → ℕ → ℕ → Monitor → Machine → Machine
effect_of t written at next monitor m =
    record {
      values = pick t.store (based_values written next m.values) (loaded_values t at (based_values written next m.values) m.memory);
      pc = next_pc m.pc;
      memory = pick t.store (stored_bytes t at m.values m.memory) m.memory;
      taints = move_rule t written at m.taints;
      monitor = monitor;
    }

-- bytes touched, both registers together, plus 64 for a store
abbrev pub code_of : Transfer → ℕ
code_of t = total_of t + pick t.store 64 0
