-- Demand 3: 01, "Demand 3 is one claim about the whole list of a run", with 02's CR 3, CR 8 and CR 13, and its other half. 01's marks
-- are taints.
use Rattle.std.specs.Prelude.{ℕ, ◌*◌, ◌<◌, ◌≡◌, Bool, length, get_or, take}
use Rattle.memory.specs.Taints.{tainted, byte_at}
use Rattle.registers.specs.File.{byte_taint_in}
use Rattle.machine.specs.Machine.{Machine}
use Rattle.machine.specs.Real.{Real}
use Rattle.secrecy.specs.Shows.{EqualMonitors}
use Rattle.secrecy.specs.Halves.{Secret, Opposed}
use Rattle.execution.specs.Walk.{Log, Result}

-- two machines that there are, with the same PC and equal monitors, marks of the registers' bytes and taint bytes, each byte of a register and
-- of memory related to the other's by its taint. A byte of memory that has no taint byte may differ
pub record Related (related : Bool → ℕ → ℕ → Type 0) (m n : Machine) : Type 0 where
  pub real : Real m
  pub other : Real n
  pub pc : m.pc ≡ n.pc
  pub monitor : EqualMonitors m.monitor n.monitor
  pub marks : (slot i : ℕ) → byte_taint_in m.taints.registers slot i ≡ byte_taint_in n.taints.registers slot i
  pub taints : m.taints.bytes ≡ n.taints.bytes
  pub registers : (slot i : ℕ) → related (byte_taint_in m.taints.registers slot i) (byte_at i (get_or m.values slot 0)) (byte_at i (get_or n.values slot 0))
  pub memories : length n.memory ≡ length m.memory
  pub bytes : (i : ℕ) → i < length m.taints.bytes → related (tainted (get_or m.taints.bytes i 0)) (get_or m.memory i 0) (get_or n.memory i 0)

-- that differ only in what is tainted
abbrev pub Same : Machine → Machine → Type 0
Same = Related Secret

-- that differ in all that is tainted, and in nothing else: 0 in the first, 255 in the second
abbrev pub Filled : Machine → Machine → Type 0
Filled = Related Opposed

-- traces of the same length, and status lists of the same length
pub record SameRoom (l k : Log) : Type 0 where
  pub trace : length l.trace ≡ length k.trace
  pub statuses : length l.statuses ≡ length k.statuses

-- two runs that show the same, with the two numbers of the trace and the status for each step done, and leave machines
-- in a relation
pub record ShowsRun {A : Type 0} (R : A → A → Type 0) (t u : Result A) : Type 0 where
  pub machine : R t.machine u.machine
  pub trace : take (t.steps * 2) t.log.trace ≡ take (u.steps * 2) u.log.trace
  pub statuses : take t.steps t.log.statuses ≡ take u.steps u.log.statuses
  pub steps : t.steps ≡ u.steps
  pub answer : t.answer ≡ u.answer
  pub shown : t.shown ≡ u.shown
