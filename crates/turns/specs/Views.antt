-- What two plugins' machines have in common over the bytes that are seen: 02, CR 11, for isolation, and for demand 3 of each plugin.
use Rattle.std.specs.Prelude.{ℕ, ◌<◌, ◌≡◌, Bool, length, get_or}
use Rattle.memory.specs.Taints.{tainted, byte_at}
use Rattle.registers.specs.File.{byte_taint_in}
use Rattle.machine.specs.Machine.{Machine}
use Rattle.machine.specs.Real.{Real}
use Rattle.secrecy.specs.Shows.{EqualMonitors}
use Rattle.secrecy.specs.Halves.{Secret, Opposed}

-- isolation: two machines that there are, with the same registers, marks, program counter and monitor, and the same bytes and taint
-- bytes where they are seen
pub record Unchanged (sees : ℕ → Type 0) (m n : Machine) : Type 0 where
  pub real : Real m
  pub other : Real n
  pub values : m.values ≡ n.values
  pub marks : m.taints.registers ≡ n.taints.registers
  pub pc : m.pc ≡ n.pc
  pub monitor : m.monitor ≡ n.monitor
  pub memories : length n.memory ≡ length m.memory
  pub rooms : length n.taints.bytes ≡ length m.taints.bytes
  pub bytes : (i : ℕ) → sees i → get_or m.memory i 0 ≡ get_or n.memory i 0
  pub taints : (i : ℕ) → sees i → get_or m.taints.bytes i 0 ≡ get_or n.taints.bytes i 0

-- demand 3 and its other half: what `execution/specs/Secrecy` compares, over the bytes that are seen alone
pub record RelatedOver (sees : ℕ → Type 0) (related : Bool → ℕ → ℕ → Type 0) (m n : Machine) : Type 0 where
  pub real : Real m
  pub other : Real n
  pub pc : m.pc ≡ n.pc
  pub monitor : EqualMonitors m.monitor n.monitor
  pub marks : (slot i : ℕ) → byte_taint_in m.taints.registers slot i ≡ byte_taint_in n.taints.registers slot i
  pub registers : (slot i : ℕ) → related (byte_taint_in m.taints.registers slot i) (byte_at i (get_or m.values slot 0)) (byte_at i (get_or n.values slot 0))
  pub memories : length n.memory ≡ length m.memory
  pub rooms : length n.taints.bytes ≡ length m.taints.bytes
  pub taints : (i : ℕ) → sees i → get_or m.taints.bytes i 0 ≡ get_or n.taints.bytes i 0
  pub bytes : (i : ℕ) → sees i → i < length m.taints.bytes → related (tainted (get_or m.taints.bytes i 0)) (get_or m.memory i 0) (get_or n.memory i 0)

abbrev pub SameOver : (ℕ → Type 0) → Machine → Machine → Type 0
SameOver sees = RelatedOver sees Secret

abbrev pub FilledOver : (ℕ → Type 0) → Machine → Machine → Type 0
FilledOver sees = RelatedOver sees Opposed
