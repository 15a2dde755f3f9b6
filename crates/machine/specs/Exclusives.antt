-- What 02's CR 3 says of a store-exclusive that is done, by what its step shows and leaves.
use Rattle.std.specs.Prelude.{◌≡◌, ℕ, ◌+◌, ◌-◌, ◌↔◌, map, slice_index, slice_set}
use Rattle.std.proofs.lemmas.List.Edits.{sets}
use Rattle.bits.specs.Bytes.{bytes_of}
use Rattle.memory.specs.Taints.{normal}
use Rattle.registers.specs.File.{zero_slot}
use Rattle.machine.specs.declared.monitor.Monitor.{Monitor}
use Rattle.machine.specs.Monitor.{open_monitor}
use Rattle.machine.specs.Machine.{Machine}
use Rattle.machine.specs.Step.{Outcome}

-- "the monitor has the same address and size"
abbrev pub Armed : Monitor → ℕ → ℕ → Type 0
Armed r address size = (r.address ≡ address) × (r.size ≡ size)

-- of so many bytes of Rt, with a status in Rs, in memory whose first byte has address origin
pub record StoresExclusive (origin size rs rt : ℕ) (m : Machine) (o : Outcome Machine) : Type 0 where
  -- "stores and writes status 0 exactly if the monitor has the same address and size; otherwise it writes status 1"
  pub passes : (o.shown.status ≡ 0) ↔ Armed m.monitor o.shown.address size
  pub fails : (o.shown.status ≡ 1) ↔ ¬ Armed m.monitor o.shown.address size
  pub writes : o.machine.values ≡ slice_set m.values (zero_slot rs) o.shown.status
  pub stores : o.shown.status ≡ 0
      → let at = o.shown.address - origin in
      (o.machine.memory ≡ sets m.memory at (bytes_of size (slice_index m.values (zero_slot rt))))
      × (o.machine.taints.bytes ≡ sets m.taints.bytes at (map normal (bytes_of size (slice_index m.taints.registers (zero_slot rt)))))
  -- "and stores nothing, marks included"
  pub keeps : o.shown.status ≡ 1 → (o.machine.memory ≡ m.memory) × (o.machine.taints.bytes ≡ m.taints.bytes)
  -- "Either way the monitor opens"
  pub opens : o.machine.monitor ≡ open_monitor
  -- "the status register becomes unmarked; the trace shows a failed store like a successful one"
  pub unmarks : o.machine.taints.registers ≡ slice_set m.taints.registers (zero_slot rs) 0
  pub code : o.shown.code ≡ size + 64

-- the same machine with another monitor
abbrev pub with_monitor : Monitor → Machine → Machine
with_monitor r m = record { values = m.values; pc = m.pc; memory = m.memory; taints = m.taints; monitor = r }
