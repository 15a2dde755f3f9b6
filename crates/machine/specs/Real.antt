-- The machines that there are: 32 registers of 64 bits and behind them 32 of 128, each with a number of as many bits for the marks of
-- its bytes, and bytes of 8 bits. The definitions are of any numbers, and say of a "byte" of 256 what no rule asks; what code holds
-- is always such a machine (`arm::real`).
use Rattle.std.specs.Prelude.{◌≡◌, ℕ, ◌^◌, ◌<◌, length, slice_index}
use Rattle.machine.specs.Machine.{Machine}

-- a number that fits the register of a slot
abbrev pub Fits : ℕ → ℕ → Type 0
Fits slot x = (slot < 32 → x < 2 ^ 64) × (x < 2 ^ 128)

pub record Real (m : Machine) : Type 0 where
  pub registers : length m.values ≡ 64
  pub marks : length m.taints.registers ≡ 64
  pub values : (slot : ℕ) → Fits slot (slice_index m.values slot)
  pub marked : (slot : ℕ) → Fits slot (slice_index m.taints.registers slot)
  pub bytes : (n : ℕ) → slice_index m.memory n < 256
