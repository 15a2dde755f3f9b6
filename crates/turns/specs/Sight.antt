-- What a plugin may see of memory, and what is left as it was: 02, CR 11. Bytes are told by their index in memory, whose first byte
-- has address origin.
use Rattle.std.specs.Prelude.{ℕ, ◌+◌, ◌≤◌, ◌<◌, ◌≡◌, Bool, true, false, ◌⊎◌, length, get_or}
use Rattle.plan.specs.declared.ranges.Range.{Range}
use Rattle.plan.specs.declared.ranges.Ranges.{Ranges}
use Rattle.machine.specs.Machine.{Machine}

-- the byte at an address lies in a range
pub record In (r : Range) (address : ℕ) : Type 0 where
  pub low : r.address ≤ address
  pub high : address < r.address + r.length

-- so many bytes at an address lie wholly in a range
abbrev pub LiesIn : Range → ℕ → ℕ → Type 0
LiesIn r address size = (r.address ≤ address) × (address + size ≤ r.address + r.length)

-- "A load must lie wholly in the shared range or in the plugin's own, a store wholly in its own"
abbrev pub Allowed : Ranges → Bool → ℕ → ℕ → Type 0
Allowed r true address size = LiesIn r.own address size
Allowed r false address size = LiesIn r.own address size ⊎ LiesIn r.shared address size

-- "what it may read": its own range and the shared one
abbrev pub Sees : ℕ → Ranges → ℕ → Type 0
Sees origin r i = In r.own (origin + i) ⊎ In r.shared (origin + i)

-- memory and taint bytes keep their lengths, and at some places what they hold
pub record Framed (places : ℕ → Type 0) (m n : Machine) : Type 0 where
  pub size : length n.memory ≡ length m.memory
  pub room : length n.taints.bytes ≡ length m.taints.bytes
  pub bytes : (i : ℕ) → places i → get_or n.memory i 0 ≡ get_or m.memory i 0
  pub taints : (i : ℕ) → places i → get_or n.taints.bytes i 0 ≡ get_or m.taints.bytes i 0
