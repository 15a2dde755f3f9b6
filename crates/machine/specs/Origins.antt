-- Where the taint of a byte comes from at a step: every byte has one origin, so that a taint can be followed back along a path.
-- The taint rule itself is said in Rule.antt; this is what it copies (`taint_by_origin`).
use Rattle.std.specs.Prelude.{ℕ, ◌+◌, ◌-◌, Bool, false, ◌&&◌, ◌==◌, nat_le, nat_lt, slice_index, slice_index_or}
use Rattle.bits.specs.Choice.{pick}
use Rattle.memory.specs.Taints.{tainted, byte_at}
use Rattle.memory.specs.Sources.{Source, cleared, byte, sign, sources_of}
use Rattle.access.specs.declared.transfer.Transfer.{Transfer}
use Rattle.access.specs.declared.Access.{Access}
use Rattle.access.specs.declared.Access.TheVariants.{Nothing, Moves}
use Rattle.machine.specs.Monitor.{made_of}
use Rattle.machine.specs.Rule.{Taints}

-- a byte of a register, by its slot and number, or of memory, by its index
pub data Place : Type 0 where
  of_register : ℕ → ℕ → Place
  of_memory : ℕ → Place

-- cleared, or copied from a place before the step; what is kept comes from its own
pub data Origin : Type 0 where
  none : Origin
  from : Place → Origin

abbrev pub taint_of : Taints → Place → Bool
taint_of p (of_register slot i) = tainted (byte_at i (slice_index p.registers slot))
taint_of p (of_memory i) = tainted (slice_index p.bytes i)

abbrev pub taint_by : Taints → Origin → Bool
taint_by p none = false
taint_by p (from place) = taint_of p place

-- a sign copy is explained by the top byte loaded
abbrev pub origin_in : Source → Origin
origin_in cleared = none
origin_in (byte i) = from (of_memory i)
origin_in (sign i) = from (of_memory i)

-- one of n bytes from an index on
abbrev pub among : ℕ → ℕ → ℕ → Bool
among j at n = nat_le at j && nat_lt j (at + n)

-- a place after an access at an index, by what the rule sets last
unfoldable pub origin_of : Transfer → ℕ → ℕ → Place → Origin
origin_of t written at (of_register slot i) =
    let based = pick (slot == written) none (from (of_register slot i)) in
    pick t.store based
    (pick (slot == t.second) (origin_in (slice_index_or (sources_of (at + t.bytes) t.more t.extent) i cleared))
    (pick (slot == t.target) (origin_in (slice_index_or (sources_of at t.bytes t.extent) i cleared))
    based))
origin_of t written at (of_memory j) =
    pick t.store
    (pick (among j (at + t.bytes) t.more) (from (of_register t.second (j - (at + t.bytes))))
    (pick (among j at t.bytes) (from (of_register t.target (j - at)))
    (from (of_memory j))))
    (from (of_memory j))

-- of a word's access with a status
abbrev pub origin_at : Access → ℕ → ℕ → Place → Origin
origin_at Nothing status at place = from place
origin_at (Moves t a) status at place = origin_of (made_of t status) a.written at place
