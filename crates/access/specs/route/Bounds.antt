-- How much an access moves, and between which registers: a number is no longer than what it is extended to, and that has at most 8
-- bytes, 16 in a vector register; and an address is formed of general registers.
use Rattle.std.specs.Prelude.{ℕ, ◌≤◌, ◌<◌, ◌≡◌, true, false, ◌⊎◌}
use Rattle.vectors.specs.File.{vector_slot}
use Rattle.vectors.specs.route.Slots.{Plain}
use Rattle.access.specs.declared.transfer.Transfer.{Transfer}
use Rattle.access.specs.declared.addressing.Addressing.{Addressing}
use Rattle.access.specs.declared.Access.{Access}

-- a number of bytes that is not extended
abbrev pub Whole : ℕ → ℕ → Type 0
Whole n extent = (n ≡ 0) ⊎ (n ≡ extent)

-- what moves vector registers extends nothing
pub record VectorBounds (t : Transfer) : Type 0 where
  pub extent : t.extent ≤ 16
  pub second : 32 ≤ t.second
  pub whole : Whole t.bytes t.extent
  pub wholes : Whole t.more t.extent

pub record Bounded (t : Transfer) : Type 0 where
  pub wide : t.bytes ≤ t.extent
  pub wider : t.more ≤ t.extent
  pub general : vector_slot t.target ≡ false → (t.extent ≤ 8) × Plain t.second
  pub vector : vector_slot t.target ≡ true → VectorBounds t

-- the registers of an address are general
pub record Placed (a : Addressing) : Type 0 where
  pub base : Plain a.base
  pub index : Plain a.index
  pub written : Plain a.written

-- the transfer of an access, if it moves anything, is as said, and its address is formed of general registers
abbrev pub Of : (Transfer → Type 0) → Access → Type 0
Of P Access.Nothing = Unit {0}
Of P (Access.Moves t a) = P t × Placed a

abbrev pub Within : Access → Type 0
Within x = Of Bounded x

abbrev pub Moving : Access → Type 0
Moving x = Of (λ t. 0 < t.bytes) x
