-- What another's store does to the monitor of a session, as its host tells it: 02, CR 3, in which "the host can open it".
use Rattle.std.specs.Prelude.{ℕ, ◌+◌, ◌-◌, ◌≤◌, ◌<◌, ◌≡◌, Bool, false, ◌&&◌, ltb, eqb}
use Rattle.bits.specs.Choice.{pick}
use Rattle.machine.specs.declared.monitor.Monitor.{Monitor}
use Rattle.machine.specs.declared.State.{State}
use Rattle.machine.specs.Machine.{opened}

-- n bytes from a on and k bytes from b on have one in common: the later start lies before both ends, as whole numbers
unfoldable pub meet : ℕ → ℕ → ℕ → ℕ → Bool
meet a n b k =
    let start = pick (ltb a b) b a in
    ltb start (a + n) && ltb start (b + k)

-- a step that showed this code, address and status stored a byte that the monitor watches: the code of a store is 64 and
-- its bytes, and a store-exclusive that failed, whose status is not 0, stored none
unfoldable pub stores_watched : Monitor → ℕ → ℕ → ℕ → Bool
stores_watched r code address status = pick (eqb status 0) (meet r.address r.size address (code - 64)) false

-- the record after that step of another
abbrev pub observed : ℕ → ℕ → ℕ → State → State
observed code address status s = pick (stores_watched s.monitor code address status) (opened s) s

-- the same by each byte: that at x was stored by the step, and is watched by the monitor
abbrev pub Stored : ℕ → ℕ → ℕ → ℕ → Type 0
Stored code address status x = (status ≡ 0) × (address ≤ x) × (x < address + (code - 64))

abbrev pub Watched : Monitor → ℕ → Type 0
Watched r x = (r.address ≤ x) × (x < r.address + r.size)
