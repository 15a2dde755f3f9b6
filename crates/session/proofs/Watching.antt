-- What a monitor watches and what another's step stored: the monitor opens exactly where there is a byte of both. Assumes
-- nothing.
use Prim.Native.Nat.{ℕ, ◌+◌, ◌-◌, ◌≤◌, ◌<◌}
use mathlib.Core.Path.{◌≡◌, refl}
use mathlib.Core.Bool.{Bool, true, false}
use native.Mathlib.Omega.{arith}
use borrow.Author.Tests.{ltb-true, ltb-false, eqb-true, lt-ltb}
use lib.Dec.{ltb, eqb}
use Rattle.bits.proofs.Choices.{pick_by, both}
use Rattle.machine.specs.declared.monitor.Monitor.{Monitor}
use Rattle.machine.specs.declared.State.{State}
use Rattle.machine.specs.Machine.{opened}
use Rattle.session.specs.Watch.{meet, stores_watched, observed, Stored, Watched}

-- of n bytes from a on and k bytes from b on
module _ (a n b k : ℕ) where
  meet_at : (t : Bool) → ltb a b ≡ t → (x : ℕ) → a ≤ x → x < a + n → b ≤ x → x < b + k → meet a n b k ≡ true
  unfolding meet
  meet_at true e x p q r s = rw (e, lt-ltb b (a + n) (omega arith), lt-ltb b (b + k) (omega arith))
  meet_at false e x p q r s = rw (e, lt-ltb a (a + n) (omega arith), lt-ltb a (b + k) (omega arith))

  -- a range's start is in it where it isn't empty
  meets_at : (t : Bool) → ltb a b ≡ t → meet a n b k ≡ true → (x : ℕ) × ((a ≤ x) × (x < a + n) × (b ≤ x) × (x < b + k))
  unfolding meet
  meets_at true e h =
      let f = both (ltb b (a + n)) (ltb b (b + k)) (rw e at h) in
      (b, (omega (arith, ltb-true a b e), ltb-true b (a + n) f.0, omega arith, ltb-true b (b + k) f.1))
  meets_at false e h =
      let f = both (ltb a (a + n)) (ltb a (b + k)) (rw e at h) in
      (a, (omega arith, ltb-true a (a + n) f.0, ltb-false a b e, ltb-true a (b + k) f.1))

-- the monitor opens where a byte that it watches was stored
pub observed_opens : (code address status : ℕ) (s : State) (x : ℕ) → Stored code address status x → Watched s.monitor x → observed code address status s ≡ opened s
unfolding stores_watched
observed_opens code address status s x (done, first, last) (from, to) =
    rw (done, meet_at s.monitor.address s.monitor.size address (code - 64) (ltb s.monitor.address address) refl x from to first last)

stored_watched : (r : Monitor) (code address status : ℕ) (t : Bool) → eqb status 0 ≡ t → stores_watched r code address status ≡ true → (x : ℕ) × (Stored code address status x × Watched r x)
unfolding stores_watched
stored_watched r code address status true e h =
    let (x, (from, to, first, last)) = meets_at r.address r.size address (code - 64) (ltb r.address address) refl (rw e at h) in
    (x, ((eqb-true status 0 e, first, last), (from, to)))
stored_watched r code address status false e h = cc

-- and all stays where none was
pub observed_keeps : (code address status : ℕ) (s : State) → ((x : ℕ) → Stored code address status x → ¬ Watched s.monitor x) → observed code address status s ≡ s
observed_keeps code address status s none =
    pick_by (λ (t : State). t ≡ s) (stores_watched s.monitor code address status)
    (λ e. let (x, (stored, watched)) = stored_watched s.monitor code address status (eqb status 0) refl e in absurd (none x stored watched)) (λ e. refl)
