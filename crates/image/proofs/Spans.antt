-- The window of a line by two addresses: its bytes run from the first to the last, or on past 2^32 and so over both ends. That one of
-- them is outside is what the test of each byte tells (`placed_tells`), and the two ends tell it too. Assumes nothing.
use Prim.Native.Nat.{ℕ, ◌+◌, ◌-◌, ◌%◌, ◌≤◌, ◌<◌}
use mathlib.Core.Path.{◌≡◌, refl}
use mathlib.Core.Bool.{Bool, true, false}
use mathlib.Core.Logic.{inl, inr}
use native.Mathlib.Omega.{arith}
use lib.Dec.{ltb, leb}
use Rattle.bits.specs.Choice.{pick}
use Rattle.image.specs.Records.{placed}
use Rattle.image.specs.Import.{any_beyond}
use Rattle.image.specs.route.Rest.{SomeBeyond}
use Rattle.image.proofs.Faults.{Tells, Ends, ends_tell, Leaves, placed_tells}

same_tells : {P Q : Type 0} (a b : Bool) → Tells a P → Tells b Q → (P → Q) → (Q → P) → a ≡ b
same_tells true true p q f g = refl
same_tells false false p q f g = refl
same_tells true false p q f g = absurd (q.1 refl (f (p.0 refl)))
same_tells false true p q f g = absurd (p.1 refl (g (q.0 refl)))

module _ (origin len a n : ℕ) (low : a < 4294967296) where
  module _ (last : ℕ) (is : last ≡ a + (n - 1)) (m : last < 4294967296) where
    within : (i : ℕ) → i < n → Ends origin len ((a + i) % 4294967296) ((a + i) % 4294967296) → Ends origin len a last
    within i c (inl h) = inl (omega arith)
    within i c (inr h) = inr (omega arith)

    of_within : 0 < n → Ends origin len a last → Leaves origin len a n
    of_within some (inl h) = record { index = 0; counted = some; address = inl (omega arith) }
    of_within some (inr h) = record { index = n - 1; counted = omega arith; address = inr (omega arith) }

  across : (i : ℕ) → Ends origin len ((a + i) % 4294967296) ((a + i) % 4294967296) → Ends origin len 0 4294967295
  across i (inl h) = inl (omega arith)
  across i (inr h) = inr (omega arith)

  of_across : 4294967296 ≤ a + (n - 1) → Ends origin len 0 4294967295 → Leaves origin len a n
  of_across m (inl h) = record { index = 4294967296 - a; counted = omega arith; address = inl (omega arith) }
  of_across m (inr h) = record { index = 4294967295 - a; counted = omega arith; address = inr (omega arith) }

module _ (origin len a n : ℕ) (low : a < 4294967296) (r : Bool) where
  tells_same : {Q : Type 0} → Tells r Q → (Q → Leaves origin len a n) → (Leaves origin len a n → Q) → SomeBeyond origin len a n r
  tells_same t f g =
      record { is = λ bs e. same_tells r (any_beyond origin len (placed a bs)) t (rw e at (placed_tells origin len a bs)) f g }

  pub beyond_within : (last : ℕ) → 0 < n → last ≡ a + (n - 1) → last < 4294967296 → r ≡ pick (ltb a origin) true (leb (origin + len) last) → SomeBeyond origin len a n r
  beyond_within last some e m is =
      tells_same (rw is (ends_tell origin len a last)) (of_within origin len a n low last e m some) (λ l. within origin len a n low last e m l.index l.counted l.address)

  pub beyond_across : 4294967296 ≤ a + (n - 1) → r ≡ pick (ltb 0 origin) true (leb (origin + len) 4294967295) → SomeBeyond origin len a n r
  beyond_across m is =
      tells_same (rw is (ends_tell origin len 0 4294967295)) (of_across origin len a n low m) (λ l. across origin len a n low l.index l.address)
