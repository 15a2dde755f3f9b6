-- What ranges admit, and what ranges that are not bad have in common. Assumes nothing.
use Prim.Native.Nat.{ℕ, ◌+◌, ◌-◌, ◌≤◌, ◌<◌}
use mathlib.Core.Path.{◌≡◌, refl}
use mathlib.Core.Bool.{Bool, true, false, ◌&&◌, ◌||◌, not}
use mathlib.Core.Logic.{◌⊎◌, inl, inr, ◌↔◌}
use native.Mathlib.Decide.{dec_lt}
use native.Mathlib.Omega.{arith}
use borrow.Author.Tests.{ltb-true, ltb-false, eqb-true, eqb-false}
use lib.Dec.{ltb, eqb}
use Rattle.bits.proofs.Choices.{neither}
use Rattle.access.specs.declared.transfer.Transfer.{Transfer}
use Rattle.plan.specs.declared.ranges.Range.{Range}
use Rattle.plan.specs.declared.ranges.Ranges.{Ranges}
use Rattle.plan.specs.declared.ranges.Reach.TheVariants.{Ranged}
use Rattle.plan.specs.Admission.{total_of}
use Rattle.plan.specs.Ranges.{share, overlap, misses, beyond, strays, bad_ranges, admit_ranges}
use Rattle.plan.proofs.Refusals.{Passed}
use Rattle.plan.proofs.Tests.{not_outside, admit_inside}
use Rattle.secrecy.proofs.Agreement.{Seen}
use Rattle.execution.specs.Run.{plain_window}
use Rattle.turns.specs.Sight.{In, LiesIn, Allowed, Sees}
use Rattle.turns.specs.Turns.{swapped}

-- the bytes of an access that lies in a range
within : (r : Range) (n a origin i : ℕ) → beyond n a r ≡ false → origin ≤ a → a - origin ≤ i → i < a - origin + n → In r (origin + i)
within r n a origin i e o l h =
    let d = not_outside n a r.address r.length e in
    record { low = omega (arith, d.starts); high = omega (arith, d.ends) }

load_at : (own shared : Bool) → (own && (false || shared)) ≡ false → (own ≡ false) ⊎ (shared ≡ false)
load_at true shared e = inr e
load_at false shared e = inl refl

store_at : (own shared : Bool) → (own && (true || shared)) ≡ false → own ≡ false
store_at true shared e = e
store_at false shared e = refl

module _ (origin : ℕ) (r : Ranges) (len : ℕ) (t : Transfer) (a : ℕ) (p : Passed (admit_ranges origin r len t a)) where
  starts : origin ≤ a
  starts = (admit_inside (plain_window origin) (Ranged r) len t a p).starts

  allowed : strays t.store (total_of t) a r ≡ false
  unfolding admit_ranges
  allowed = p.1.1.1.1.0

  seen_in : (i : ℕ) → a - origin ≤ i → i < a - origin + total_of t → (beyond (total_of t) a r.own ≡ false) ⊎ (beyond (total_of t) a r.shared ≡ false) → Sees origin r i
  seen_in i l h (inl e) = inl (within r.own (total_of t) a origin i e starts l h)
  seen_in i l h (inr e) = inr (within r.shared (total_of t) a origin i e starts l h)

  -- a load that is admitted looks only at what the plugin may read
  pub ranges_safe : t.store ≡ false → Seen (Sees origin r) (a - origin) (total_of t)
  unfolding strays
  ranges_safe s i l h = seen_in i l h (load_at (beyond (total_of t) a r.own) (beyond (total_of t) a r.shared) (rw s at allowed))

  -- a store that is admitted lies in the plugin's own range
  pub ranges_stay : t.store ≡ true → (i : ℕ) → a - origin ≤ i → i < a - origin + total_of t → In r.own (origin + i)
  unfolding strays
  ranges_stay s i l h = within r.own (total_of t) a origin i (store_at (beyond (total_of t) a r.own) (beyond (total_of t) a r.shared) (rw s at allowed)) starts l h

lies : (n a : ℕ) (r : Range) → beyond n a r ≡ false → LiesIn r a n
lies n a r e =
    let d = not_outside n a r.address r.length e in
    (d.starts, d.ends)

allow_at : (r : Ranges) (store : Bool) (n a : ℕ) → strays store n a r ≡ false → Allowed r store a n
unfolding strays
allow_at r true n a h = lies n a r.own (store_at (beyond n a r.own) (beyond n a r.shared) h)
allow_at r false n a h = either (load_at (beyond n a r.own) (beyond n a r.shared) h)
  where
    either : (beyond n a r.own ≡ false) ⊎ (beyond n a r.shared ≡ false) → Allowed r false a n
    either (inl e) = inl (lies n a r.own e)
    either (inr e) = inr (lies n a r.shared e)

-- an access that is admitted is allowed
pub ranges_allow : (origin : ℕ) (r : Ranges) (len : ℕ) (t : Transfer) (a : ℕ) → Passed (admit_ranges origin r len t a) → Allowed r t.store a (total_of t)
ranges_allow origin r len t a p = allow_at r t.store (total_of t) a (allowed origin r len t a p)

-- ---- two ranges share a byte exactly if one lies in both

module _ (p q : Range) where
  abbrev tests : Bool → Bool → Bool → Bool → Bool
  tests x y z u = not x && (not y && (z && u))

  apart_at : (x y z u : Bool) → eqb p.length 0 ≡ x → eqb q.length 0 ≡ y → ltb p.address (q.address + q.length) ≡ z → ltb q.address (p.address + p.length) ≡ u
      → tests x y z u ≡ false → (b : ℕ) → In p b → In q b → ⊥
  apart_at true y z u d e f g h b i j = omega (arith, eqb-true p.length 0 d, i.low, i.high)
  apart_at false true z u d e f g h b i j = omega (arith, eqb-true q.length 0 e, j.low, j.high)
  apart_at false false false u d e f g h b i j = omega (arith, ltb-false p.address (q.address + q.length) f, i.low, j.high)
  apart_at false false true false d e f g h b i j = omega (arith, ltb-false q.address (p.address + p.length) g, i.high, j.low)
  apart_at false false true true d e f g h b i j = absurd (let z : ◌≡◌ {A = ℕ} 0 1 = cc in omega arith)

  apart : share p q ≡ false → (b : ℕ) → In p b → In q b → ⊥
  unfolding share
  apart h = apart_at (eqb p.length 0) (eqb q.length 0) (ltb p.address (q.address + q.length)) (ltb q.address (p.address + p.length)) refl refl refl refl h

  abbrev Common : Type 0
  Common = (b : ℕ) × (In p b × In q b)

  common_at : (x y z u : Bool) → eqb p.length 0 ≡ x → eqb q.length 0 ≡ y → ltb p.address (q.address + q.length) ≡ z → ltb q.address (p.address + p.length) ≡ u → tests x y z u ≡ true → Common
  common_at true y z u d e f g h = absurd (let z : ◌≡◌ {A = ℕ} 0 1 = cc in omega arith)
  common_at false true z u d e f g h = absurd (let z : ◌≡◌ {A = ℕ} 0 1 = cc in omega arith)
  common_at false false false u d e f g h = absurd (let z : ◌≡◌ {A = ℕ} 0 1 = cc in omega arith)
  common_at false false true false d e f g h = absurd (let z : ◌≡◌ {A = ℕ} 0 1 = cc in omega arith)
  common_at false false true true d e f g h = first (dec_lt p.address q.address)
    where
      first : Dec (p.address < q.address) → Common
      first (yes l) = (q.address, (record { low = omega arith; high = ltb-true q.address (p.address + p.length) g }, record { low = omega arith; high = omega (arith, eqb-false q.length 0 e) }))
      first (no n) = (p.address, (record { low = omega arith; high = omega (arith, eqb-false p.length 0 d) }, record { low = omega arith; high = ltb-true p.address (q.address + q.length) f }))

  common_byte : share p q ≡ true → Common
  unfolding share
  common_byte h = common_at (eqb p.length 0) (eqb q.length 0) (ltb p.address (q.address + q.length)) (ltb q.address (p.address + p.length)) refl refl refl refl h

  pub share_exact : (share p q ≡ true) ↔ ((b : ℕ) × (In p b × In q b))
  share_exact = (common_byte, λ c. back c (share p q) refl)
    where
      back : Common → (z : Bool) → share p q ≡ z → share p q ≡ true
      back c true e = e
      back (b, both) false e = absurd (apart e b both.0 both.1)

-- where the other's turn is not answered with 1, its range is out of our sight
pub other_unseen : (origin : ℕ) (r : Ranges) (len : ℕ) → bad_ranges (swapped r) origin len ≡ false → (i : ℕ) → Sees origin r i → ¬ In r.other (origin + i)
unfolding bad_ranges overlap
other_unseen origin r len h i s o =
    let none = (neither (overlap (swapped r)) _ h).0 in
    let first = neither (share r.shared r.other) _ none in
    let second = neither (share r.shared r.own) (share r.other r.own) first.1 in
    unseen first.0 second.1 s
  where
    unseen : share r.shared r.other ≡ false → share r.other r.own ≡ false → Sees origin r i → ⊥
    unseen d f (inl own) = apart r.other r.own f (origin + i) o own
    unseen d f (inr shared) = apart r.shared r.other d (origin + i) shared o

-- ---- answer 1 of ranges is given to both

turned_at : (x y z u : Bool) → (not x && (not y && (z && u))) ≡ (not y && (not x && (u && z)))
turned_at true true z u = refl
turned_at true false z u = refl
turned_at false true z u = refl
turned_at false false true true = refl
turned_at false false true false = refl
turned_at false false false true = refl
turned_at false false false false = refl

share_turned : (p q : Range) → share p q ≡ share q p
unfolding share
share_turned p q = turned_at (eqb p.length 0) (eqb q.length 0) (ltb p.address (q.address + q.length)) (ltb q.address (p.address + p.length))

-- the second and the third test exchanged
exchanged : (a b c : Bool) → (b || (a || c)) ≡ (a || (b || c))
exchanged true true c = refl
exchanged true false c = refl
exchanged false true c = refl
exchanged false false c = refl

same_last : (a b c : Bool) → (a || (c || b)) ≡ (a || (b || c))
same_last true b c = refl
same_last false true true = refl
same_last false true false = refl
same_last false false true = refl
same_last false false false = refl

pub bad_both : (r : Ranges) (origin len : ℕ) → bad_ranges (swapped r) origin len ≡ bad_ranges r origin len
unfolding bad_ranges overlap
bad_both r origin len =
    rw (share_turned r.other r.own, exchanged (share r.shared r.own) (share r.shared r.other) (share r.own r.other), same_last (misses origin len r.shared) (misses origin len r.own) (misses origin len r.other))
