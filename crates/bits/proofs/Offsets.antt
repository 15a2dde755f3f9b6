-- The bits of an offset and the offset of bits: each is taken back by the other, at any width and scale. Assumes nothing.
use Rattle.std.proofs.Common.{◌≡◌, ℕ, zero, suc, ◌+◌, ◌-◌, ◌*◌, ◌/◌, ◌%◌, ◌<◌, ◌≤◌, Bool, true, false, eqb, ltb, ℤ, pos, negsuc, neg_ℤ, nat_abs, refl, ap, le_refl, not-suc-le-zero, mul-le-mul, div-add-mod', zero-mul, mul-div_cancel, arith, ltb-false, ltb-true, le-ltb, lt-ltb, eqb-true}
use native.Mathlib.Nat.{mul-mod_left}
use Rattle.std.specs.Prelude.{Option, Some, None}
use Rattle.bits.specs.Signed.{signed_of, quotient_of, complement, bits_of, plain_bits_of}
use Rattle.bits.proofs.Choices.{picked, pick_by}

pub unfit : {q : ℕ} → ¬ (None ≡ Some q)
unfit e = let z : ◌≡◌ {A = ℕ} 0 1 = cc in omega arith

-- ---- quotients

record Quotient (m s l q : ℕ) : Type 0 where
  whole : q * s ≡ m
  below : q < l

quotient : (m s l q : ℕ) → quotient_of m s l ≡ Some q → Quotient m s l q
unfolding quotient_of
quotient m s l q h =
    let p = picked (eqb (m % s) 0) h unfit in
    let r = picked (ltb (m / s) l) p.1 unfit in
    let e : m / s ≡ q = cc in
    record {
      whole = omega (arith, div-add-mod' m s, eqb-true (m % s) 0 p.0, ap (λ (k : ℕ). k * s) e);
      below = omega (arith, ltb-true (m / s) l r.0);
    }

pub quotient_below : (m s l q : ℕ) → quotient_of m s l ≡ Some q → q < l
quotient_below m s l q h = (quotient m s l q h).below

quotient_mul : (q l : ℕ) {s : ℕ} → 0 < s → q < l → quotient_of (q * s) s l ≡ Some q
unfolding quotient_of
quotient_mul q l {s} h k = simp (mul-mod_left q s, mul-div_cancel q h, lt-ltb _ _ k)

quotient_pos : (n s q : ℕ) → q * s ≡ suc n → 0 < q
quotient_pos n s zero e = omega (arith, zero-mul s, e)
quotient_pos n s (suc q) e = omega arith

pub mul_pos : (a b : ℕ) → 0 < a → 0 < b → 0 < a * b
mul_pos a b h k = omega (arith, mul-le-mul h k)

-- ---- with a sign

negative_bits : (half scale m : ℕ) → 0 < m → bits_of half scale (neg_ℤ (pos m)) ≡ complement half (quotient_of m scale (half + 1))
unfolding bits_of
negative_bits half scale zero h = absurd (not-suc-le-zero h)
negative_bits half scale (suc m) h = refl

module _ (half : ℕ) {scale : ℕ} (s : 0 < scale) (b : ℕ) where
  low_back : b < half → bits_of half scale (signed_of half scale b) ≡ Some b
  unfolding bits_of signed_of
  low_back h = simp (lt-ltb b half h) (quotient_mul b half s h)

  high_back : half ≤ b → b < 2 * half → bits_of half scale (signed_of half scale b) ≡ Some b
  unfolding signed_of
  high_back h k =
      let p = negative_bits half scale ((2 * half - b) * scale) (mul_pos (2 * half - b) scale (omega arith) s) in
      let e : 2 * half - (2 * half - b) ≡ b = omega arith in
      simp (le-ltb b half h, p, quotient_mul (2 * half - b) (half + 1) s (omega arith), e)

  -- the bits of an offset that was read from bits
  pub bits_back : b < 2 * half → bits_of half scale (signed_of half scale b) ≡ Some b
  bits_back k = go (ltb b half) refl
    where
      go : (t : Bool) → ltb b half ≡ t → bits_of half scale (signed_of half scale b) ≡ Some b
      go true e = low_back (ltb-true b half e)
      go false e = high_back (ltb-false b half e) k

complement_back : (half b : ℕ) (f : Option ℕ) → complement half f ≡ Some b → (q : ℕ) × (f ≡ Some q) × (b ≡ 2 * half - q)
complement_back half b (Some q) h = (q, refl, cc)
complement_back half b None h = absurd (unfit h)

-- the offset that is read from the bits of an offset
pub signed_back : (half scale b : ℕ) (z : ℤ) → bits_of half scale z ≡ Some b → (b < 2 * half) × (signed_of half scale b ≡ z)
unfolding bits_of signed_of
signed_back half scale b (pos n) h =
    let f = quotient n scale half b h in
    (omega (arith, f.below), simp (lt-ltb b half f.below, f.whole))
signed_back half scale b (negsuc n) h =
    let c = complement_back half b (quotient_of (suc n) scale (half + 1)) h in
    let f = quotient (suc n) scale (half + 1) c.0 c.1 in
    let p = quotient_pos n scale c.0 f.whole in
    let e : 2 * half - b ≡ c.0 = omega (arith, c.2, f.below) in
    (omega (arith, c.2, f.below), simp (le-ltb b half (omega (arith, c.2, f.below)), e, f.whole))

-- ---- how far an offset reaches

abs_minus : (n : ℕ) → nat_abs (neg_ℤ (pos n)) ≡ n
abs_minus zero = refl
abs_minus (suc n) = refl

pub signed_most : (half scale b : ℕ) → b < 2 * half → nat_abs (signed_of half scale b) ≤ half * scale
unfolding signed_of
signed_most half scale b h =
    pick_by (λ (z : ℤ). nat_abs z ≤ half * scale) (ltb b half)
    (λ e. let l = ltb-true b half e in mul-le-mul (omega arith) (le_refl scale))
    (λ e. let l = ltb-false b half e in rw (abs_minus ((2 * half - b) * scale)) (mul-le-mul (omega arith) (le_refl scale)))

-- ---- without a sign

pub plain_back : (limit b : ℕ) {scale : ℕ} → 0 < scale → b < limit → plain_bits_of limit scale (pos (b * scale)) ≡ Some b
unfolding plain_bits_of
plain_back limit b h k = quotient_mul b limit h k

pub plain_is : (limit scale b : ℕ) (z : ℤ) → plain_bits_of limit scale z ≡ Some b → (b < limit) × (pos (b * scale) ≡ z)
unfolding plain_bits_of
plain_is limit scale b (pos n) h =
    let f = quotient n scale limit b h in
    (f.below, ap pos f.whole)
plain_is limit scale b (negsuc n) h = absurd (unfit h)
