-- The taints of a register at the start: a slot below 32 in one array, one from 32 on in two halves of the other. Assumes nothing.
use Rattle.std.proofs.Common.{◌≡◌, ℕ, zero, suc, ◌+◌, ◌-◌, ◌*◌, ◌/◌, ◌^◌, ◌<◌, ◌≤◌, List, ◌++◌, map, length, get_or, sym, ap, ◌∙◌, mul_assoc, pow-suc, arith}
use lib.ListN.{get_or-eq_default}
use Rattle.memory.specs.Taints.{byte_at}
use Rattle.vectors.specs.File.{wide}
use Rattle.vectors.proofs.Slots.{vector_get, length_map}

-- ---- by the slot

module _ (u : List ℕ) (vs : List (List ℕ)) (slot : ℕ) (general : length u ≡ 32) where
  pub taints_none : length vs ≡ 32 → 64 ≤ slot → get_or (u ++ map wide vs) slot 0 ≡ 0
  taints_none k h =
      let l : length (map wide vs) ≤ slot - 32 = omega (arith, length_map wide vs, k) in
      vector_get u (map wide vs) general slot (omega arith) ∙ get_or-eq_default (map wide vs) 0 l

-- ---- a byte of two halves

times : (n hi : ℕ) → hi * 256 ^ suc n ≡ hi * 256 ^ n * 256
times n hi = ap (λ (z : ℕ). hi * z) (pow-suc 256 n) ∙ sym (mul_assoc hi (256 ^ n) 256)

shifted : (lo y : ℕ) → (lo + y * 256) / 256 ≡ lo / 256 + y
shifted lo y = omega arith

pub byte_low : (n k lo hi : ℕ) → k < n → byte_at k (lo + hi * 256 ^ n) ≡ byte_at k lo
unfolding byte_at
byte_low zero k lo hi h = absurd (omega arith)
byte_low (suc n) zero lo hi h =
    let y = hi * 256 ^ n in
    rw (times n hi) (omega arith)
byte_low (suc n) (suc k) lo hi h = rw (times n hi, shifted lo (hi * 256 ^ n)) (byte_low n k (lo / 256) hi (omega arith))

pub byte_high : (n k lo hi : ℕ) → lo < 256 ^ n → n ≤ k → byte_at k (lo + hi * 256 ^ n) ≡ byte_at (k - n) hi
unfolding byte_at
byte_high zero k lo hi l h =
    let e : lo + hi * 1 ≡ hi = omega arith in
    let d : k - 0 ≡ k = omega arith in
    rw (e, d)
byte_high (suc n) zero lo hi l h = absurd (omega arith)
byte_high (suc n) (suc k) lo hi l h =
    let d : suc k - suc n ≡ k - n = omega arith in
    let s : lo / 256 < 256 ^ n = omega (arith, pow-suc 256 n) in
    rw (times n hi, shifted lo (hi * 256 ^ n), d) (byte_high n k (lo / 256) hi s (omega arith))
