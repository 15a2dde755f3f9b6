-- Laws of numbers of n bytes. Assumes nothing.
use Rattle.std.proofs.Common.{◌≡◌, ℕ, zero, suc, ◌+◌, ◌-◌, ◌*◌, ◌/◌, ◌%◌, ◌^◌, ◌<◌, ◌≤◌, min, ltb, sym, refl, ◌∙◌, mod-eq_of_lt, one-mul, pow-suc, mul-suc, arith, lit<, pow_pos, pow-add, shl_exact}
use native.Mathlib.Nat.{pow-le-pow_right}
use Rattle.bits.specs.Extension.{largest, extended_of}
use Rattle.bits.proofs.Choices.{pick_by}

pub two_256 : (n : ℕ) → 2 ^ (8 * n) ≡ 256 ^ n
two_256 zero = refl
two_256 (suc n) = rw (mul-suc, pow-add, two_256 n) (sym (pow-suc 256 n))

-- a shift gives the number after the largest, while it fits
pub shifted : {n : ℕ} → n < 8 → 1 * 2 ^ (8 * n) % 2 ^ 64 ≡ 256 ^ n
shifted {n} h = shl_exact 1 (8 * n) 64 (lit< tt) (omega arith) ∙ one-mul (2 ^ (8 * n)) ∙ two_256 n

positive : (n : ℕ) → 0 < 256 ^ n
positive n = rw (← two_256 n) (pow_pos (8 * n))

pub shifted_positive : {n : ℕ} → n < 8 → 1 ≤ 1 * 2 ^ (8 * n) % 2 ^ 64
shifted_positive {n} h = rw (shifted h) (positive n)

-- what is added to extend a number, and that the sum fits
pub record Room (n extent v : ℕ) : Type 0 where
  pub below : largest n ≤ largest extent
  pub fits : v + (largest extent - largest n) < 2 ^ 64

pub room : (n extent v : ℕ) → v < 256 ^ n → n ≤ extent → extent ≤ 8 → Room n extent v
unfolding largest
room n extent v h l e =
    let up : 256 ^ n ≤ 256 ^ extent = pow-le-pow_right (lit< tt) l in
    let top : 256 ^ extent ≤ 256 ^ 8 = pow-le-pow_right (lit< tt) e in
    let some = positive n in
    record { below = omega arith; fits = omega arith }

-- an extended number fits 64 bits
pub extended_below : (n extent v : ℕ) → n ≤ extent → extent ≤ 8 → v < 256 ^ n → extended_of n extent v < 2 ^ 64
unfolding extended_of
extended_below n extent v l e h =
    let few : n ≤ 8 = omega arith in
    let wide : 256 ^ n ≤ 256 ^ 8 = pow-le-pow_right (lit< tt) few in
    pick_by (λ (x : ℕ). x < 2 ^ 64) (ltb (largest n / 2) v) (λ t. (room n extent v h l e).fits) (λ f. omega arith)

-- where the number has no more bytes than are said
pub extended_exact : (n extent v : ℕ) → n ≤ extent → extent ≤ 8 → v < 256 ^ n → extended_of (min n 8) (min extent 8) v % 2 ^ 64 ≡ extended_of n extent v
extended_exact n extent v l e h =
    let p : min n 8 ≡ n = omega arith in
    let q : min extent 8 ≡ extent = omega arith in
    rw (p, q) (mod-eq_of_lt (extended_below n extent v l e h))
