-- Numbers by their bytes: those with the same bytes are the same (`same_number`), and those that are tainted in the same bytes are
-- both 0 or neither. Assumes nothing.
use Prim.Native.Nat.{ℕ, zero, suc, ◌+◌, ◌*◌, ◌/◌, ◌%◌, ◌^◌, ◌≤◌, ◌<◌}
use mathlib.Core.Path.{◌≡◌, refl, sym, ap, ◌∙◌}
use mathlib.Core.Bool.{false}
use native.Mathlib.Nat.{pow-suc, pow-le-pow_right, one-le-pow, mod-one}
use native.Mathlib.Omega.{arith}
use borrow.Author.Tests.{lt-ltb, le-ltb}
use lib.Arith.{mod-mul}
use lib.Dec.{ltb, lit<}
use Rattle.bits.specs.Choice.{pick}
use Rattle.memory.specs.Taints.{tainted, byte_at}
use Rattle.memory.proofs.Taints.{no_byte}
use Rattle.plan.proofs.Tests.{same_test}

same_below : (n v w : ℕ) → v < 256 ^ n → w < 256 ^ n → ((i : ℕ) → byte_at i v ≡ byte_at i w) → v ≡ w
unfolding byte_at
same_below zero v w a b h = omega arith
same_below (suc n) v w a b h =
    let m = 256 ^ n in
    let p : v < m * 256 = rw pow-suc at a in
    let q : w < m * 256 = rw pow-suc at b in
    let e : v / 256 ≡ w / 256 = same_below n (v / 256) (w / 256) (omega arith) (omega arith) (λ i. h (suc i)) in
    omega (arith, h 0)

below_power : (v : ℕ) → v < 256 ^ v
below_power zero = lit< tt
below_power (suc v) = rw pow-suc (omega (arith, below_power v))

-- numbers with the same bytes
pub same_number : (v w : ℕ) → ((i : ℕ) → byte_at i v ≡ byte_at i w) → v ≡ w
same_number v w h =
    let p : 256 ^ v ≤ 256 ^ (v + w) = pow-le-pow_right (lit< tt) (omega arith) in
    let q : 256 ^ w ≤ 256 ^ (v + w) = pow-le-pow_right (lit< tt) (omega arith) in
    same_below (v + w) v w (omega (arith, below_power v)) (omega (arith, below_power w)) h

-- what n bytes leave of a number
pub byte_cut : (n i v : ℕ) → byte_at i (v % 256 ^ n) ≡ pick (ltb i n) (byte_at i v) 0
unfolding byte_at
byte_cut zero i v = rw (mod-one v, le-ltb i 0 (omega arith)) (no_byte i)
byte_cut (suc n) zero v =
    let m = 256 ^ n in
    rw (pow-suc 256 n, mod-mul v {m = m} {c = 256} (one-le-pow n 256 (lit< tt)) (lit< tt), lt-ltb 0 (suc n) (omega arith)) (omega arith)
byte_cut (suc n) (suc i) v =
    let m = 256 ^ n in
    let e : (v / 256 % m * 256 + v % 256) / 256 ≡ v / 256 % m = omega arith in
    rw (pow-suc 256 n, mod-mul v {m = m} {c = 256} (one-le-pow n 256 (lit< tt)) (lit< tt), e, same_test (suc i) (suc n) i n (λ h. omega arith) (λ h. omega arith)) (byte_cut n i (v / 256))

-- ---- taints

pub zero_is : (k : ℕ) → tainted k ≡ false → k ≡ 0
zero_is zero e = refl
zero_is (suc k) e = absurd (let z : ◌≡◌ {A = ℕ} 0 1 = cc in omega arith)

-- numbers that are tainted in the same bytes are both 0 or neither
none_tainted : (u w : ℕ) → ((i : ℕ) → tainted (byte_at i u) ≡ tainted (byte_at i w)) → u ≡ 0 → w ≡ 0
none_tainted u w h e = same_number w 0 (λ i. zero_is (byte_at i w) (sym (h i) ∙ rw (e, no_byte i)) ∙ sym (no_byte i))

pub same_taint : (u w : ℕ) → ((i : ℕ) → tainted (byte_at i u) ≡ tainted (byte_at i w)) → tainted u ≡ tainted w
same_taint zero w h = sym (ap tainted (none_tainted 0 w h refl))
same_taint (suc u) zero h = absurd (let z : suc u ≡ 0 = none_tainted 0 (suc u) (λ i. sym (h i)) refl in omega arith)
same_taint (suc u) (suc w) h = refl
