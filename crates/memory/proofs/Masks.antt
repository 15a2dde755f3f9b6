-- The largest number of n bytes, which cuts a number to its low n bytes. Assumes nothing.
use Prim.Native.Nat.{ℕ, zero, suc, ◌+◌, ◌-◌, ◌*◌, ◌/◌, ◌%◌, ◌^◌, ◌≤◌, ◌<◌}
use mathlib.Core.Path.{◌≡◌, refl, sym, ap, ◌∙◌}
use native.Mathlib.Nat.{pow-suc, mod-add-div'}
use native.Mathlib.Omega.{arith}
use lib.Arith.{mul_pred, digits_div}
use lib.Bits.{bit_and, and_mask}
use lib.Pow.{pow-add, pow_pos}
use Rattle.bits.specs.route.Joins.{under}

bits_of : (n : ℕ) → 2 ^ (8 * n) ≡ 256 ^ n
bits_of zero = refl
bits_of (suc n) =
    let e : 8 * suc n ≡ 8 * n + 8 = omega arith in
    ap (λ (x : ℕ). 2 ^ x) e ∙ pow-add 2 (8 * n) 8 ∙ ap (λ (x : ℕ). x * 256) (bits_of n) ∙ sym (pow-suc 256 n)

pub masked : (n v : ℕ) → bit_and v (256 ^ n - 1) ≡ v % 256 ^ n
masked n v = ap (λ (x : ℕ). bit_and v (x - 1)) (sym (bits_of n)) ∙ and_mask v (8 * n) ∙ ap (λ (x : ℕ). v % x) (bits_of n)

-- i ones are left of i + j that are shifted by j
ones_left : (i j : ℕ) → (2 ^ (i + j) - 1) / 2 ^ j ≡ 2 ^ i - 1
ones_left i j =
    let p : 0 < 2 ^ j = pow_pos j in
    let l : 2 ^ j - 1 < 2 ^ j = omega arith in
    ap (λ (x : ℕ). (x - 1) / 2 ^ j) (pow-add 2 i j) ∙ ap (λ (x : ℕ). x / 2 ^ j) (mul_pred (pow_pos i) p) ∙ digits_div (2 ^ i - 1) l

pub ones : (n : ℕ) → n ≤ 8 → (2 ^ 64 - 1) / 2 ^ (64 - 8 * n) ≡ 256 ^ n - 1
ones n h =
    let e : 8 * n + (64 - 8 * n) ≡ 64 = omega arith in
    let g : (2 ^ (8 * n + (64 - 8 * n)) - 1) / 2 ^ (64 - 8 * n) ≡ 2 ^ (8 * n) - 1 = ones_left (8 * n) (64 - 8 * n) in
    (rw e at g) ∙ ap (λ (x : ℕ). x - 1) (bits_of n)

-- the low bytes taken away, and others put in their place
pub replaced : {l r : ℕ} (n v w : ℕ) → l ≡ w % 256 ^ n → r ≡ v % 256 ^ n → w - l + r ≡ under n v w
unfolding under
replaced n v w e f =
    let m = 256 ^ n in
    let g : w % m + w / m * m ≡ w = mod-add-div' w m in
    let s = w / m * m in
    rw (e, f) (omega arith)
