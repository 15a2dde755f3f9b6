-- A number of up to 16 bytes is made of two halves: what is loaded and what is stored, once over the width. Assumes nothing.
use Prim.Native.Nat.{ℕ, zero, suc, ◌+◌, ◌-◌, ◌*◌, ◌/◌, ◌^◌, ◌≤◌, ◌<◌, min}
use mathlib.Core.Path.{◌≡◌, refl, sym, ap, ◌∙◌}
use mathlib.Core.Bool.{Bool, true, false}
use mathlib.Core.List.{List, [], ◌∷◌, ◌++◌, append-nil, map, map-append}
use native.Mathlib.Nat.{add-zero, zero-add, suc-add, add-suc, pow-suc, mul_assoc, mul-le-mul_right}
use native.Mathlib.Omega.{arith}
use borrow.Author.Tests.{ltb-true, ltb-false}
use lib.Dec.{ltb}
use lib.Pow.{pow-add}
use lib.ListN.{length, set, length-map}
use lib.Seq.{sets}
use Rattle.bits.specs.Bytes.{bytes_of, joined, span_of}
use Rattle.bits.proofs.Bytes.{length_bytes, bytes_more, bytes_low}
use Rattle.memory.specs.Taints.{normal}
use Rattle.memory.proofs.Taints.{joined_append, normal_bytes}
use Rattle.vectors.specs.declared.Halves.{Halves}
use Rattle.vectors.specs.File.{number_of, normal_halves}

-- ---- loaded

-- bytes behind a others
pub joined_more : (xs : List ℕ) (at a b : ℕ) → joined (span_of xs at (a + b)) ≡ joined (span_of xs at a) + joined (span_of xs (at + a) b) * 256 ^ a
unfolding joined span_of
joined_more xs at zero b = rw (zero-add b, add-zero at) (omega arith)
joined_more xs at (suc a) b =
    let more = joined_more xs (suc at) a b in
    let e : suc at + a ≡ at + suc a = omega arith in
    let x = joined (span_of xs (suc at) a) in
    let y = joined (span_of xs (at + suc a) b) in
    let p : y * 256 ^ suc a ≡ y * 256 ^ a * 256 = ap (λ (z : ℕ). y * z) (pow-suc 256 a) ∙ sym (mul_assoc y (256 ^ a) 256) in
    let z = y * 256 ^ a in
    rw (suc-add a b, more, e, p) (omega arith)

-- the low half of up to 8 bytes, and the high half of those behind
halves_at_lem : (xs : List ℕ) (at n : ℕ) (z : Bool) → ltb 8 n ≡ z → joined (span_of xs at n) ≡ joined (span_of xs at (min n 8)) + joined (span_of xs (at + 8) (n - 8)) * 2 ^ 64
unfolding joined span_of
halves_at_lem xs at n true e =
    let l : 8 < n = ltb-true 8 n e in
    let m : min n 8 ≡ 8 = omega arith in
    let s : n ≡ 8 + (n - 8) = omega arith in
    rw m (ap (λ (k : ℕ). joined (span_of xs at k)) s ∙ joined_more xs at 8 (n - 8))
halves_at_lem xs at n false e =
    let l : n ≤ 8 = ltb-false 8 n e in
    let m : min n 8 ≡ n = omega arith in
    let s : n - 8 ≡ 0 = omega arith in
    rw (m, s) (omega arith)

pub halves_joined : (xs : List ℕ) (at n : ℕ) → joined (span_of xs at n) ≡ joined (span_of xs at (min n 8)) + joined (span_of xs (at + 8) (n - 8)) * 2 ^ 64
halves_joined xs at n = halves_at_lem xs at n (ltb 8 n) refl

-- ---- stored

pub sets_more : (bs cs xs : List ℕ) (at : ℕ) → sets xs at (bs ++ cs) ≡ sets (sets xs at bs) (at + length bs) cs
sets_more [] cs xs at = rw (add-zero at)
sets_more (b ∷ bs) cs xs at = rw (add-suc at (length bs), ← suc-add at (length bs)) (sets_more bs cs (set xs at b) (suc at))

bytes_at : (n lo hi : ℕ) (z : Bool) → ltb 8 n ≡ z → lo < 2 ^ 64 → bytes_of n (lo + hi * 2 ^ 64) ≡ bytes_of (min n 8) lo ++ bytes_of (n - 8) hi
unfolding bytes_of
bytes_at n lo hi true e h =
    let l : 8 < n = ltb-true 8 n e in
    let m : min n 8 ≡ 8 = omega arith in
    let s : n ≡ 8 + (n - 8) = omega arith in
    let d : (lo + hi * 2 ^ 64) / 256 ^ 8 ≡ hi = omega arith in
    let b : bytes_of 8 (lo + hi * 2 ^ 64) ≡ bytes_of 8 lo = bytes_low 8 lo hi in
    ap (λ (k : ℕ). bytes_of k (lo + hi * 2 ^ 64)) s ∙ bytes_more 8 (n - 8) (lo + hi * 2 ^ 64) ∙ ap2 b (ap (bytes_of (n - 8)) d) ∙ ap (λ (k : ℕ). bytes_of k lo ++ bytes_of (n - 8) hi) (sym m)
  where
    ap2 : {a b c d : List ℕ} → a ≡ b → c ≡ d → a ++ c ≡ b ++ d
    ap2 f g = rw (f, g)
bytes_at n lo hi false e h =
    let l : n ≤ 8 = ltb-false 8 n e in
    let m : min n 8 ≡ n = omega arith in
    let s : n - 8 ≡ 0 = omega arith in
    let d : (8 - n) + n ≡ 8 = omega arith in
    let p : hi * 2 ^ 64 ≡ hi * 256 ^ (8 - n) * 256 ^ n = ap (λ (k : ℕ). hi * 256 ^ k) (sym d) ∙ ap (λ (k : ℕ). hi * k) (pow-add 256 (8 - n) n) ∙ sym (mul_assoc hi (256 ^ (8 - n)) (256 ^ n)) in
    let b : bytes_of n (lo + hi * 2 ^ 64) ≡ bytes_of n lo = ap (λ (k : ℕ). bytes_of n (lo + k)) p ∙ bytes_low n lo (hi * 256 ^ (8 - n)) in
    rw (m, s) (b ∙ sym (append-nil (bytes_of n lo)))

pub bytes_halves : (n lo hi : ℕ) → lo < 2 ^ 64 → bytes_of n (lo + hi * 2 ^ 64) ≡ bytes_of (min n 8) lo ++ bytes_of (n - 8) hi
bytes_halves n lo hi h = bytes_at n lo hi (ltb 8 n) refl h

-- the halves one behind the other
pub sets_halves : (xs : List ℕ) (at n lo hi : ℕ) → lo < 2 ^ 64 → sets xs at (bytes_of n (lo + hi * 2 ^ 64)) ≡ sets (sets xs at (bytes_of (min n 8) lo)) (at + min n 8) (bytes_of (n - 8) hi)
sets_halves xs at n lo hi h =
    ap (sets xs at) (bytes_halves n lo hi h) ∙ sets_more (bytes_of (min n 8) lo) (bytes_of (n - 8) hi) xs at
    ∙ ap (λ (k : ℕ). sets (sets xs at (bytes_of (min n 8) lo)) (at + k) (bytes_of (n - 8) hi)) (length_bytes (min n 8) lo)

-- of at most 8 bytes the low half alone, and of more both
pub sets_low : (xs : List ℕ) (at n lo hi : ℕ) → lo < 2 ^ 64 → n ≤ 8 → sets xs at (bytes_of n lo) ≡ sets xs at (bytes_of n (lo + hi * 2 ^ 64))
unfolding bytes_of
sets_low xs at n lo hi h l =
    let m : min n 8 ≡ n = omega arith in
    let s : n - 8 ≡ 0 = omega arith in
    sym (rw (m, s) at (sets_halves xs at n lo hi h))

pub sets_both : (xs : List ℕ) (at n lo hi : ℕ) → lo < 2 ^ 64 → 8 < n → sets (sets xs at (bytes_of 8 lo)) (at + 8) (bytes_of (n - 8) hi) ≡ sets xs at (bytes_of n (lo + hi * 2 ^ 64))
sets_both xs at n lo hi h l =
    let m : min n 8 ≡ 8 = omega arith in
    sym (rw m at (sets_halves xs at n lo hi h))

-- ---- taints

-- of sixteen bytes, by halves
normal_number : (lo hi : ℕ) → lo < 2 ^ 64 → joined (map normal (bytes_of 16 (lo + hi * 2 ^ 64))) ≡ joined (map normal (bytes_of 8 lo)) + joined (map normal (bytes_of 8 hi)) * 2 ^ 64
normal_number lo hi h =
    let low = map normal (bytes_of 8 lo) in
    let high = map normal (bytes_of 8 hi) in
    let parts : map normal (bytes_of 16 (lo + hi * 2 ^ 64)) ≡ low ++ high = ap (map normal) (bytes_halves 16 lo hi h) ∙ map-append normal (bytes_of 8 lo) (bytes_of 8 hi) in
    let l : length low ≡ 8 = length-map (bytes_of 8 lo) normal ∙ length_bytes 8 lo in
    ap joined parts ∙ joined_append low high ∙ ap (λ (n : ℕ). joined low + joined high * 256 ^ n) l

pub below : (lo hi b : ℕ) → lo < b → hi < b → lo + hi * b < b * b
below lo hi b l u =
    let m : suc hi * b ≤ b * b = mul-le-mul_right b u in
    omega arith

pub bytes_normal : (n : ℕ) (h : Halves) → h.low < 2 ^ 64 → h.high < 2 ^ 64 → bytes_of n (number_of (normal_halves h)) ≡ map normal (bytes_of n (number_of h))
bytes_normal n h l u =
    let fits : number_of h < 256 ^ 16 = below h.low h.high (2 ^ 64) l u in
    ap (bytes_of n) (sym (normal_number h.low h.high l)) ∙ normal_bytes 16 n (number_of h) fits
