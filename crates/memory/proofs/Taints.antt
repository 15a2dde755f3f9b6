-- Laws of taint bytes. Assumes nothing.
use Prim.Native.Nat.{ℕ, zero, suc, ◌+◌, ◌*◌, ◌/◌, ◌%◌, ◌^◌, ◌≤◌, ◌<◌}
use mathlib.Core.Path.{◌≡◌, refl, sym, ap, ◌∙◌}
use mathlib.Core.Bool.{not}
use mathlib.Core.List.{List, [], ◌∷◌, ◌++◌, map}
use lib.Dec.{eqb, lit<}
use lib.ListN.{length, length-map, get_or-map}
use borrow.Author.Tests.{ne_eqb}
use native.Mathlib.Nat.{pow-suc, mul_assoc}
use native.Mathlib.Omega.{arith}
use Rattle.bits.specs.Bytes.{bytes_of, joined, span_of}
use Rattle.bits.specs.route.Joins.{Joins}
use Rattle.bits.proofs.Bytes.{bytes_cons, length_bytes}
use Rattle.bits.proofs.Spans.{length_span}
use Rattle.memory.specs.Taints.{tainted, normal, byte_at}

pub normal_tainted : (k : ℕ) → tainted (normal k) ≡ tainted k
normal_tainted zero = refl
normal_tainted (suc k) = refl

pub nonzero_tainted : (k : ℕ) → not (eqb k 0) ≡ tainted k
nonzero_tainted zero = refl
nonzero_tainted (suc k) = ap not (ne_eqb (suc k) 0 (λ e. absurd (omega arith)))

pub normal_small : (k : ℕ) → normal k ≤ 1
normal_small zero = omega arith
normal_small (suc k) = omega arith

-- ---- the bytes of a number

pub no_byte : (i : ℕ) → byte_at i 0 ≡ 0
unfolding byte_at
no_byte zero = refl
no_byte (suc i) = no_byte i

-- ---- numbers of taint bytes

pub normal_length : (n v : ℕ) → length (map normal (bytes_of n v)) ≡ n
normal_length n v = length-map (bytes_of n v) normal ∙ length_bytes n v

-- taints joined leave room to be taken 255 times
pub taints_fit : (bs : List ℕ) → joined (map normal bs) * 255 < 256 ^ length bs
unfolding joined
taints_fit [] = lit< tt
taints_fit (b ∷ bs) =
    let m = 256 ^ length bs in
    rw pow-suc (omega (arith, normal_small b, taints_fit bs))

-- bytes of 0 are no taints
pub no_taints : (c : ℕ) → joined (map normal (bytes_of c 0)) ≡ 0
unfolding bytes_of joined
no_taints zero = refl
no_taints (suc c) = rw (no_taints c)

-- the bytes above a number that fits n are not tainted
pub few_taints : (n c v : ℕ) → n ≤ c → v < 256 ^ n → joined (map normal (bytes_of c v)) ≡ joined (map normal (bytes_of n v))
unfolding bytes_of joined
few_taints zero c v h l =
    let z : v ≡ 0 = omega arith in
    rw z (no_taints c)
few_taints (suc n) zero v h l = absurd (omega arith)
few_taints (suc n) (suc c) v h l =
    let m = 256 ^ n in
    let k : v < m * 256 = rw (pow-suc 256 n) at l in
    rw (few_taints n c (v / 256) (omega arith) (omega arith))

normal_none : (n : ℕ) → map normal (bytes_of n 0) ≡ bytes_of n 0
unfolding bytes_of
normal_none zero = refl
normal_none (suc n) = ap (λ (l : List ℕ). 0 ∷ l) (normal_none n)

-- and the bytes of what they make are they, whatever the width
pub normal_bytes : (c n v : ℕ) → v < 256 ^ c → bytes_of n (joined (map normal (bytes_of c v))) ≡ map normal (bytes_of n v)
unfolding bytes_of joined
normal_bytes c zero v h = refl
normal_bytes zero (suc n) v h =
    let z : v ≡ 0 = omega arith in
    rw z (sym (normal_none (suc n)))
normal_bytes (suc c) (suc n) v h =
    let m = 256 ^ c in
    let k : v < m * 256 = rw (pow-suc 256 c) at h in
    bytes_cons n (normal (v % 256)) (joined (map normal (bytes_of c (v / 256)))) (omega (arith, normal_small (v % 256)))
    ∙ ap (λ (l : List ℕ). normal (v % 256) ∷ l) (normal_bytes c n (v / 256) (omega arith))

-- of bytes read from a part
pub span_taints : (xs : List ℕ) (n : ℕ) {y r : ℕ} → n ≤ 8 → Joins xs 0 n y → r ≡ joined (map normal (bytes_of 8 y)) → (r ≡ joined (map normal (span_of xs 0 n))) × (r * 255 < 256 ^ n)
span_taints xs n {y} {r} h j e =
    let f : r ≡ joined (map normal (span_of xs 0 n)) = e ∙ few_taints n 8 y h j.fits ∙ ap (λ (bs : List ℕ). joined (map normal bs)) j.are in
    let g : joined (map normal (span_of xs 0 n)) * 255 < 256 ^ length (span_of xs 0 n) = taints_fit (span_of xs 0 n) in
    (f, rw f (rw (length_span xs 0 n) at g))

pub joined_append : (xs ys : List ℕ) → joined (xs ++ ys) ≡ joined xs + joined ys * 256 ^ length xs
unfolding joined
joined_append [] ys = omega arith
joined_append (x ∷ xs) ys =
    let j = joined ys in
    let m = 256 ^ length xs in
    let e : j * (m * 256) ≡ j * m * 256 = sym (mul_assoc j m 256) in
    rw (joined_append xs ys, pow-suc, e) (omega arith)

-- the taints of bytes read are bytes read of taints
pub span_normal : (xs : List ℕ) (at n : ℕ) → map normal (span_of xs at n) ≡ span_of (map normal xs) at n
unfolding span_of
span_normal xs at zero = refl
span_normal xs at (suc n) = rw (span_normal xs (suc at) n, get_or-map normal xs at 0)
