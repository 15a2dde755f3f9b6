-- Laws of the bytes of a number. Assumes nothing.
use Rattle.std.proofs.Common.{◌≡◌, ℕ, zero, suc, ◌+◌, ◌*◌, ◌/◌, ◌%◌, ◌^◌, ◌<◌, List, [], ◌∷◌, ◌++◌, length, take, drop, replicate, sym, refl, ap, ◌∙◌, mul_assoc, suc-add, pow-suc, zero-add, div-one, arith, take_at}
use native.Mathlib.Nat.{pow-succ', div-div-eq-div-mul}
use Rattle.bits.specs.Bytes.{bytes_of, joined}

pub length_bytes : (n v : ℕ) → length (bytes_of n v) ≡ n
unfolding bytes_of
length_bytes zero v = refl
length_bytes (suc n) v = ap suc (length_bytes n (v / 256))

-- a byte in front
pub bytes_cons : (n b v : ℕ) → b < 256 → bytes_of (suc n) (b + v * 256) ≡ b ∷ bytes_of n v
unfolding bytes_of
bytes_cons n b v h =
    let e : (b + v * 256) % 256 ≡ b = omega arith in
    let f : (b + v * 256) / 256 ≡ v = omega arith in
    rw (e, f)

-- more bytes behind l
pub bytes_more : (l k v : ℕ) → bytes_of (l + k) v ≡ bytes_of l v ++ bytes_of k (v / 256 ^ l)
unfolding bytes_of
bytes_more zero k v = rw (zero-add k, div-one v)
bytes_more (suc l) k v = rw (suc-add l k, pow-succ' 256 l, ← div-div-eq-div-mul v 256 (256 ^ l)) (ap (λ (r : List ℕ). v % 256 ∷ r) (bytes_more l k (v / 256)))

-- the bytes in front dropped
pub bytes_drop : (j k v : ℕ) → bytes_of k (v / 256 ^ j) ≡ drop j (bytes_of (j + k) v)
unfolding bytes_of
bytes_drop zero k v = rw (div-one v, zero-add k)
bytes_drop (suc j) k v = rw (pow-succ' 256 j, ← div-div-eq-div-mul v 256 (256 ^ j), suc-add j k) (bytes_drop j k (v / 256))

-- the bytes in front alone
pub bytes_take : (n k v : ℕ) → take n (bytes_of (n + k) v) ≡ bytes_of n v
bytes_take n k v = ap (take n) (bytes_more n k v) ∙ take_at (bytes_of n v) (bytes_of k (v / 256 ^ n)) n (length_bytes n v)

pub bytes_none : (k : ℕ) → bytes_of k 0 ≡ replicate k 0
unfolding bytes_of
bytes_none zero = refl
bytes_none (suc k) = ap (λ (r : List ℕ). 0 ∷ r) (bytes_none k)

-- the number that the bytes of a number make
pub joined_bytes : (n v : ℕ) → v < 256 ^ n → joined (bytes_of n v) ≡ v
unfolding bytes_of joined
joined_bytes zero v h = omega arith
joined_bytes (suc n) v h =
    let m = 256 ^ n in
    let l : v < m * 256 = rw (pow-suc 256 n) at h in
    rw (joined_bytes n (v / 256) (omega arith)) (omega arith)

-- ---- eight bytes, by halves

pub four_are : {a b c d : ℕ} → a < 256 → b < 256 → c < 256 → d < 256 → bytes_of 4 (a + (b + (c + d * 256) * 256) * 256) ≡ a ∷ b ∷ c ∷ d ∷ []
unfolding bytes_of
four_are {a} {b} {c} {d} h i j k =
    let e : d % 256 ≡ d = omega arith in
    bytes_cons 3 a (b + (c + d * 256) * 256) h
    ∙ ap (λ (l : List ℕ). a ∷ l) (bytes_cons 2 b (c + d * 256) i ∙ ap (λ (l : List ℕ). b ∷ l) (bytes_cons 1 c d j ∙ rw e))

-- what stands above n bytes changes none of them
pub bytes_low : (n a b : ℕ) → bytes_of n (a + b * 256 ^ n) ≡ bytes_of n a
unfolding bytes_of
bytes_low zero a b = refl
bytes_low (suc n) a b =
    let p : b * 256 ^ suc n ≡ b * 256 ^ n * 256 = ap (λ (x : ℕ). b * x) (pow-suc 256 n) ∙ sym (mul_assoc b (256 ^ n) 256) in
    let m = b * 256 ^ n in
    let e : (a + m * 256) % 256 ≡ a % 256 = omega arith in
    let f : (a + m * 256) / 256 ≡ a / 256 + m = omega arith in
    rw (p, e, f) (ap (λ (l : List ℕ). a % 256 ∷ l) (bytes_low n (a / 256) b))

pub halves : (a b : ℕ) → a < 2 ^ 32 → bytes_of 8 (a + b * 4294967296) ≡ bytes_of 4 a ++ bytes_of 4 b
halves a b h =
    let e : (a + b * 4294967296) / 256 ^ 4 ≡ b = omega arith in
    bytes_more 4 4 (a + b * 4294967296) ∙ rw (e, bytes_low 4 a b)
