-- Arm's bits as the machine's numbers: extensions, offsets and indexes. `sign_extend` carries it: at every width, copies of
-- the top bit are one number to add. Assumes nothing.
use Prim.Native.Nat.{ℕ, zero, suc, ◌+◌, ◌-◌, ◌*◌, ◌/◌, ◌%◌, ◌^◌, ◌≤◌, ◌<◌}
use mathlib.Core.Path.{◌≡◌, refl, sym, ap, ◌∙◌}
use mathlib.Core.Bool.{Bool, true, false}
use native.Mathlib.Nat.{pow-suc, zero-mul, zero-add, add-zero, add_comm, add-mul, suc-mul, suc-add, mul-le-mul_right, mul_comm}
use native.Mathlib.Nat.{div-one, div-eq_of_lt, mul-mod_left, add-mul-mod_self_right, mod-eq_of_lt, mod-lt}
use native.Mathlib.Omega.{arith}
use lib.Dec.{ltb}
use lib.IntN.{pos, neg_ℤ}
use lib.Pow.{pow_pos, pow_mono, pow-add, high_ones, high, shl_lt, shl_exact, shl-shr, mod-pow-add}
use borrow.Author.Tests.{ltb-true, ltb-false, lt-ltb, le-ltb}
use Rattle.bits.specs.Choice.{pick}
use Rattle.bits.specs.Fields.{part, field}
use Rattle.bits.specs.Signed.{signed_of, twos_complement}
use Rattle.bits.proofs.Offsets.{mul_pos}
use Rattle.bits.proofs.Parts.{part_lt}
use Rattle.bits.specs.Extension.{largest, extended_of}
use Rattle.plan.specs.Address.{index_of, shifted_of}
use Rattle.bits.proofs.Extensions.{two_256}
use Rattle.arm.specs.Pseudocode.{Arm, X, ExtendReg, Replicate, Concat, SignExtend, ZeroExtend, LSL, Add}

-- ---- numbers of 64 bits

pub low_bits : (width v : ℕ) → 0 < width → field (width - 1) 0 v ≡ v % 2 ^ width
unfolding part
low_bits width v h =
    let e : width - 1 + 1 - 0 ≡ width = omega arith in
    rw (e, div-one)

-- a number of so many bits is all of them
pub within : (width v : ℕ) → 0 < width → v < 2 ^ width → field (width - 1) 0 v ≡ v
within width v p h = low_bits width v p ∙ mod-eq_of_lt h

pub full : (v : ℕ) → v < 2 ^ 64 → field 63 0 v ≡ v
full v h = within 64 v (omega arith) h

pub add_is : (x y : ℕ) → Add x y ≡ (x + y) % 2 ^ 64
unfolding Add
add_is x y = low_bits 64 (x + y) (omega arith)

pub add_lt : (x y : ℕ) → Add x y < 2 ^ 64
unfolding Add
add_lt x y = part_lt 0 64 (x + y)

pub add_small : (x y : ℕ) → x + y < 2 ^ 64 → Add x y ≡ x + y
add_small x y h = add_is x y ∙ mod-eq_of_lt h

lsl_is : (x n : ℕ) → LSL x n ≡ x * 2 ^ n % 2 ^ 64
unfolding LSL
lsl_is x n = low_bits 64 (x * 2 ^ n) (omega arith)

-- ---- extensions

zeros : (n : ℕ) → Replicate 0 n ≡ 0
zeros zero = refl
zeros (suc n) = rw (zeros n)

ones : (n : ℕ) → Replicate 1 n + 1 ≡ 2 ^ n
ones zero = refl
ones (suc n) = rw (pow-suc 2 n) (omega (arith, ones n))

pub zero_extend : (from to x : ℕ) → 0 < from → x < 2 ^ from → ZeroExtend from to x ≡ x
unfolding ZeroExtend
zero_extend from to x p h = rw (within from x p h, zeros (to - from), zero-mul, zero-add)

-- the top bit of k + 1 bits
top_is : (k x : ℕ) → x < 2 ^ suc k → (t : Bool) → ltb x (2 ^ k) ≡ t → x / 2 ^ k % 2 ^ 1 ≡ pick t 0 1
top_is k x h true e = rw (div-eq_of_lt (ltb-true x (2 ^ k) e))
top_is k x h false e =
    let l : 2 ^ k ≤ x = ltb-false x (2 ^ k) e in
    let m : x < 2 ^ k * 2 = rw pow-suc at h in
    let d : 1 * 2 ^ k + (x - 2 ^ k) ≡ x = omega arith in
    let q : x / 2 ^ k ≡ 1 = rw d at (high 1 k {lo = x - 2 ^ k} (omega arith)) in
    rw q

top_bit : (k x : ℕ) → x < 2 ^ suc k → field (suc k - 1) (suc k - 1) x ≡ pick (ltb x (2 ^ k)) 0 1
unfolding part
top_bit k x h =
    let a : suc k - 1 ≡ k = omega arith in
    let b : k + 1 - k ≡ 1 = omega arith in
    rw (a, b) (top_is k x h (ltb x (2 ^ k)) refl)

-- copies of the top bit, above x
copies : (k to x : ℕ) → suc k ≤ to → (t : Bool) → Concat (Replicate (pick t 0 1) (to - suc k)) (suc k) x ≡ pick t x (x + (2 ^ to - 2 ^ suc k))
copies k to x l true = rw (zeros (to - suc k), zero-mul, zero-add)
copies k to x l false =
    let r : Replicate 1 (to - suc k) ≡ 2 ^ (to - suc k) - 1 = omega (arith, ones (to - suc k)) in
    let e : to - suc k + suc k ≡ to = omega arith in
    rw (r, ← high_ones (to - suc k) (suc k), e) (add_comm _ _)

pub sign_extend : (k to x : ℕ) → suc k ≤ to → x < 2 ^ suc k → SignExtend (suc k) to x ≡ pick (ltb x (2 ^ k)) x (x + (2 ^ to - 2 ^ suc k))
unfolding SignExtend
sign_extend k to x l h = rw (top_bit k x h, within (suc k) x (omega arith) h) (copies k to x l (ltb x (2 ^ k)))

sign_none : (n x : ℕ) → 0 < n → x < 2 ^ n → SignExtend n n x ≡ x
unfolding SignExtend
sign_none n x p h =
    let e : n - n ≡ 0 = omega arith in
    rw (within n x p h, e, zero-mul, zero-add)

-- the machine tests the sign by the half of the values
pub extended_is : (n to v : ℕ) → suc n ≤ to → v < 256 ^ suc n → extended_of (suc n) to v ≡ SignExtend (8 * suc n) (8 * to) v
unfolding extended_of largest
extended_is n to v l h =
    let k = 8 * n + 7 in
    let a : 8 * suc n ≡ suc k = omega arith in
    let p : 256 ^ suc n ≡ 2 ^ k * 2 = sym (two_256 (suc n)) ∙ ap (λ (x : ℕ). 2 ^ x) a ∙ pow-suc 2 k in
    let b : v < 2 ^ suc k = rw (pow-suc 2 k, ← p) h in
    rw (a, sign_extend k (8 * to) v (omega arith) b, p, ← two_256 to, pow-suc 2 k) (half (2 ^ k) (2 ^ (8 * to)) v (pow_pos k) (ltb v (2 ^ k)) refl)
  where
    half : (h t v : ℕ) → 0 < h → (b : Bool) → ltb v h ≡ b → pick (ltb ((h * 2 - 1) / 2) v) (v + (t - 1 - (h * 2 - 1))) v ≡ pick b v (v + (t - h * 2))
    half h t v z true e = simp (le-ltb ((h * 2 - 1) / 2) v (omega (arith, ltb-true v h e)))
    half h t v z false e = simp (lt-ltb ((h * 2 - 1) / 2) v (omega (arith, ltb-false v h e))) (omega arith)

-- ---- extended and shifted

less_times : (a b p : ℕ) → b ≤ a → (a - b) * p + b * p ≡ a * p
less_times a b p h =
    let e : a - b + b ≡ a = omega arith in
    sym (add-mul (a - b) b p) ∙ ap (λ (x : ℕ). x * p) e

-- ones above x up to m, shifted, are ones above x shifted
ones_shifted : (m n p x : ℕ) → 0 < p → n ≤ m → n * p ≤ m → x < n → (x + (m - n)) * p % m ≡ x * p + (m - n * p)
ones_shifted m n p x h l f k =
    let a : suc x * p ≤ n * p = mul-le-mul_right p k in
    let b : x * p + p ≤ n * p = rw suc-mul at a in
    let c : suc (p - 1) ≡ p = omega arith in
    let d : p * m ≡ (p - 1) * m + m = rw c at (suc-mul (p - 1) m) in
    let e : (x + (m - n)) * p ≡ x * p + (m - n * p) + (p - 1) * m =
    add-mul x (m - n) p ∙ (let q : (m - n) * p + n * p ≡ p * m = less_times m n p l ∙ mul_comm m p in omega (arith, d)) in
    rw (e, add-mul-mod_self_right (x * p + (m - n * p)) (p - 1) m) (mod-eq_of_lt (omega arith))

module _ (k i x : ℕ) (l : suc k + i ≤ 64) (h : x < 2 ^ suc k) where
  scaled_fits : 2 ^ suc k * 2 ^ i ≤ 2 ^ 64
  scaled_fits = rw (← pow-add 2 (suc k) i) (pow_mono l)

  -- of k + 1 bits
  pub lsl_extended : LSL (SignExtend (suc k) 64 x) i ≡ pick (ltb x (2 ^ k)) (x * 2 ^ i) (x * 2 ^ i + (2 ^ 64 - 2 ^ suc k * 2 ^ i))
  lsl_extended = lsl_is (SignExtend (suc k) 64 x) i ∙ rw (sign_extend k 64 x (omega arith) h) (go (ltb x (2 ^ k)))
    where
      go : (t : Bool) → pick t x (x + (2 ^ 64 - 2 ^ suc k)) * 2 ^ i % 2 ^ 64 ≡ pick t (x * 2 ^ i) (x * 2 ^ i + (2 ^ 64 - 2 ^ suc k * 2 ^ i))
      go true = shl_exact (suc k) i 64 h l
      go false = ones_shifted (2 ^ 64) (2 ^ suc k) (2 ^ i) x (pow_pos i) (pow_mono (let q : suc k ≤ 64 = omega arith in q)) scaled_fits h

  -- shifted first, or extended first
  pub extend_shifted : SignExtend (suc k + i) 64 (Concat x i 0) ≡ LSL (SignExtend (suc k) 64 x) i
  extend_shifted =
      let y : x * 2 ^ i < 2 ^ suc (k + i) = rw suc-add at (shl_lt (suc k) i h) in
      rw (suc-add k i, add-zero (x * 2 ^ i), sign_extend (k + i) 64 (x * 2 ^ i) (omega arith) y, lsl_extended, ← suc-add k i, pow-add 2 (suc k) i)
      (ap (λ (t : Bool). pick t (x * 2 ^ i) (x * 2 ^ i + (2 ^ 64 - 2 ^ suc k * 2 ^ i))) (go (ltb x (2 ^ k)) refl))
    where
      go : (t : Bool) → ltb x (2 ^ k) ≡ t → ltb (x * 2 ^ i) (2 ^ (k + i)) ≡ t
      go true e = lt-ltb _ _ (shl_lt k i (ltb-true x (2 ^ k) e))
      go false e =
          let l : 2 ^ (k + i) ≤ x * 2 ^ i = rw (pow-add 2 k i) (mul-le-mul_right (2 ^ i) (ltb-false x (2 ^ k) e)) in
          le-ltb (x * 2 ^ i) (2 ^ (k + i)) l

-- ---- offsets: a signed field, times a scale, modulo 2 ^ 64

complement_is : (m : ℕ) → 0 < m → twos_complement (neg_ℤ (pos m)) ≡ 2 ^ 64 - m
complement_is zero h = absurd (omega arith)
complement_is (suc m) h = omega arith

pub offset_is : (k i b : ℕ) → suc k + i ≤ 64 → b < 2 ^ suc k → LSL (SignExtend (suc k) 64 b) i ≡ twos_complement (signed_of (2 ^ k) (2 ^ i) b)
unfolding signed_of
offset_is k i b l h = lsl_extended k i b l h ∙ go (ltb b (2 ^ k))
  where
    go : (t : Bool) → pick t (b * 2 ^ i) (b * 2 ^ i + (2 ^ 64 - 2 ^ suc k * 2 ^ i)) ≡ twos_complement (pick t (pos (b * 2 ^ i)) (neg_ℤ (pos ((2 * 2 ^ k - b) * 2 ^ i))))
    go true = refl
    go false =
        let m : b < 2 ^ k * 2 = rw pow-suc at h in
        let f : 2 ^ k * 2 * 2 ^ i ≤ 2 ^ 64 = rw (pow-suc 2 k) at (scaled_fits k i b l h) in
        let d : 2 * 2 ^ k ≡ 2 ^ k * 2 = omega arith in
        let p : 0 < (2 ^ k * 2 - b) * 2 ^ i = mul_pos _ _ (omega arith) (pow_pos i) in
        rw (d, complement_is ((2 ^ k * 2 - b) * 2 ^ i) p, pow-suc 2 k) (omega (arith, less_times (2 ^ k * 2) b (2 ^ i) (omega arith), f))

pub imm9_is : (imm9 : ℕ) → imm9 < 2 ^ 9 → SignExtend 9 64 imm9 ≡ twos_complement (signed_of 256 1 imm9)
imm9_is b h =
    let e : b ≡ b * 2 ^ 0 + 0 = omega arith in
    ap (SignExtend 9 64) e ∙ extend_shifted 8 0 b (omega arith) h ∙ offset_is 8 0 b (omega arith) h

pub imm19_is : (imm19 : ℕ) → imm19 < 2 ^ 19 → SignExtend 21 64 (Concat imm19 2 0b00) ≡ twos_complement (signed_of 262144 4 imm19)
imm19_is b h = extend_shifted 18 2 b (omega arith) h ∙ offset_is 18 2 b (omega arith) h

pub imm12_is : (imm12 scale : ℕ) → imm12 < 2 ^ 12 → scale < 5 → LSL (ZeroExtend 12 64 imm12) scale ≡ imm12 * 2 ^ scale
imm12_is b scale h l = lsl_is (ZeroExtend 12 64 b) scale ∙ rw (zero_extend 12 64 b (omega arith) h) (shl_exact 12 scale 64 h (omega arith))

-- ---- indexes

-- of the low bits of x, as many as have room above a shift
low_scaled : (k x : ℕ) → k ≤ 64 → x % 2 ^ (64 - k) * 2 ^ k ≡ x * 2 ^ k % 2 ^ 64
low_scaled k x h =
    let e : 64 - k + k ≡ 64 = omega arith in
    let p : x * 2 ^ k % 2 ^ 64 ≡ (x * 2 ^ k / 2 ^ k % 2 ^ (64 - k)) * 2 ^ k + x * 2 ^ k % 2 ^ k = rw e at (mod-pow-add (x * 2 ^ k) (64 - k) k) in
    rw (p, shl-shr x k, mul-mod_left x (2 ^ k)) (sym (add-zero _))

module _ (m : ℕ) (s : Arm) (shift : ℕ) (h : shift < 5) where
  abbrev Agree : ℕ → Type 0
  Agree option = ExtendReg m option shift s ≡ shifted_of option shift (X m 64 s)

  same_shift : shift % 64 ≡ shift
  same_shift = omega arith

  -- 32 bits have room, with zeros or their sign above them
  word_room : pick (ltb (64 - shift) 32) (64 - shift) 32 ≡ 32
  word_room = rw (le-ltb (64 - shift) 32 (omega arith))

  uxtw : Agree 0b010
  unfolding ExtendReg shifted_of index_of part
  uxtw =
      let u : ℕ = X m 64 s % 2 ^ 32 in
      let l : u < 2 ^ 32 = mod-lt (X m 64 s) (pow_pos 32) in
      rw (word_room, same_shift, low_bits 32 (X m 64 s) (omega arith), add-zero, zero_extend (32 + shift) 64 (u * 2 ^ shift) (omega arith) (shl_lt 32 shift l))
      (sym (shl_exact 32 shift 64 l (omega arith)))

  sxtw : Agree 0b110
  unfolding ExtendReg shifted_of index_of part
  sxtw =
      let u : ℕ = X m 64 s % 2 ^ 32 in
      let l : u < 2 ^ 32 = mod-lt (X m 64 s) (pow_pos 32) in
      rw (word_room, same_shift, low_bits 32 (X m 64 s) (omega arith), extended_is 3 8 u (omega arith) l) (extend_shifted 31 shift u (omega arith) l ∙ lsl_is (SignExtend 32 64 u) shift)

  -- of 64 bits, those have room that the shift leaves
  double_room : pick (ltb (64 - shift) 64) (64 - shift) 64 ≡ 64 - shift
  double_room = go (ltb (64 - shift) 64) refl
    where
      go : (t : Bool) → ltb (64 - shift) 64 ≡ t → pick t (64 - shift) 64 ≡ 64 - shift
      go true e = refl
      go false e = omega (arith, ltb-false (64 - shift) 64 e)

  filled : 64 - shift + shift ≡ 64
  filled = omega arith

  low_fits : X m 64 s % 2 ^ (64 - shift) * 2 ^ shift < 2 ^ 64
  low_fits = rw filled at (shl_lt (64 - shift) shift (mod-lt (X m 64 s) (pow_pos (64 - shift))))

  uxtx : Agree 0b011
  unfolding ExtendReg shifted_of index_of part
  uxtx = rw (double_room, filled, same_shift, low_bits (64 - shift) (X m 64 s) (omega arith), add-zero, zero_extend 64 64 _ (omega arith) low_fits) (low_scaled shift (X m 64 s) (omega arith))

  sxtx : Agree 0b111
  unfolding ExtendReg shifted_of index_of part
  sxtx = rw (double_room, filled, same_shift, low_bits (64 - shift) (X m 64 s) (omega arith), add-zero, sign_none 64 _ (omega arith) low_fits) (low_scaled shift (X m 64 s) (omega arith))

-- option 010, 011, 110 and 111: bit 1 is set
pub index_is : (m : ℕ) (s : Arm) (option shift : ℕ) → option < 8 → ¬ (field 1 1 option ≡ 0) → shift < 5 → ExtendReg m option shift s ≡ shifted_of option shift (X m 64 s)
unfolding part
index_is m s zero shift h n k = absurd (n refl)
index_is m s (suc zero) shift h n k = absurd (n refl)
index_is m s (suc (suc zero)) shift h n k = uxtw m s shift k
index_is m s (suc (suc (suc zero))) shift h n k = uxtx m s shift k
index_is m s (suc (suc (suc (suc zero)))) shift h n k = absurd (n refl)
index_is m s (suc (suc (suc (suc (suc zero))))) shift h n k = absurd (n refl)
index_is m s (suc (suc (suc (suc (suc (suc zero)))))) shift h n k = sxtw m s shift k
index_is m s (suc (suc (suc (suc (suc (suc (suc zero))))))) shift h n k = sxtx m s shift k
index_is m s (suc (suc (suc (suc (suc (suc (suc (suc option)))))))) shift h n k = absurd (omega arith)
