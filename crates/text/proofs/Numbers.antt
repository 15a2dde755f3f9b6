-- Numbers in decimal: all seven digits, and those in front dropped. Assumes nothing.
use Prim.Native.Nat.{ℕ, zero, suc, ◌+◌, ◌-◌, ◌*◌, ◌/◌, ◌%◌, ◌^◌, ◌≤◌, ◌<◌}
use mathlib.Core.Path.{◌≡◌, refl, sym, ap, ◌∙◌}
use mathlib.Core.Bool.{Bool, true, false}
use mathlib.Core.List.{List, [], ◌∷◌, ◌++◌}
use native.Mathlib.Nat.{one-le-pow, pow-suc, mul-suc, add-suc, add-zero, div-lt_iff_lt-mul}
use native.Mathlib.Omega.{arith}
use borrow.Author.Tests.{lt-ltb, le-ltb, ltb-true, ltb-false}
use lib.Dec.{ltb, lit<}
use lib.ListN.{length, drop, length-append}
use lib.Pow.{pow-add}
use lib.Seq.{drop-length, drop-append-le}
use Rattle.bits.specs.Bytes.{bytes_of}
use Rattle.bits.proofs.Bytes.{bytes_drop}
use Rattle.ascii.specs.Ascii.{dec}
use Rattle.ascii.proofs.Decimals.{dec_one, dec_two, dec_more}
use Rattle.text.specs.declared.piece.Piece.{Piece}
use Rattle.text.specs.route.Pieces.{text_in, Shows, padded, reaches_of, count_to}
use Rattle.text.proofs.Packing.{shown}

-- ---- digits

pub one_digit : (n : ℕ) → n < 10 → (48 + n % 10) ∷ [] ≡ dec n
one_digit n h =
    let e : n % 10 ≡ n = omega arith in
    rw e (sym (dec_one n h))

pub two_digits : (n : ℕ) → 10 ≤ n → n < 100 → (48 + n / 10) ∷ (48 + n % 10) ∷ [] ≡ dec n
two_digits n h k = sym (dec_two n h k)

pub seven_are : (n : ℕ) → (48 + n / 1000000 % 10) ∷ (48 + n / 100000 % 10) ∷ (48 + n / 10000 % 10) ∷ (48 + n / 1000 % 10) ∷ (48 + n / 100 % 10) ∷ (48 + n / 10 % 10) ∷ (48 + n % 10) ∷ [] ≡ padded 7 n
seven_are n =
    let a : n / 10 / 10 ≡ n / 100 = omega arith in
    let b : n / 100 / 10 ≡ n / 1000 = omega arith in
    let d : n / 1000 / 10 ≡ n / 10000 = omega arith in
    let e : n / 10000 / 10 ≡ n / 100000 = omega arith in
    let f : n / 100000 / 10 ≡ n / 1000000 = omega arith in
    rw (a, b, d, e, f)

length_padded : (k n : ℕ) → length (padded k n) ≡ k
length_padded zero n = refl
length_padded (suc k) n = omega (arith, length-append (padded k (n / 10)) ((48 + n % 10) ∷ []), length_padded k (n / 10))

-- the last k digits of more
drop_padded : (j k n : ℕ) → drop j (padded (j + k) n) ≡ padded k n
drop_padded j zero n =
    let e = length_padded j n in
    rw (add-zero) (ap (λ (i : ℕ). drop i (padded j n)) (sym e) ∙ drop-length (padded j n))
drop_padded j (suc k) n =
    rw (add-suc j k)
    (drop-append-le j (padded (j + k) (n / 10)) ((48 + n % 10) ∷ []) (omega (arith, length_padded (j + k) (n / 10)))
    ∙ ap (λ (l : List ℕ). l ++ ((48 + n % 10) ∷ [])) (drop_padded j k (n / 10)))

-- a number that has just these digits
dec_padded : (k n : ℕ) → 10 ^ suc k ≤ n → n < 10 ^ suc (suc k) → n < 10 ^ 20 → dec n ≡ padded (suc (suc k)) n
dec_padded zero n h g l =
    let e : n / 10 % 10 ≡ n / 10 = omega arith in
    rw e (dec_two n h g)
dec_padded (suc k) n h g l =
    let a = pow-suc 10 (suc k) in
    let b = pow-suc 10 (suc (suc k)) in
    dec_more n (omega (arith, one-le-pow (suc k) 10 (lit< tt))) l ∙ ap (λ (l : List ℕ). l ++ ((48 + n % 10) ∷ [])) (dec_padded k (n / 10) (omega arith) (omega arith) (omega arith))

-- ---- the bytes in front dropped

pow_eight : (j : ℕ) → 2 ^ (8 * j) ≡ 256 ^ j
pow_eight zero = refl
pow_eight (suc j) = rw (mul-suc 8 j) (pow-add 2 (8 * j) 8) ∙ ap (λ (x : ℕ). x * 256) (pow_eight j) ∙ sym (pow-suc 256 j)

-- ---- how many there are

module _ (n : ℕ) where
  reaches_not : (t : ℕ) → n < t → reaches_of n t ≡ 0
  unfolding reaches_of
  reaches_not t h = rw (lt-ltb n t h)

  reaches_is : (t : ℕ) → t ≤ n → reaches_of n t ≡ 1
  unfolding reaches_of
  reaches_is t h = rw (le-ltb n t h)

  count_all : (k : ℕ) → 10 ^ k ≤ n → count_to k n ≡ suc k
  count_all zero h = refl
  count_all (suc k) h = omega (arith, count_all k (omega (arith, pow-suc 10 k)), reaches_is (10 ^ suc k) h)

  record Counted (k : ℕ) : Type 0 where
    most : count_to k n ≤ suc k
    digits : dec n ≡ padded (count_to k n) n

  count_next : (k : ℕ) → n < 10 ^ 20 → n < 10 ^ suc (suc k) → (n < 10 ^ suc k → Counted k) → (z : Bool) → ltb n (10 ^ suc k) ≡ z → Counted (suc k)
  count_next k l h fewer true t =
      let g = ltb-true n (10 ^ suc k) t in
      let d = fewer g in
      let e = reaches_not (10 ^ suc k) g in
      record { most = omega (arith, d.most); digits = rw (e, add-zero) d.digits }
  count_next k l h fewer false t =
      let g = ltb-false n (10 ^ suc k) t in
      let e = count_all (suc k) g in
      record { most = omega arith; digits = rw e (dec_padded k n g h l) }

  count_is : (k : ℕ) → n < 10 ^ 20 → n < 10 ^ suc k → Counted k
  count_is zero l h = record { most = omega arith; digits = sym (one_digit n h) }
  count_is (suc k) l h = count_next k l h (count_is k l) (ltb n (10 ^ suc k)) refl

-- all seven digits without those in front
pub number_is : {n k : ℕ} {p : Piece} {q : Piece} → n < 10000000 → Shows (padded 7 n) p → k ≡ count_to 6 n → q.bytes ≡ p.bytes / 2 ^ (8 * (7 - k)) → q.length ≡ k → Shows (dec n) q
unfolding text_in
number_is {n} {k} {p} {q} h s e b m =
    let d = count_is n 6 (omega arith) h in
    let j : 7 - k + k ≡ 7 = omega (arith, d.most) in
    let l : p.length ≡ 7 = s.long ∙ length_padded 7 n in
    let t : bytes_of 7 p.bytes ≡ padded 7 n = rw l at s.text in
    let f : dec n ≡ padded k n = rw e d.digits in
    shown (rw (b, m, pow_eight (7 - k)) (bytes_drop (7 - k) k p.bytes ∙ rw j (ap (drop (7 - k)) t) ∙ (rw j at (drop_padded (7 - k) k n)) ∙ sym f))

pub number_low : (n k : ℕ) (p : Piece) → Shows (padded 7 n) p → k ≤ 7 → p.bytes / 2 ^ (8 * (7 - k)) < 256 ^ k
number_low n k p s h =
    let i : k + (7 - k) ≡ 7 = omega arith in
    let l : p.length ≡ 7 = s.long ∙ length_padded 7 n in
    rw (pow_eight (7 - k)) ((div-lt_iff_lt-mul (one-le-pow (7 - k) 256 (lit< tt))).1 (rw (← pow-add 256 k (7 - k), i) (rw l at p.low)))
