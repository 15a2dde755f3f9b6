-- Decimal digits: one for a number below 10, else the last behind the others. Assumes nothing.
use Prim.Native.Nat.{ℕ, zero, suc, ◌+◌, ◌/◌, ◌%◌, ◌^◌, ◌≤◌, ◌<◌}
use mathlib.Core.Path.{◌≡◌, refl, ap, ◌∙◌}
use mathlib.Core.Bool.{Bool, true, false}
use mathlib.Core.List.{List, [], ◌∷◌, ◌++◌}
use native.Mathlib.Nat.{pow-suc, not-suc-le-zero}
use native.Mathlib.Omega.{arith}
use borrow.Author.Tests.{lt-ltb, le-ltb, ltb-true}
use lib.Dec.{ltb}
use lib.IntN.{ℤ, pos, negsuc, nat_abs}
use lib.ListN.{length, length-append}
use lib.Signed.{lt_z}
use Rattle.bits.specs.Choice.{pick}
use Rattle.ascii.specs.Ascii.{asc, digits, dec, signed_dec}

-- more room for digits changes nothing
enough : (f n : ℕ) → n < 10 ^ suc f → digits (suc f) n ≡ digits (suc (suc f)) n
enough zero n h = simp (lt-ltb n 10 h)
enough (suc f) n h =
    ap (λ (l : List ℕ). pick (ltb n 10) ((48 + n) ∷ []) (l ++ ((48 + n % 10) ∷ []))) (enough f (n / 10) (omega (arith, pow-suc 10 (suc f))))

pub dec_one : (n : ℕ) → n < 10 → dec n ≡ (48 + n) ∷ []
unfolding dec
dec_one n h = simp (lt-ltb n 10 h)

pub dec_more : (n : ℕ) → 10 ≤ n → n < 10 ^ 20 → dec n ≡ dec (n / 10) ++ ((48 + n % 10) ∷ [])
unfolding dec
dec_more n h g = simp (le-ltb n 10 h) (ap (λ (l : List ℕ). l ++ ((48 + n % 10) ∷ [])) (enough 18 (n / 10) (omega arith)))

pub dec_two : (n : ℕ) → 10 ≤ n → n < 100 → dec n ≡ (48 + n / 10) ∷ (48 + n % 10) ∷ []
dec_two n h k = dec_more n h (omega arith) ∙ ap (λ (l : List ℕ). l ++ ((48 + n % 10) ∷ [])) (dec_one (n / 10) (omega arith))

pub dec_three : (n : ℕ) → 100 ≤ n → n < 1000 → dec n ≡ (48 + n / 100) ∷ (48 + n / 10 % 10) ∷ (48 + n % 10) ∷ []
dec_three n h k =
    let e : n / 10 / 10 ≡ n / 100 = omega arith in
    rw (dec_more n (omega arith) (omega arith), dec_two (n / 10) (omega arith) (omega arith), e)

pub dec_four : (n : ℕ) → 1000 ≤ n → n < 10000 → dec n ≡ (48 + n / 1000) ∷ (48 + n / 100 % 10) ∷ (48 + n / 10 % 10) ∷ (48 + n % 10) ∷ []
dec_four n h k =
    let e : n / 10 / 10 ≡ n / 100 = omega arith in
    let f : n / 10 / 100 ≡ n / 1000 = omega arith in
    rw (dec_more n (omega arith) (omega arith), dec_three (n / 10) (omega arith) (omega arith), e, f)

-- ---- how many digits there are, by the power of ten that the number is below

one_digit : (f n : ℕ) → n < 10 → length (digits f n) ≤ 1
one_digit zero n h = omega arith
one_digit (suc f) n h = simp (lt-ltb n 10 h) (omega arith)

next_digit : (k m d : ℕ) (l : List ℕ) (b : Bool) → length l ≤ k → length (pick b (m ∷ []) (l ++ (d ∷ []))) ≤ suc k
next_digit k m d l true h = omega arith
next_digit k m d l false h = omega (arith, length-append l (d ∷ []))

few_digits : (k f n : ℕ) → n < 10 ^ suc k → length (digits f n) ≤ suc k
few_digits zero f n h = one_digit f n (omega arith)
few_digits (suc k) zero n h = omega arith
few_digits (suc k) (suc f) n h =
    next_digit (suc k) (48 + n) (48 + n % 10) (digits f (n / 10)) (ltb n 10) (few_digits k f (n / 10) (omega (arith, pow-suc 10 (suc k))))

pub dec_short : (k n : ℕ) → n < 10 ^ suc k → length (dec n) ≤ suc k
unfolding dec
dec_short k n h = few_digits k 20 n h

-- ---- signed numbers, by the sign; y is the number z after it was passed to a function

minus : (z : ℤ) → lt_z z (pos 0) ≡ true → signed_dec z ≡ asc "-" ++ dec (nat_abs z)
unfolding signed_dec
minus (pos n) t = absurd (not-suc-le-zero (ltb-true n 0 t))
minus (negsuc n) t = refl

plus : (z : ℤ) → lt_z z (pos 0) ≡ false → signed_dec z ≡ dec (nat_abs z)
unfolding signed_dec
plus (pos n) t = refl
plus (negsuc n) t = cc

pub signed_minus : {y z : ℤ} → y ≡ z → lt_z y (pos 0) ≡ true → {m : ℕ} → m ≡ nat_abs y → signed_dec z ≡ asc "-" ++ dec m
signed_minus {y} p t e = rw (← p, e) (minus y t)

pub signed_plus : {y z : ℤ} → y ≡ z → lt_z y (pos 0) ≡ false → {m : ℕ} → m ≡ nat_abs y → signed_dec z ≡ dec m
signed_plus {y} p t e = rw (← p, e) (plus y t)
