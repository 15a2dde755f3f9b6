-- The law of an answer to a line: it has eleven bytes. Assumes nothing.
use Rattle.std.proofs.Common.{ℕ, ◌+◌, ◌-◌, ◌^◌, ◌≤◌, ◌<◌, ◌≡◌, List, [], ◌∷◌, length, arith, inl, inr, Ok}
use Rattle.std.proofs.Math.Nat.{pow-le-pow_right}
use native.Mathlib.Decide.{dec_lt}
use Rattle.io.specs.Digits.{IsDigitCount}
use Rattle.reader.specs.Reading.{told, ReadOf}
use Rattle.ascii.specs.route.Puts.{Puts}
use Rattle.ascii.proofs.Pieces.{same, fits}

-- a word has eight digits
pub eight_digits : (n k : ℕ) → IsDigitCount 16 8 n k → n < 2 ^ 32 → k ≡ 8
eight_digits n k (least, room, few) l = by_more (dec_lt 8 k)
  where
    by_more : Dec (8 < k) → k ≡ 8
    by_more (yes g) =
        let low : 16 ^ 8 ≤ 16 ^ (k - 1) = pow-le-pow_right {n = 16} (omega arith) {i = 8} {j = k - 1} (omega arith) in
        let far : 16 ^ (k - 1) ≤ n = few g in
        absurd (omega (arith, low, far))
    by_more (no g) = omega arith

-- a word that was read has 32 bits
pub read_below : (t : List ℕ) (w : ℕ) → ReadOf t (told (Ok w)) → w < 2 ^ 32
read_below t w (inl (d, l)) = l.below
read_below t w (inr (d, z, n)) = omega (arith, z)

-- eight digits, a tab, a digit and a newline
pub eleven : {xs p ys zs : List ℕ} {at m r a b c : ℕ} → Puts xs at p ys m → Puts ys m (a ∷ b ∷ c ∷ []) zs r → length p ≡ 8 → at + 11 ≤ length xs → r ≡ at + 11
eleven {p = p} {at = at} {m = m} {r = r} text answer e h =
    let m-is : m ≡ at + length p = fits text (omega arith) in
    let r-is : r ≡ m + 3 = fits answer (omega (arith, same text)) in
    omega arith
