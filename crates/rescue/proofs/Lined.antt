-- What the steps through one line show, over plain values. Assumes nothing.
use Prim.Native.Nat.{ℕ, zero, suc, ◌+◌, ◌*◌, ◌/◌, ◌%◌, ◌^◌, ◌-◌, ◌≤◌, ◌<◌}
use mathlib.Core.Path.{◌≡◌, refl, sym, ap, ◌∙◌, subst}
use mathlib.Core.Bool.{Bool, true}
use mathlib.Core.List.{List, [], ◌∷◌, ◌++◌, append_assoc}
use mathlib.Core.Logic.{inl, inr, ◌↔◌}
use native.Mathlib.Nat.{pow-suc, not-suc-le-zero}
use native.Mathlib.Decide.{dec_lt}
use native.Mathlib.Numerals.{add-one}
use native.Mathlib.Omega.{arith}
use borrow.Author.Tests.{lt-ltb, le-ltb, le-leb, lt-leb, leb-true}
use lib.Dec.{leb}
use lib.ListN.{length, take, drop, get_or, length-append}
use lib.Seq.{sets-eq, take_at, take_all, take-suc}
use Rattle.bits.proofs.Choices.{tested}
use Rattle.ascii.specs.route.Puts.{Puts}
use Rattle.ascii.proofs.Pieces.{fits}
use Rattle.listing.specs.Listing.{hex8, hex_digit, line_text, line_most}
use Rattle.listing.proofs.Steps.{line_short}
use Rattle.rescue.specs.Rescue.{Digits}
use Rattle.rescue.specs.route.Search.{digit_of, hex_n}
use Rattle.rescue.specs.Whole.{LowerDigit, EightDigits}
use Rattle.rescue.proofs.Hex.{digit_back, digit_is, hex_same, hex_length}
use Rattle.rescue.proofs.Fates.{body_of, line_is, line_length, no_newline}

-- ---- a digit

module _ (b : ℕ) where
  pub digit_below : b < 48 → digit_of b ≡ 16
  unfolding digit_of
  digit_below h = rw (lt-ltb b 48 h)

  pub digit_figure : 48 ≤ b → b ≤ 57 → digit_of b ≡ b - 48
  unfolding digit_of
  digit_figure h k = rw (le-ltb b 48 h, le-leb b 57 k)

  pub digit_between : 57 < b → b < 97 → digit_of b ≡ 16
  unfolding digit_of
  digit_between h k = let m : 48 ≤ b = omega arith in rw (le-ltb b 48 m, lt-leb b 57 h, lt-ltb b 97 k)

  pub digit_letter : 97 ≤ b → b ≤ 102 → digit_of b ≡ b - 87
  unfolding digit_of
  digit_letter h k =
      let m : 48 ≤ b = omega arith in
      let n : 57 < b = omega arith in
      rw (le-ltb b 48 m, lt-leb b 57 n, le-ltb b 97 h, le-leb b 102 k)

  pub digit_above : 102 < b → digit_of b ≡ 16
  unfolding digit_of
  digit_above h =
      let m : 48 ≤ b = omega arith in
      let n : 57 < b = omega arith in
      let o : 97 ≤ b = omega arith in
      rw (le-ltb b 48 m, lt-leb b 57 n, le-ltb b 97 o, lt-leb b 102 h)

-- ---- eight digits

-- the digits so far
pub record Sofar (xs : List ℕ) (i w : ℕ) : Type 0 where
  pub below : w < 16 ^ i
  pub shown : hex_n i w ≡ take i xs

pub sofar_none : (xs : List ℕ) → Sofar xs 0 0
sofar_none xs = record { below = omega arith; shown = refl }

module _ {xs : List ℕ} {i w : ℕ} (s : Sofar xs i w) where
  pub sofar_fits : i < 8 → w < 268435456
  sofar_fits h = omega (arith, s.below, leb-true (16 ^ i) 268435456 (tested 8 (λ k. leb (16 ^ k) 268435456) refl i h))

  pub sofar_more : i < length xs → get_or xs i 0 < 256 → {d : ℕ} → d ≡ digit_of (get_or xs i 0) → d < 16 → Sofar xs (i + 1) (w * 16 + d)
  sofar_more h b {d} e k =
      let q : (w * 16 + d) / 16 ≡ w = omega arith in
      let r : (w * 16 + d) % 16 ≡ d = omega arith in
      let g : digit_of (get_or xs i 0) < 16 = omega arith in
      let f : hex_digit d ≡ get_or xs i 0 = ap hex_digit e ∙ digit_is (get_or xs i 0) b g in
      record {
        below = rw (add-one i) (omega (arith, s.below, pow-suc 16 i));
        shown = rw (add-one i, q, r, s.shown, f) (sym (take-suc xs i 0 h));
      }

  pub sofar_end : i ≡ 8 → length xs ≡ 8 → hex8 w ≡ xs
  sofar_end e h =
      let g : hex_n 8 w ≡ take 8 xs = rw e at s.shown in
      hex_same w ∙ g ∙ take_all 8 xs (omega (arith, h))

data Hexed : List ℕ → Type 0 where
  none : Hexed []
  next : {b : ℕ} {bs : List ℕ} → digit_of b < 16 → Hexed bs → Hexed (b ∷ bs)

hexed_on : {p : List ℕ} (b : ℕ) → Hexed p → digit_of b < 16 → Hexed (p ++ (b ∷ []))
hexed_on b none h = next {b = b} h none
hexed_on b (next {b = a} k p) h = next {b = a} k (hexed_on b p h)

hexed : (n w : ℕ) → Hexed (hex_n n w)
hexed zero w = none
hexed (suc n) w = hexed_on (hex_digit (w % 16)) (hexed n (w / 16)) (omega (arith, digit_back (w % 16) (omega arith)))

hexed_at : {p : List ℕ} → Hexed p → (i : ℕ) → i < length p → digit_of (get_or p i 0) < 16
hexed_at none i h = absurd (not-suc-le-zero h)
hexed_at (next k p) zero h = k
hexed_at (next k p) (suc i) h = hexed_at p i (omega arith)

pub not_digits : (xs : List ℕ) (i : ℕ) → i < 8 → digit_of (get_or xs i 0) ≡ 16 → ¬ Digits xs
not_digits xs i h k d =
    let g = hexed_at (hexed 8 d.0) i h in
    let f : get_or (hex_n 8 d.0) i 0 ≡ get_or xs i 0 = ap (λ (l : List ℕ). get_or l i 0) (sym (hex_same d.0) ∙ d.2) in
    omega (arith, g, ap digit_of f)

-- a field of another length
pub not_eight : (xs : List ℕ) → ¬ (length xs ≡ 8) → ¬ Digits xs
not_eight xs h d = h (ap length (sym d.2) ∙ hex_length d.0)

-- such digits, byte by byte
lower_digit : (b : ℕ) → digit_of b < 16 → LowerDigit b
lower_digit b h = by (dec_lt b 48) (dec_lt 57 b) (dec_lt b 97) (dec_lt 102 b)
  where
    by : Dec (b < 48) → Dec (57 < b) → Dec (b < 97) → Dec (102 < b) → LowerDigit b
    by (yes a) c d e = absurd (omega (arith, h, digit_below b a))
    by (no a) (no c) d e = inl (omega arith, omega arith)
    by (no a) (yes c) (yes d) e = absurd (omega (arith, h, digit_between b c d))
    by (no a) (yes c) (no d) (yes e) = absurd (omega (arith, h, digit_above b e))
    by (no a) (yes c) (no d) (no e) = inr (omega arith, omega arith)

digit_lower : (b : ℕ) → LowerDigit b → digit_of b < 16
digit_lower b (inl (h, k)) = omega (arith, digit_figure b h k)
digit_lower b (inr (h, k)) = omega (arith, digit_letter b h k)

byte_lower : (b : ℕ) → LowerDigit b → b < 256
byte_lower b (inl (h, k)) = omega arith
byte_lower b (inr (h, k)) = omega arith

sofar_all : (t : List ℕ) → EightDigits t → (i : ℕ) → i ≤ 8 → (w : ℕ) × Sofar t i w
sofar_all t d zero h = (0, sofar_none t)
sofar_all t d (suc i) h =
    let (w, s) = sofar_all t d i (omega arith) in
    let l = d.1 i (omega arith) in
    let b = get_or t i 0 in
    (w * 16 + digit_of b, subst (λ j. Sofar t j (w * 16 + digit_of b)) (add-one i) (sofar_more s (omega (arith, d.0)) (byte_lower b l) refl (digit_lower b l)))

pub digits_are : (t : List ℕ) → Digits t ↔ EightDigits t
digits_are t = (there, back)
  where
    there : Digits t → EightDigits t
    there d =
        let e : hex_n 8 d.0 ≡ t = sym (hex_same d.0) ∙ d.2 in (
          ap length (sym d.2) ∙ hex_length d.0,
          λ i h. subst (λ (l : List ℕ). LowerDigit (get_or l i 0)) e (lower_digit (get_or (hex_n 8 d.0) i 0) (hexed_at (hexed 8 d.0) i h)),
        )

    back : EightDigits t → Digits t
    back d =
        let (w, s) = sofar_all t d 8 (omega arith) in
        (w, omega (arith, s.below), hex_same w ∙ s.shown ∙ take_all 8 t (omega (arith, d.0)))

-- ---- the line of a word

module _ (w : ℕ) {xs ys : List ℕ} {r : ℕ} (p : Puts xs 0 (line_text w) ys r) (h : line_most + 1 ≤ length xs) where
  line_long : length (line_text w) ≡ length (body_of w) + 1
  line_long = ap length (line_is w) ∙ length-append (body_of w) (10 ∷ [])

  put_end : r ≡ length (body_of w) + 1
  put_end = omega (arith, fits p (omega (arith, line_short w)), line_long)

  pub put_most : 12 ≤ r
  put_most = omega (arith, put_end, line_long, line_length w)

  put_start : take (r - 1) ys ≡ body_of w
  put_start =
      let n : r - 1 ≡ length (body_of w) = omega (arith, put_end) in
      let s : 0 + length (line_text w) ≤ length xs = omega (arith, line_short w) in
      ap (λ (k : ℕ). take k ys) n
      ∙ ap (take (length (body_of w))) (p.text ∙ sets-eq (line_text w) xs 0 s ∙ ap (λ (t : List ℕ). t ++ drop (0 + length (line_text w)) xs) (line_is w)
      ∙ append_assoc (body_of w) (10 ∷ []) (drop (0 + length (line_text w)) xs))
      ∙ take_at (body_of w) ((10 ∷ []) ++ drop (0 + length (line_text w)) xs) (length (body_of w)) refl

  pub line_told : (line : List ℕ) {b : Bool} (n : ℕ) → (b ≡ true) ↔ (take n ys ≡ line) → n ≡ r - 1 → (b ≡ true) ↔ (line ++ (10 ∷ []) ≡ line_text w)
  line_told line n e q =
      let start = ap (λ (k : ℕ). take k ys) q ∙ put_start in
      ((λ t. ap (λ (l : List ℕ). l ++ (10 ∷ [])) (sym (e.0 t) ∙ start) ∙ sym (line_is w)), (λ t. e.1 (start ∙ sym (no_newline line (body_of w) (t ∙ line_is w)))))
