-- Eight digits and their word. Assumes nothing.
use Prim.Native.Nat.{ℕ, zero, suc, ◌+◌, ◌*◌, ◌/◌, ◌%◌, ◌^◌, ◌<◌}
use mathlib.Core.Path.{◌≡◌, refl, sym, ap, ◌∙◌}
use mathlib.Core.Bool.{true}
use mathlib.Core.List.{List, [], ◌∷◌, ◌++◌, List-discrete}
use native.Mathlib.Decide.{ℕ_discrete}
use native.Mathlib.Nat.{pow-suc}
use native.Mathlib.Omega.{arith}
use borrow.Author.Tests.{eqb-true, ltb-true, lt-ltb}
use lib.Dec.{eqb, ltb}
use lib.ListN.{length}
use Rattle.bits.specs.Choice.{pick}
use Rattle.bits.proofs.Choices.{tested}
use Rattle.listing.specs.Listing.{hex_digit, hex4, hex8}
use Rattle.rescue.specs.Rescue.{Digits}
use Rattle.rescue.specs.route.Search.{digit_of, hex_n}
use Rattle.text.proofs.Clean.{Clean, none, next, joins}

-- ---- a digit

pub digit_back : (d : ℕ) → d < 16 → digit_of (hex_digit d) ≡ d
unfolding digit_of hex_digit
digit_back d h = eqb-true (digit_of (hex_digit d)) d (tested 16 (λ k. eqb (digit_of (hex_digit k)) k) refl d h)

digit_rule : (b : ℕ) → b < 256 → pick (ltb (digit_of b) 16) (eqb (hex_digit (digit_of b)) b) true ≡ true
unfolding digit_of hex_digit
digit_rule b h = tested 256 (λ k. pick (ltb (digit_of k) 16) (eqb (hex_digit (digit_of k)) k) true) refl b h

pub digit_is : (b : ℕ) → b < 256 → digit_of b < 16 → hex_digit (digit_of b) ≡ b
digit_is b h k = eqb-true (hex_digit (digit_of b)) b (rw (lt-ltb (digit_of b) 16 k) at (digit_rule b h))

digit_clean : (d : ℕ) → d < 16 → 31 < hex_digit d
unfolding hex_digit
digit_clean d h = ltb-true 31 (hex_digit d) (tested 16 (λ k. ltb 31 (hex_digit k)) refl d h)

-- ---- digits

pub hex_same : (w : ℕ) → hex8 w ≡ hex_n 8 w
unfolding hex8 hex4
hex_same w =
    let a : w / 65536 / 4096 % 16 ≡ w / 16 / 16 / 16 / 16 / 16 / 16 / 16 % 16 = omega arith in
    let b : w / 65536 / 256 % 16 ≡ w / 16 / 16 / 16 / 16 / 16 / 16 % 16 = omega arith in
    let c : w / 65536 / 16 % 16 ≡ w / 16 / 16 / 16 / 16 / 16 % 16 = omega arith in
    let d : w / 65536 / 1 % 16 ≡ w / 16 / 16 / 16 / 16 % 16 = omega arith in
    let e : w / 1 % 65536 / 4096 % 16 ≡ w / 16 / 16 / 16 % 16 = omega arith in
    let f : w / 1 % 65536 / 256 % 16 ≡ w / 16 / 16 % 16 = omega arith in
    let g : w / 1 % 65536 / 16 % 16 ≡ w / 16 % 16 = omega arith in
    let h : w / 1 % 65536 / 1 % 16 ≡ w % 16 = omega arith in
    rw (a, b, c, d, e, f, g, h)

abbrev value : ℕ → List ℕ → ℕ
value v [] = v
value v (b ∷ bs) = value (v * 16 + digit_of b) bs

value_append : (v : ℕ) (p q : List ℕ) → value v (p ++ q) ≡ value (value v p) q
value_append v [] q = refl
value_append v (b ∷ p) q = value_append (v * 16 + digit_of b) p q

value_back : (n w : ℕ) → w < 16 ^ n → value 0 (hex_n n w) ≡ w
value_back zero w h = omega (arith, h)
value_back (suc n) w h =
    value_append 0 (hex_n n (w / 16)) (hex_digit (w % 16) ∷ [])
    ∙ ap (λ (v : ℕ). v * 16 + digit_of (hex_digit (w % 16))) (value_back n (w / 16) (omega (arith, h, pow-suc 16 n)))
    ∙ ap (λ (d : ℕ). w / 16 * 16 + d) (digit_back (w % 16) (omega arith))
    ∙ omega arith

hex_value : (w : ℕ) → w < 2 ^ 32 → value 0 (hex8 w) ≡ w
hex_value w h = ap (value 0) (hex_same w) ∙ value_back 8 w (omega (arith, h))

pub hex_injective : (v w : ℕ) → v < 2 ^ 32 → w < 2 ^ 32 → hex8 v ≡ hex8 w → v ≡ w
hex_injective v w h k e = sym (hex_value v h) ∙ ap (value 0) e ∙ hex_value w k

-- whether a field is eight digits
pub digits_known : (t : List ℕ) → Dec (Digits t)
digits_known t = by (List-discrete ℕ_discrete (hex8 (value 0 t % 2 ^ 32)) t)
  where
    by : Dec (hex8 (value 0 t % 2 ^ 32) ≡ t) → Dec (Digits t)
    by (yes e) = yes (value 0 t % 2 ^ 32, omega arith, e)
    by (no n) =
        no (λ d.
        let v : value 0 t ≡ d.0 = ap (value 0) (sym d.2) ∙ hex_value d.0 d.1 in
        let m : value 0 t % 2 ^ 32 ≡ d.0 = omega (arith, d.1) in
        n (ap hex8 m ∙ d.2))

hex_n_clean : (n w : ℕ) → Clean (hex_n n w)
hex_n_clean zero w = none
hex_n_clean (suc n) w = joins (hex_n_clean n (w / 16)) (next (digit_clean (w % 16) (omega arith)) none)

pub hex_clean : (w : ℕ) → Clean (hex8 w)
hex_clean w = rw (hex_same w) (hex_n_clean 8 w)

pub hex_length : (w : ℕ) → length (hex8 w) ≡ 8
unfolding hex8 hex4
hex_length w = refl
