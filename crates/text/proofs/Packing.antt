-- Texts in numbers: a byte in front, the zeros in front dropped, digits. Assumes nothing.
use Prim.Native.Nat.{ℕ, ◌+◌, ◌*◌, ◌^◌, ◌≤◌, ◌<◌}
use mathlib.Core.Path.{◌≡◌, refl, sym, ap, ◌∙◌}
use mathlib.Core.List.{List, [], ◌∷◌, ◌++◌, append_assoc}
use native.Mathlib.Nat.{pow-suc, pow-le-pow_right, lt_of_lt_of_le}
use native.Mathlib.Numerals.{add-one}
use native.Mathlib.Omega.{arith}
use lib.Arith.{digits_lt}
use lib.Dec.{lit<}
use lib.ListN.{length, length-append}
use Rattle.bits.specs.Bytes.{bytes_of}
use Rattle.bits.proofs.Bytes.{length_bytes, bytes_cons}
use Rattle.ascii.specs.Ascii.{asc}
use Rattle.text.specs.declared.piece.Piece.{Piece}
use Rattle.text.specs.route.Pieces.{text_in, Leads, Shows}

-- a piece is as long as its text
pub size : (p : Piece) → length (text_in p) ≡ p.length
unfolding text_in
size p = length_bytes p.length p.bytes

pub shown : {t : List ℕ} {p : Piece} → text_in p ≡ t → Shows t p
shown {t} {p} e = record { text = e; long = sym (size p) ∙ ap length e }

-- a piece of at most seven bytes has room for one more
pub room : (p : Piece) → p.length ≤ 7 → p.bytes < 256 ^ 7
room p h = lt_of_lt_of_le p.low (pow-le-pow_right (lit< tt) h)

pub led_is : (b : ℕ) (p q : Piece) → b < 256 → q.bytes ≡ b + p.bytes * 256 → q.length ≡ p.length + 1 → Leads (b ∷ []) p q
unfolding text_in
led_is b p q h e l =
    record {
      text = rw (e, l, add-one p.length) (bytes_cons p.length b p.bytes h);
      longer = omega arith;
    }

pub led_low : (b : ℕ) (p : Piece) → b < 256 → b + p.bytes * 256 < 256 ^ (p.length + 1)
led_low b p h = rw (add-one p.length, pow-suc) (omega (arith, digits_lt p.low h))

-- a text before another
pub on : {s t : List ℕ} {p q r : Piece} → Leads s q r → Leads t p q → Leads (s ++ t) p r
on {s} {t} {p} a b =
    record {
      text = a.text ∙ ap (λ (l : List ℕ). s ++ l) b.text ∙ sym (append_assoc s t (text_in p));
      longer = omega (arith, a.longer, b.longer, length-append s t);
    }

pub spelled : {s t : List ℕ} {p q : Piece} → Leads s p q → Shows t p → Shows (s ++ t) q
spelled {s} a b = shown (a.text ∙ ap (λ (l : List ℕ). s ++ l) b.text)

pub leads_as : {s t : List ℕ} {p q : Piece} → s ≡ t → Leads s p q → Leads t p q
leads_as {p = p} e a = record { text = a.text ∙ ap (λ (l : List ℕ). l ++ text_in p) e; longer = a.longer ∙ ap (λ (l : List ℕ). length l + p.length) e }

pub shows_as : {s t : List ℕ} {p : Piece} → s ≡ t → Shows s p → Shows t p
shows_as e a = shown (a.text ∙ e)

-- a piece by its bytes
pub constant : {bytes length : ℕ} {t : List ℕ} {q : Piece} → q.bytes ≡ bytes → q.length ≡ length → bytes_of length bytes ≡ t → Shows t q
unfolding text_in
constant e l h = shown (rw (e, l) h)

-- the piece behind an operand
pub comma : {q : Piece} → q.bytes ≡ 0x202c → q.length ≡ 2 → Shows (asc ", ") q
unfolding bytes_of
comma e l = constant e l refl
