-- The data bytes of a line and their addresses, one by one, and the upper half behind it. Assumes nothing.
use Prim.Native.Nat.{ℕ, zero, suc, ◌+◌, ◌*◌, ◌%◌, ◌^◌, ◌<◌}
use mathlib.Core.Path.{◌≡◌, refl, ap, ◌∙◌}
use mathlib.Core.List.{List, [], ◌∷◌}
use native.Mathlib.Nat.{add-zero}
use native.Mathlib.Omega.{arith}
use borrow.Author.Tests.{eq-eqb, ne_eqb}
use lib.ListN.{length, get_or}
use Rattle.image.specs.Lines.{byte_in, bytes_in, count_in}
use Rattle.image.specs.Records.{type_in, offset_in, upper_after, placed, places_in}
use Rattle.image.specs.Faults.{address_in}
use Rattle.image.proofs.Faults.{bytes_length}

placed_at : (a : ℕ) (bs : List ℕ) (i : ℕ) → i < length bs → get_or (placed a bs) i (0, 0) ≡ ((a + i) % 2 ^ 32, get_or bs i 0)
placed_at a [] i h = absurd (omega arith)
placed_at a (b ∷ bs) zero h = rw (add-zero a)
placed_at a (b ∷ bs) (suc i) h =
    let e : a + suc i ≡ suc a + i = omega arith in
    rw e (placed_at (suc a) bs i (omega arith))

placed_length : (a : ℕ) (bs : List ℕ) → length (placed a bs) ≡ length bs
placed_length a [] = refl
placed_length a (b ∷ bs) = ap suc (placed_length (suc a) bs)

byte_at : (l : List ℕ) (j n i : ℕ) → i < n → get_or (bytes_in l j n) i 0 ≡ byte_in l (j + i)
byte_at l j zero i h = absurd (omega arith)
byte_at l j (suc n) zero h = rw (add-zero j)
byte_at l j (suc n) (suc i) h =
    let e : j + suc i ≡ suc j + i = omega arith in
    rw e (byte_at l (suc j) n i (omega arith))

module _ (upper : ℕ) (l : List ℕ) where
  pub data_at : (i : ℕ) → type_in l ≡ 0 → i < count_in l → get_or (places_in upper l) i (0, 0) ≡ (address_in upper l i, byte_in l (4 + i))
  unfolding places_in
  data_at i e h =
      rw (eq-eqb (type_in l) 0 e)
      (placed_at (upper * 65536 + offset_in l) (bytes_in l 4 (count_in l)) i (omega (arith, bytes_length l 4 (count_in l)))
      ∙ ap (λ (b : ℕ). (address_in upper l i, b)) (byte_at l 4 (count_in l) i h))

  pub data_length : type_in l ≡ 0 → length (places_in upper l) ≡ count_in l
  unfolding places_in
  data_length e = rw (eq-eqb (type_in l) 0 e) (placed_length (upper * 65536 + offset_in l) (bytes_in l 4 (count_in l)) ∙ bytes_length l 4 (count_in l))

  pub no_data : ¬ (type_in l ≡ 0) → places_in upper l ≡ []
  unfolding places_in
  no_data h = rw (ne_eqb (type_in l) 0 h)

  pub upper_half : type_in l ≡ 4 → count_in l ≡ 2 → upper_after upper l ≡ byte_in l 4 * 256 + byte_in l 5
  unfolding upper_after
  upper_half e f = rw (eq-eqb (type_in l) 4 e, eq-eqb (count_in l) 2 f)

  pub same_half : ¬ (type_in l ≡ 4) → upper_after upper l ≡ upper
  unfolding upper_after
  same_half h = rw (ne_eqb (type_in l) 4 h)
