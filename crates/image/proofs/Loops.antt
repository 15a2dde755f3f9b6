-- Loops over the bytes of one line: what is done up to an index, and what is left. Assumes nothing.
use Prim.Native.Nat.{ℕ, zero, suc, ◌+◌, ◌-◌, ◌*◌, ◌%◌, ◌≤◌, ◌<◌}
use mathlib.Core.Path.{◌≡◌, refl, ◌∙◌}
use mathlib.Core.Bool.{Bool, true, false}
use mathlib.Core.List.{List, [], ◌∷◌}
use native.Mathlib.Nat.{add-suc, add-zero}
use native.Mathlib.Numerals.{add-one}
use native.Mathlib.Omega.{arith}
use borrow.Author.Tests.{lt-ltb}
use lib.Dec.{ltb}
use lib.ListN.{length, get_or, length-set}
use Rattle.bits.specs.Choice.{pick}
use Rattle.image.specs.Lines.{digit_of, digits_in, byte_in, bytes_in}
use Rattle.image.specs.Records.{total, placed}
use Rattle.image.specs.route.Rest.{summed}
use Rattle.image.specs.Import.{put, puts, clears}

left : (n i : ℕ) → i < n → n - i ≡ suc (n - suc i)
left n i h = omega arith

-- ---- shape and sum

module _ (l : List ℕ) (n i sum z h : ℕ) (more : i < n) (so : summed l i (n - i) sum ≡ z) (high : h ≡ digit_of (get_or l (2 * i + 1) 0)) where
  summed_go : pick (ltb h 16) (pick (ltb (digit_of (get_or l (2 * i + 2) 0)) 16) (summed l (suc i) (n - suc i) (sum + byte_in l i)) 256) 256 ≡ z
  summed_go = rw high (rw (left n i more) at so)

  module _ (d : ℕ) (yes : h ≤ 15) (low : d ≡ digit_of (get_or l (2 * i + 2) 0)) where
    summed_pair : pick (ltb d 16) (summed l (suc i) (n - suc i) (sum + byte_in l i)) 256 ≡ z
    summed_pair = rw low (rw (lt-ltb h 16 (omega arith)) at summed_go)

    byte_is : d ≤ 15 → h * 16 + d ≡ byte_in l i
    unfolding byte_in
    byte_is p = rw (← high, ← low) (omega arith)

    pub summed_more : (b : ℕ) → d ≤ 15 → b ≡ h * 16 + d → summed l (i + 1) (n - (i + 1)) (sum + b) ≡ z
    summed_more b p e = rw (add-one i, e, byte_is p) (rw (lt-ltb d 16 (omega arith)) at summed_pair)

-- ---- the line

digits_two : (l : List ℕ) (at n : ℕ) → digits_in l at (2 * suc n) ≡ pick (ltb (digit_of (get_or l at 0)) 16) (pick (ltb (digit_of (get_or l (suc at) 0)) 16) (digits_in l (suc (suc at)) (2 * n)) false) false
digits_two l at n =
    let e : 2 * suc n ≡ suc (suc (2 * n)) = omega arith in
    rw e

summed_at : (a b c : Bool) (r s : ℕ) → r ≡ pick c s 256 → pick a (pick b r 256) 256 ≡ pick (pick a (pick b c false) false) s 256
summed_at true true c r s e = e
summed_at true false c r s e = refl
summed_at false b c r s e = refl

pub summed_is : (l : List ℕ) (n i sum : ℕ) → summed l i n sum ≡ pick (digits_in l (2 * i + 1) (2 * n)) ((sum + total (bytes_in l i n)) % 256) 256
summed_is l zero i sum = rw (add-zero sum)
summed_is l (suc n) i sum =
    let e : sum + (byte_in l i + total (bytes_in l (suc i) n)) ≡ sum + byte_in l i + total (bytes_in l (suc i) n) = omega arith in
    let f : suc (suc (2 * i + 1)) ≡ 2 * suc i + 1 = omega arith in
    let g : suc (2 * i + 1) ≡ 2 * i + 2 = omega arith in
    rw (digits_two l (2 * i + 1) n, e, f, g)
    (summed_at (ltb (digit_of (get_or l (2 * i + 1) 0)) 16) (ltb (digit_of (get_or l (2 * i + 2) 0)) 16) (digits_in l (2 * suc i + 1) (2 * n)) (summed l (suc i) n (sum + byte_in l i))
    ((sum + byte_in l i + total (bytes_in l (suc i) n)) % 256) (summed_is l n (suc i) (sum + byte_in l i)))

-- ---- bytes at their addresses

places_go : (l : List ℕ) (a n i : ℕ) → i < n
    → placed (a + i) (bytes_in l (4 + i) (n - i)) ≡ ((a + i) % 4294967296, byte_in l (4 + i)) ∷ placed (a + (i + 1)) (bytes_in l (4 + (i + 1)) (n - (i + 1)))
places_go l a n i h = rw (left n i h, add-one i, add-suc a i, add-suc 4 i)

put_length_at : (origin a b : ℕ) (xs : List ℕ) (t : Bool) → length (pick t xs (lib.ListN.set xs (a - origin) b)) ≡ length xs
put_length_at origin a b xs true = refl
put_length_at origin a b xs false = length-set xs (a - origin) b

pub put_length : (origin a b : ℕ) (xs : List ℕ) → length (put origin a b xs) ≡ length xs
unfolding put
put_length origin a b xs = put_length_at origin a b xs (ltb a origin)

pub puts_length : (origin : ℕ) (ps : List (ℕ × ℕ)) (xs : List ℕ) → length (puts origin ps xs) ≡ length xs
puts_length origin [] xs = refl
puts_length origin (p ∷ ps) xs = puts_length origin ps (put origin p.0 p.1 xs) ∙ put_length origin p.0 p.1 xs

pub clears_length : (origin : ℕ) (ps : List (ℕ × ℕ)) (xs : List ℕ) → length (clears origin ps xs) ≡ length xs
clears_length origin [] xs = refl
clears_length origin (p ∷ ps) xs = clears_length origin ps (put origin p.0 0 xs) ∙ put_length origin p.0 0 xs

module _ (l : List ℕ) (a n i origin : ℕ) (xs ys zs : List ℕ) (more : i < n) where
  pub puts_more : (b address : ℕ) → b ≡ byte_in l (4 + i) → ys ≡ put origin address b xs → address ≡ (a + i) % 4294967296
      → puts origin (placed (a + i) (bytes_in l (4 + i) (n - i))) xs ≡ zs
      → puts origin (placed (a + (i + 1)) (bytes_in l (4 + (i + 1)) (n - (i + 1)))) ys ≡ zs
  puts_more b address e q f so = rw (q, e, f) (rw (places_go l a n i more) at so)

  pub clears_more : (b address : ℕ) → ys ≡ put origin address b xs → address ≡ (a + i) % 4294967296 → b ≡ 0
      → clears origin (placed (a + i) (bytes_in l (4 + i) (n - i))) xs ≡ zs
      → clears origin (placed (a + (i + 1)) (bytes_in l (4 + (i + 1)) (n - (i + 1)))) ys ≡ zs
  clears_more b address q f e so = rw (q, f, e) (rw (places_go l a n i more) at so)
