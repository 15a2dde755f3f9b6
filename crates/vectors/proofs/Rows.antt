-- What an array of arrays holds by its type: thirty-two rows of two 64-bit numbers. As numbers these are below 2^128, and no other
-- rows have the same numbers. Assumes nothing.
use Prim.Native.Nat.{ℕ, zero, suc, ◌+◌, ◌*◌, ◌^◌, ◌≤◌, ◌<◌}
use mathlib.Core.Path.{◌≡◌, sym, ap, ◌∙◌}
use mathlib.Core.List.{List, [], ◌∷◌, map}
use native.Mathlib.Decide.{dec_lt}
use native.Mathlib.Omega.{arith}
use lib.Dec.{lit<}
use lib.ListN.{length, get_or, get_or-eq_default}
use lib.Seq.{ext_get_or}
use mir.Val.{Val}
use denote.Array.{each}
use denote.Builtin.{u64, Array}
use denote.Laws.{Is}
use denote.Shadow.{shadow}
use Rattle.vectors.specs.File.{wide, Held}
use Rattle.vectors.proofs.Slots.{wide_get}
use Rattle.vectors.proofs.Wide.{below}

-- ---- by its type

numbers : (xs : List ℕ) (us : List Val) → shadow (each ℕ u64.own_val xs us) → (j : ℕ) → get_or xs j 0 < 2 ^ 64
numbers [] [] s j = lit< tt
numbers [] (u ∷ us) s j = absurd s
numbers (x ∷ xs) [] s j = absurd s
numbers (x ∷ xs) (u ∷ us) s zero = s.0.1
numbers (x ∷ xs) (u ∷ us) s (suc j) = numbers xs us s.1 j

rows_at : (file : List (List ℕ)) (us : List Val) → shadow (each (List ℕ) (Array u64 tt 2).own_val file us) → (i : ℕ) → i < length file
    → (length (get_or file i []) ≡ 2) × ((j : ℕ) → get_or (get_or file i []) j 0 < 2 ^ 64)
rows_at [] [] s i h = absurd (omega arith)
rows_at [] (u ∷ us) s i h = absurd s
rows_at (x ∷ xs) [] s i h = absurd s
rows_at (x ∷ xs) (u ∷ us) s zero h = (s.0.1.0.1, λ j. numbers x s.0.0 s.0.1.1 j)
rows_at (x ∷ xs) (u ∷ us) s (suc i) h = rows_at xs us s.1 i (omega arith)

pub held_by_type : (file : List (List ℕ)) (vs : List Val) → Is (Array (Array u64 tt 2) tt 32) file vs → Held file
held_by_type file vs p =
    let count : length file ≡ 32 = p.1.0.1 in
    record {
      count = count;
      rows = λ i h. (rows_at file p.0 p.1.1 i (rw count h)).0;
      halves = λ i j h. (rows_at file p.0 p.1.1 i (rw count h)).1 j;
    }

-- ---- as numbers

wide_at : (file : List (List ℕ)) → Held file → (n : ℕ) → Dec (n < 32) → wide (get_or file n []) < 2 ^ 128
wide_at file h n (yes l) = below (get_or (get_or file n []) 0 0) (get_or (get_or file n []) 1 0) (2 ^ 64) (h.halves n 0 l) (h.halves n 1 l)
wide_at file h n (no f) =
    let l : length file ≤ n = omega (arith, h.count) in
    rw (get_or-eq_default file [] l) (lit< tt)

pub held_below : (file : List (List ℕ)) → Held file → (n : ℕ) → get_or (map wide file) n 0 < 2 ^ 128
held_below file h n = rw (wide_get file n) (wide_at file h n (dec_lt n 32))

parts : (a b c d : ℕ) → a + b * 2 ^ 64 ≡ c + d * 2 ^ 64 → a < 2 ^ 64 → c < 2 ^ 64 → (a ≡ c) × (b ≡ d)
parts a b c d e l m = (omega arith, omega arith)

row_same : (x y : List ℕ) → length x ≡ 2 → length y ≡ 2 → get_or x 0 0 < 2 ^ 64 → get_or y 0 0 < 2 ^ 64 → wide x ≡ wide y → x ≡ y
row_same x y h k l m e =
    let p = parts (get_or x 0 0) (get_or x 1 0) (get_or y 0 0) (get_or y 1 0) e l m in
    ext_get_or 0 x y (h ∙ sym k) (λ i q. at i (rw h at q) p.0 p.1)
  where
    at : (i : ℕ) → i < 2 → get_or x 0 0 ≡ get_or y 0 0 → get_or x 1 0 ≡ get_or y 1 0 → get_or x i 0 ≡ get_or y i 0
    at zero q f g = f
    at (suc zero) q f g = g
    at (suc (suc i)) q f g = absurd (omega arith)

pub wide_same : (a b : List (List ℕ)) → Held a → Held b → map wide a ≡ map wide b → a ≡ b
wide_same a b h k e =
    ext_get_or [] a b (h.count ∙ sym k.count) (λ i q. row i (rw h.count at q))
  where
    row : (i : ℕ) → i < 32 → get_or a i [] ≡ get_or b i []
    row i l =
        row_same (get_or a i []) (get_or b i []) (h.rows i l) (k.rows i l) (h.halves i 0 l) (k.halves i 0 l)
        (sym (wide_get a i) ∙ ap (λ (ns : List ℕ). get_or ns i 0) e ∙ wide_get b i)
