-- Parting bytes: at the first byte that parts, and a text in which none parts. Assumes nothing.
use Prim.Native.Nat.{ℕ, suc, ◌≤◌, ◌<◌}
use mathlib.Core.Path.{◌≡◌, refl, ap}
use mathlib.Core.Bool.{Bool, true, false}
use mathlib.Core.List.{List, [], ◌∷◌, ◌++◌}
use native.Mathlib.Omega.{arith}
use borrow.Author.Tests.{eq-eqb, ne_eqb, eqb-true, eqb-false}
use lib.Dec.{eqb}
use lib.ListN.{length, take, drop}
use Rattle.bits.specs.Choice.{pick}
use Rattle.rescue.specs.Lines.{lead, parts_at}
use Rattle.rescue.specs.route.Search.{until}
use Rattle.text.proofs.Clean.{Clean, none, next}

-- none of the bytes is s
pub data Free (s : ℕ) : List ℕ → Type 0 where
  nil : Free s []
  cons : {b : ℕ} {bs : List ℕ} → ¬ (b ≡ s) → Free s bs → Free s (b ∷ bs)

pub clean_free : (s : ℕ) → s < 32 → {p : List ℕ} → Clean p → Free s p
clean_free s k none = nil
clean_free s k (next {b} h c) = cons {b = b} (λ e. omega (arith, e, h, k)) (clean_free s k c)

pub free_joins : {s : ℕ} {p q : List ℕ} → Free s p → Free s q → Free s (p ++ q)
free_joins nil k = k
free_joins (cons h c) k = cons h (free_joins c k)

-- a part and the byte behind it
pub parts_part : (s : ℕ) (e : List (List ℕ)) {p : List ℕ} → Free s p → (rest : List ℕ) → parts_at s e (p ++ (s ∷ rest)) ≡ p ∷ parts_at s e rest
parts_part s e nil rest = rw (eq-eqb s s refl)
parts_part s e (cons {b} h c) rest = rw (ne_eqb b s h, parts_part s e c rest)

-- the last field
pub parts_last : (s : ℕ) {p : List ℕ} → Free s p → parts_at s ([] ∷ []) p ≡ p ∷ []
parts_last s nil = refl
parts_last s (cons {b} h c) = rw (ne_eqb b s h, parts_last s c)

-- the last line, without the byte
single : (b : ℕ) (z : Bool) → z ≡ false → pick z ([] ∷ []) (lead b []) ≡ (b ∷ []) ∷ []
single b true e = cc
single b false e = refl

pub lines_last : (s : ℕ) {p : List ℕ} → Free s p → 0 < length p → parts_at s [] p ≡ p ∷ []
lines_last s nil h = absurd (omega (arith, h))
lines_last s (cons {b} n nil) h = single b (eqb b s) (ne_eqb b s n)
lines_last s (cons {b} n (cons {b = c} m r)) h = rw (ne_eqb b s n, lines_last s (cons {b = c} m r) (omega arith))

-- ---- the bytes of fields

-- some bytes, and their parts
pub data Parted (s : ℕ) : List (List ℕ) → List ℕ → Type 0 where
  only : {p : List ℕ} → Free s p → Parted s (p ∷ []) p
  more : {p : List ℕ} {ps : List (List ℕ)} {bs : List ℕ} → Free s p → Parted s ps bs → Parted s (p ∷ ps) (p ++ (s ∷ bs))

parted_by : {s : ℕ} (b : ℕ) {ps : List (List ℕ)} {bs : List ℕ} → Parted s ps bs → (z : Bool) → eqb b s ≡ z → Parted s (pick z ([] ∷ ps) (lead b ps)) (b ∷ bs)
parted_by {s} b f true e = rw (eqb-true b s e) (more nil f)
parted_by {s} b (only h) false e = only (cons {b = b} (eqb-false b s e) h)
parted_by {s} b (more h f) false e = more (cons {b = b} (eqb-false b s e) h) f

pub parted : (s : ℕ) (bs : List ℕ) → Parted s (parts_at s ([] ∷ []) bs) bs
parted s [] = only nil
parted s (b ∷ bs) = parted_by b (parted s bs) (eqb b s) refl

-- ---- by the first byte that parts

until_by : (n m : ℕ) → n ≤ m → (z : Bool) → pick z 0 (suc n) ≤ suc m
until_by n m h true = omega arith
until_by n m h false = omega arith

pub until_most : (s : ℕ) (xs : List ℕ) → until s xs ≤ length xs
until_most s [] = omega arith
until_most s (b ∷ bs) = until_by (until s bs) (length bs) (until_most s bs) (eqb b s)

last_by : (b : ℕ) (z : Bool) → pick z ([] ∷ []) ((b ∷ []) ∷ []) ≡ take (pick z 0 1) (b ∷ []) ∷ []
last_by b true = refl
last_by b false = refl

none_by : (s b : ℕ) (z : Bool) → parts_at s [] (drop (suc (pick z 0 1)) (b ∷ [])) ≡ []
none_by s b true = refl
none_by s b false = refl

line_by : (s b : ℕ) (bs : List ℕ) → parts_at s [] bs ≡ take (until s bs) bs ∷ parts_at s [] (drop (suc (until s bs)) bs) → (z : Bool)
    → pick z ([] ∷ parts_at s [] bs) (lead b (parts_at s [] bs)) ≡ take (pick z 0 (suc (until s bs))) (b ∷ bs) ∷ parts_at s [] (drop (suc (pick z 0 (suc (until s bs)))) (b ∷ bs))
line_by s b bs e true = refl
line_by s b bs e false = ap (lead b) e

-- the first line, and those behind it
pub lines_until : (s b : ℕ) (bs : List ℕ) → parts_at s [] (b ∷ bs) ≡ take (until s (b ∷ bs)) (b ∷ bs) ∷ parts_at s [] (drop (suc (until s (b ∷ bs))) (b ∷ bs))
lines_until s b [] = rw (none_by s b (eqb b s)) (last_by b (eqb b s))
lines_until s b (c ∷ cs) = line_by s b (c ∷ cs) (lines_until s c cs) (eqb b s)

field_by : (s b : ℕ) (bs : List ℕ) → (until s bs < length bs → parts_at s ([] ∷ []) bs ≡ take (until s bs) bs ∷ parts_at s ([] ∷ []) (drop (suc (until s bs)) bs)) → (z : Bool)
    → pick z 0 (suc (until s bs)) < suc (length bs)
    → pick z ([] ∷ parts_at s ([] ∷ []) bs) (lead b (parts_at s ([] ∷ []) bs)) ≡ take (pick z 0 (suc (until s bs))) (b ∷ bs) ∷ parts_at s ([] ∷ []) (drop (suc (pick z 0 (suc (until s bs)))) (b ∷ bs))
field_by s b bs e true h = refl
field_by s b bs e false h = ap (lead b) (e (omega arith))

-- the first field, and those behind it
pub fields_until : (s : ℕ) (xs : List ℕ) → until s xs < length xs → parts_at s ([] ∷ []) xs ≡ take (until s xs) xs ∷ parts_at s ([] ∷ []) (drop (suc (until s xs)) xs)
fields_until s [] h = absurd (omega (arith, h))
fields_until s (b ∷ bs) h = field_by s b bs (λ k. fields_until s bs k) (eqb b s) h

only_by : (s b : ℕ) (bs : List ℕ) → (length bs ≤ until s bs → parts_at s ([] ∷ []) bs ≡ bs ∷ []) → (z : Bool) → suc (length bs) ≤ pick z 0 (suc (until s bs))
    → pick z ([] ∷ parts_at s ([] ∷ []) bs) (lead b (parts_at s ([] ∷ []) bs)) ≡ (b ∷ bs) ∷ []
only_by s b bs e true h = absurd (omega (arith, h))
only_by s b bs e false h = ap (lead b) (e (omega arith))

-- no byte that parts
pub fields_only : (s : ℕ) (xs : List ℕ) → length xs ≤ until s xs → parts_at s ([] ∷ []) xs ≡ xs ∷ []
fields_only s [] h = refl
fields_only s (b ∷ bs) h = only_by s b bs (λ k. fields_only s bs k) (eqb b s) h
