-- A line copied eight bytes at a time, and then byte by byte. Assumes nothing.
use Rattle.std.proofs.Common.{ℕ, zero, suc, ◌≡◌, ◌+◌, ◌*◌, ◌/◌, ◌<◌, List, [], ◌∷◌, ◌++◌, length, take, drop, get_or, refl, sym, ap, ◌∙◌, subst, arith}
use Rattle.std.proofs.Math.Seq.{take-suc, take-add}
use Rattle.std.proofs.lemmas.List.{take_all, drop-drop, take-append-drop}
use Rattle.std.specs.Simd.{first_chunks}
use Rattle.ascii.specs.route.Puts.{Puts}
use Rattle.ascii.proofs.Pieces.{after}

-- each piece of eight bytes, by its index
piece_in : (k n : ℕ) (p : List ℕ) → k < n → get_or (first_chunks 8 n p) k [] ≡ take 8 (drop (k * 8) p)
piece_in k zero p h = absurd (omega (arith, h))
piece_in zero (suc n) p h = refl
piece_in (suc k) (suc n) p h =
    let e : 8 + k * 8 ≡ suc k * 8 = omega arith in
    piece_in k n (drop 8 p) (omega (arith, h)) ∙ ap (take 8) (drop-drop (k * 8) 8 p ∙ ap (λ (j : ℕ). drop j p) e)

-- eight bytes more
pub eight_more : {xs ys zs : List ℕ} {at m n : ℕ} (p : List ℕ) {cs : List (List ℕ)} {k : ℕ} → cs ≡ first_chunks 8 (length p / 8) p → length cs ≡ length p / 8
    → k < length cs → Puts xs at (take (k * 8) p) ys m → Puts ys m (get_or cs k []) zs n → Puts xs at (take ((k + 1) * 8) p) zs n
eight_more {xs} {ys} {zs} {at} {m} {n} p {cs} {k} front count h a b =
    let e : k * 8 + 8 ≡ (k + 1) * 8 = omega arith in
    let piece : get_or cs k [] ≡ take 8 (drop (k * 8) p) = ap (λ (l : List (List ℕ)). get_or l k []) front ∙ piece_in k (length p / 8) p (omega (arith, h, count)) in
    let whole : take (k * 8) p ++ get_or cs k [] ≡ take ((k + 1) * 8) p =
    ap (λ (l : List ℕ). take (k * 8) p ++ l) piece ∙ sym (take-add (k * 8) 8 p) ∙ ap (λ (j : ℕ). take j p) e in
    subst (λ t. Puts xs at t zs n) whole (after a b)

-- a byte more of those left over
pub byte_more : {xs ys zs : List ℕ} {at m n : ℕ} (r : List ℕ) (i : ℕ) → i < length r → Puts xs at (take i r) ys m → Puts ys m (get_or r i 0 ∷ []) zs n
    → Puts xs at (take (i + 1) r) zs n
byte_more {xs} {ys} {zs} {at} {m} {n} r i h a b =
    let e : suc i ≡ i + 1 = omega arith in
    let whole : take i r ++ (get_or r i 0 ∷ []) ≡ take (i + 1) r = sym (take-suc r i 0 h) ∙ ap (λ (j : ℕ). take j r) e in
    subst (λ t. Puts xs at t zs n) whole (after a b)

-- those left over behind the last eight
pub all_passed : {xs ys zs : List ℕ} {at m n : ℕ} (p : List ℕ) (k i : ℕ) {r : List ℕ} → k ≡ length p / 8 → r ≡ drop (length p / 8 * 8) p → i ≡ length r
    → Puts xs at (take (k * 8) p) ys m → Puts ys m (take i r) zs n → Puts xs at p zs n
all_passed {xs} {ys} {zs} {at} {m} {n} p k i {r} e back h a b =
    let all : take i r ≡ r = take_all i r (omega (arith, h)) in
    let rest : r ≡ drop (k * 8) p = back ∙ ap (λ (j : ℕ). drop (j * 8) p) (sym e) in
    let whole : take (k * 8) p ++ take i r ≡ p = ap (λ (l : List ℕ). take (k * 8) p ++ l) (all ∙ rest) ∙ take-append-drop (k * 8) p in
    subst (λ t. Puts xs at t zs n) whole (after a b)
