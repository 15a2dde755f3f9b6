-- Laws of lists, beside the library's. Assumes nothing.
use Rattle.std.proofs.Common.{◌≡◌, ℕ, zero, suc, ◌+◌, ◌≤◌, List, [], ◌∷◌, ◌++◌, map, length, take, set, refl, ap, add-zero, add-suc, suc-add, arith}
use lib.Seq.{sets, sets-eq, take-append_seam}

-- what is set at the front is what a list begins with
pub sets_front : {A : Type 0} (vs xs : List A) → length vs ≤ length xs → take (length vs) (sets xs 0 vs) ≡ vs
sets_front vs xs h =
    let fits : 0 + length vs ≤ length xs = omega arith in
    rw (sets-eq vs xs 0, take-append_seam)

-- what is set behind a list is set with it
pub sets_append : {A : Type 0} (xs p q : List A) (at : ℕ) → sets (sets xs at p) (at + length p) q ≡ sets xs at (p ++ q)
sets_append xs [] q at = rw add-zero
sets_append xs (b ∷ p) q at = rw (add-suc, ← suc-add) (sets_append (set xs at b) p q (suc at))

pub take_map : {A B : Type 0} (f : A → B) (n : ℕ) (xs : List A) → take n (map f xs) ≡ map f (take n xs)
take_map f zero xs = refl
take_map f (suc n) [] = refl
take_map f (suc n) (x ∷ xs) = ap (λ (l : List _). f x ∷ l) (take_map f n xs)
