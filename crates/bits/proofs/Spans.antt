-- Laws of the bytes from an index on. Assumes nothing.
use Rattle.std.proofs.Common.{◌≡◌, ℕ, zero, suc, ◌+◌, ◌≤◌, List, [], ◌∷◌, ◌++◌, length, get_or, set, replicate, refl, ap, ◌∙◌, add-zero, add-suc, suc-add, zero-add, arith, get_or-set_other}
use lib.ListN.{get_or-eq_default}
use lib.Seq.{sets, set-get_or}
use Rattle.bits.specs.Bytes.{span_of}

pub length_span : (xs : List ℕ) (at n : ℕ) → length (span_of xs at n) ≡ n
unfolding span_of
length_span xs at zero = refl
length_span xs at (suc n) = ap suc (length_span xs (suc at) n)

-- two neighbours
pub span_more : (xs : List ℕ) (at a b : ℕ) → span_of xs at (a + b) ≡ span_of xs at a ++ span_of xs (at + a) b
unfolding span_of
span_more xs at zero b = rw (zero-add b, add-zero at)
span_more xs at (suc a) b = rw (suc-add a b, add-suc at a, ← suc-add at a) (ap (λ (l : List ℕ). get_or xs at 0 ∷ l) (span_more xs (suc at) a b))

-- past the end there is nothing but 0
pub span_past : (xs : List ℕ) (at n : ℕ) → length xs ≤ at → span_of xs at n ≡ replicate n 0
unfolding span_of
span_past xs at zero h = refl
span_past xs at (suc n) h = rw (get_or-eq_default, span_past xs (suc at) n (omega arith))

-- to put back what is there changes nothing
pub span_stays : (xs : List ℕ) (at n : ℕ) → sets xs at (span_of xs at n) ≡ xs
unfolding span_of
span_stays xs at zero = refl
span_stays xs at (suc n) = ap (λ (l : List ℕ). sets l (suc at) (span_of xs (suc at) n)) (set-get_or xs at 0) ∙ span_stays xs (suc at) n

-- what is set in front of them changes none
get_or_behind : (bs xs : List ℕ) (at i : ℕ) → at + length bs ≤ i → get_or (sets xs at bs) i 0 ≡ get_or xs i 0
get_or_behind [] xs at i h = refl
get_or_behind (b ∷ bs) xs at i h = get_or_behind bs (set xs at b) (suc at) i (omega arith) ∙ get_or-set_other xs at i b 0 (λ e. absurd (omega arith))

pub span_behind : (bs xs : List ℕ) (at i n : ℕ) → at + length bs ≤ i → span_of (sets xs at bs) i n ≡ span_of xs i n
unfolding span_of
span_behind bs xs at i zero h = refl
span_behind bs xs at i (suc n) h = rw (get_or_behind bs xs at i h, span_behind bs xs at (suc i) n (omega arith))
