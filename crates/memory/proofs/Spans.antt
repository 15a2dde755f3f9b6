-- Laws of bytes stored and joined one by one, and of a part that is lent from an index to the end. Assumes nothing.
use Prim.Native.Nat.{ℕ, zero, suc, ◌+◌, ◌-◌, ◌/◌, ◌%◌, ◌≤◌, ◌<◌}
use mathlib.Core.Path.{◌≡◌, refl}
use mathlib.Core.List.{List, [], ◌∷◌, ◌++◌, append-nil}
use native.Mathlib.Nat.{add-suc, add-zero}
use native.Mathlib.Omega.{arith}
use lib.ListN.{length, take, drop, set, take-append-drop, length-drop, drop_of_length-le}
use lib.Seq.{sets, drop-set-add, take-set-le, get_or-drop, take_all, set_out}
use borrow.Rule.Slice.PartMut.{mid_of, put_mid}
use Rattle.bits.specs.Bytes.{bytes_of, span_of}

-- one turn fewer is left
left : {n i : ℕ} → i < n → n - i ≡ suc (n - suc i)
left h = omega arith

pub bytes_left : {n i : ℕ} (v : ℕ) → i < n → bytes_of (n - i) v ≡ v % 256 ∷ bytes_of (n - suc i) (v / 256)
unfolding bytes_of
bytes_left v h = rw (left h)

-- past the end nothing is stored
sets_out : (bs xs : List ℕ) (i : ℕ) → length xs ≤ i → sets xs i bs ≡ xs
sets_out [] xs i h = refl
sets_out (b ∷ bs) xs i h = rw (set_out xs i b h) (sets_out bs xs (suc i) (omega arith))

pub sets_end : (xs : List ℕ) (i n v : ℕ) → (0 < n → length xs ≤ i) → sets xs i (bytes_of n v) ≡ xs
unfolding bytes_of
sets_end xs i zero v h = refl
sets_end xs i (suc n) v h = sets_out (bytes_of (suc n) v) xs i (h (omega arith))

-- stores into a part that starts at an index are stores into the whole
sets_part : (bs xs : List ℕ) (at i : ℕ) → take at xs ++ sets (drop at xs) i bs ≡ sets xs (at + i) bs
sets_part [] xs at i = take-append-drop at xs
sets_part (b ∷ bs) xs at i =
    let x : List ℕ = set xs (at + i) b in
    let h : at ≤ at + i = omega arith in
    let more : take at x ++ sets (drop at x) (suc i) bs ≡ sets x (at + suc i) bs = sets_part bs x at (suc i) in
    rw (← add-suc, ← drop-set-add) (rw (← take-set-le at xs (at + i) b h) more)

pub put_back : (xs ys bs : List ℕ) (at : ℕ) → ys ≡ sets (mid_of at (length xs - at) xs) 0 bs → put_mid at (length xs - at) xs ys ≡ sets xs at bs
put_back xs ys bs at e =
    let h : length (drop at xs) ≤ length xs - at = rw length-drop (omega arith) in
    rw (e, take_all (length xs - at) (drop at xs), drop_of_length-le (drop at xs), append-nil, sets_part, add-zero)

-- a span of a part is a span of the whole
span_part : (xs : List ℕ) (at i n : ℕ) → span_of (drop at xs) i n ≡ span_of xs (at + i) n
unfolding span_of
span_part xs at i zero = refl
span_part xs at i (suc n) = rw (get_or-drop, span_part xs at (suc i) n, add-suc)

pub span_back : (xs : List ℕ) (at n : ℕ) → span_of (mid_of at (length xs - at) xs) 0 n ≡ span_of xs at n
span_back xs at n =
    let h : length (drop at xs) ≤ length xs - at = rw length-drop (omega arith) in
    rw (take_all (length xs - at) (drop at xs), span_part, add-zero)
