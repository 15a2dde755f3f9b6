-- Pieces of text put one behind the other. Assumes nothing.
use Prim.Native.Nat.{ℕ, suc, ◌+◌, ◌-◌, ◌≤◌, min, max}
use mathlib.Core.Path.{◌≡◌, refl, sym, ap, ◌∙◌}
use mathlib.Core.Bool.{Bool, true, false}
use mathlib.Core.List.{List, [], ◌∷◌, ◌++◌, append_assoc}
use native.Mathlib.Omega.{arith}
use borrow.Author.Tests.{leb-true, leb-false}
use lib.Dec.{leb}
use lib.ListN.{length, take, drop, length-append}
use lib.Seq.{sets, length-sets, sets-eq, set_out}
use Rattle.std.proofs.lemmas.List.{length-take-le, take_all, drop-drop, take-append-drop}
use borrow.Rule.Slice.PartMut.{put_mid}
use Rattle.std.specs.Int.{w64, to_le_bytes}
use native.Mathlib.Nat.{div-div-eq-div-mul}
use Rattle.bits.specs.Bytes.{bytes_of}
use Rattle.bits.proofs.Bytes.{length_bytes}
use Rattle.bits.proofs.Lists.{sets_append}
use Rattle.ascii.specs.route.Puts.{Puts}

-- nothing is put behind the end
sets_out : (xs q : List ℕ) (at : ℕ) → length xs ≤ at → sets xs at q ≡ xs
sets_out xs [] at h = refl
sets_out xs (b ∷ q) at h = rw (set_out xs at b h) (sets_out xs q (suc at) (omega arith))

-- where the first piece ends, the second goes on, or there is no room for it
goes_on : (xs p q : List ℕ) (at m : ℕ) → m ≡ max at (min (at + length p) (length xs)) → (b : Bool) → leb (at + length p) (length xs) ≡ b
    → sets (sets xs at p) m q ≡ sets xs at (p ++ q)
goes_on xs p q at m e true t =
    let h : m ≡ at + length p = omega (arith, leb-true (at + length p) (length xs) t) in
    rw h (sets_append xs p q at)
goes_on xs p q at m e false t =
    let l = length-sets xs at p in
    sets_out (sets xs at p) q m (omega (arith, leb-false (at + length p) (length xs) t)) ∙ sym (sets_out (sets xs at p) q (at + length p) (omega (arith, leb-false (at + length p) (length xs) t)))
    ∙ sets_append xs p q at

pub after : {xs p ys q zs : List ℕ} {at m n : ℕ} → Puts xs at p ys m → Puts ys m q zs n → Puts xs at (p ++ q) zs n
after {xs} {p} {ys} {q} {zs} {at} {m} {n} a b =
    record {
      text = b.text ∙ ap (λ (x : List ℕ). sets x m q) a.text ∙ goes_on xs p q at m a.place (leb (at + length p) (length xs)) refl;
      place = omega (arith, a.place, b.place, ap length a.text ∙ length-sets xs at p, length-append p q);
    }

-- a line keeps its length
pub same : {xs p ys : List ℕ} {at m : ℕ} → Puts xs at p ys m → length ys ≡ length xs
same {xs} {p} {ys} {at} a = ap length a.text ∙ length-sets xs at p

-- where there is room, the position is the one behind the piece
pub fits : {xs p ys : List ℕ} {at m : ℕ} → Puts xs at p ys m → at + length p ≤ length xs → m ≡ at + length p
fits a h = omega (arith, a.place)

-- no piece at all
pub nothing : (xs : List ℕ) (at : ℕ) → Puts xs at [] xs at
nothing xs at = record { text = refl; place = omega arith }

pub out_of_room : (xs p : List ℕ) (at : ℕ) → length xs ≤ at → Puts xs at p xs at
out_of_room xs p at h = record { text = sym (sets_out xs p at h); place = omega arith }

-- ---- a piece that is copied over a part of the line

laid : (xs ys : List ℕ) (at n : ℕ) → n ≡ length ys → at + length ys ≤ length xs → put_mid at n xs ys ≡ sets xs at ys
laid xs ys at n e h =
    let d : drop n (drop at xs) ≡ drop (at + length ys) xs = rw e (drop-drop (length ys) at xs) in
    rw d (sym (append_assoc (take at xs) ys (drop (at + length ys) xs)) ∙ sym (sets-eq ys xs at h))

-- what the line has no room for
cut : (xs p : List ℕ) (at n : ℕ) → length xs ≤ at + n → n ≤ length p → sets xs at (take n p) ≡ sets xs at p
cut xs p at n h k =
    let front = take n p in
    let l : length front ≡ n = length-take-le n p k in
    let s = length-sets xs at front in
    sym (sets_out (sets xs at front) (drop n p) (at + length front) (omega arith)) ∙ sets_append xs front (drop n p) at ∙ ap (sets xs at) (take-append-drop n p)

all_or_cut : (xs p : List ℕ) (at n : ℕ) → n ≡ min (length p) (length xs - at) → at ≤ length xs → (b : Bool) → leb (length p) n ≡ b
    → sets xs at (take n p) ≡ sets xs at p
all_or_cut xs p at n e h true t = ap (sets xs at) (take_all n p (leb-true (length p) n t))
all_or_cut xs p at n e h false t = cut xs p at n (omega (arith, leb-false (length p) n t)) (omega arith)

-- all of a piece that has room
pub copied_whole : {xs p ys : List ℕ} {at n k : ℕ} → ys ≡ p → n ≡ length p → k ≡ n → at + n ≤ length xs → Puts xs at p (put_mid at k xs ys) (at + n)
copied_whole {xs} {p} {ys} {at} {n} {k} e l q h = record { text = rw e (laid xs p at k (q ∙ l) (omega arith)); place = omega arith }

-- as much of it as has room
pub copied_front : {xs p ys : List ℕ} {at n k : ℕ} → ys ≡ take n p → n ≡ min (length p) (length xs - at) → k ≡ n → at ≤ length xs
    → Puts xs at p (put_mid at k xs ys) (at + n)
copied_front {xs} {p} {ys} {at} {n} {k} e m q h =
    let l : length (take n p) ≡ n = length-take-le n p (omega arith) in
    let room : at + length (take n p) ≤ length xs = omega arith in
    record {
      text = rw e (laid xs (take n p) at k (q ∙ sym l) room) ∙ all_or_cut xs p at n m h (leb (length p) n) refl;
      place = omega arith;
    }

-- ---- the bytes of a number, as the library has them

pub number_bytes : (v : ℕ) → to_le_bytes w64 v ≡ bytes_of 8 v
unfolding bytes_of
number_bytes v = rw (div-div-eq-div-mul v 256 256, div-div-eq-div-mul v 65536 256, div-div-eq-div-mul v 16777216 256, div-div-eq-div-mul v 4294967296 256, div-div-eq-div-mul v 1099511627776 256, div-div-eq-div-mul v 281474976710656 256)

-- a number that is copied over eight bytes of a line
pub number_put : (xs ys : List ℕ) (v at k : ℕ) → ys ≡ to_le_bytes w64 v → k ≡ 8 → at + 8 ≤ length xs → put_mid at k xs ys ≡ sets xs at (bytes_of 8 v)
number_put xs ys v at k e q h =
    let w : ys ≡ bytes_of 8 v = e ∙ number_bytes v in
    let l = length_bytes 8 v in
    rw w (laid xs (bytes_of 8 v) at k (omega arith) (omega arith))
