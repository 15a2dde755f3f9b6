-- Pieces that are stored with the zeros above them, and what stood behind the last put back. Assumes nothing.
use Prim.Native.Nat.{ℕ, zero, suc, ◌+◌, ◌-◌, ◌≤◌, ◌<◌}
use mathlib.Core.Path.{◌≡◌, refl, sym, ap, ◌∙◌}
use mathlib.Core.List.{List, [], ◌∷◌, ◌++◌, append_assoc, append-nil}
use native.Mathlib.Nat.{sub-zero, div-eq_of_lt}
use native.Mathlib.Omega.{arith}
use lib.ListN.{length, take, drop, set, replicate, length-append, length-replicate, replicate-append-replicate}
use lib.Seq.{sets, set-set, set_comm}
use Rattle.bits.specs.Bytes.{bytes_of, span_of}
use Rattle.bits.proofs.Bytes.{bytes_more, bytes_none, bytes_take}
use Rattle.std.specs.Int.{w64, to_le_bytes}
use Rattle.ascii.proofs.Pieces.{number_bytes}
use Rattle.ascii.specs.route.Puts.{Puts}
use Rattle.bits.proofs.Lists.{sets_append}
use Rattle.bits.proofs.Spans.{length_span, span_stays, span_behind}
use Rattle.text.specs.declared.piece.Piece.{Piece}
use Rattle.text.specs.declared.piece.Pieces.{Pieces}
use Rattle.text.specs.route.Pieces.{text_in}
use Rattle.text.specs.route.Lines.{whole}
use Rattle.text.proofs.Packing.{size}
use Rattle.printer.specs.route.Printing.{Spills, total_of}

-- ---- a number of fewer bytes

eight_are : (p : Piece) → bytes_of 8 p.bytes ≡ text_in p ++ replicate (8 - p.length) 0
unfolding text_in
eight_are p =
    let e : p.length + (8 - p.length) ≡ 8 = omega (arith, p.short) in
    ap (λ (k : ℕ). bytes_of k p.bytes) (sym e) ∙ bytes_more p.length (8 - p.length) p.bytes ∙ rw (div-eq_of_lt p.low, bytes_none (8 - p.length))

-- ---- lists that are put over one another

set_before : (ws bs : List ℕ) (m i b : ℕ) → m < i → set (sets ws i bs) m b ≡ sets (set ws m b) i bs
set_before ws [] m i b h = refl
set_before ws (a ∷ bs) m i b h = set_before (set ws i a) bs m (suc i) b (omega arith) ∙ ap (λ (v : List ℕ). sets v (suc i) bs) (set_comm ws i m a b (λ e. absurd (omega arith)))

over : (ws bs cs : List ℕ) (m : ℕ) → sets (sets ws m bs) m cs ≡ sets ws m (cs ++ drop (length cs) bs)
over ws bs [] m = refl
over ws [] (c ∷ cs) m = ap (sets ws m) (sym (append-nil (c ∷ cs)))
over ws (b ∷ bs) (c ∷ cs) m =
    ap (λ (v : List ℕ). sets v (suc m) cs) (set_before (set ws m b) bs m (suc m) c (omega arith) ∙ ap (λ (v : List ℕ). sets v (suc m) bs) (set-set ws m b c))
    ∙ over (set ws m c) bs cs (suc m)

drop_replicate : (k i b : ℕ) → drop k (replicate i b) ≡ replicate (i - k) b
drop_replicate zero i b = rw (sub-zero i)
drop_replicate (suc k) zero b =
    let e : 0 - suc k ≡ 0 = omega arith in
    rw e
drop_replicate (suc k) (suc i) b =
    let e : suc i - suc k ≡ i - k = omega arith in
    rw e (drop_replicate k i b)

-- a line as far as a text, and what is put behind it
split : {xs t ys : List ℕ} {at next : ℕ} (s : Spills xs at t ys next) → ys ≡ sets (sets xs at t) next (replicate s.zeros 0)
split {xs} {t} {at = at} s = s.text ∙ sym (sets_append xs t (replicate s.zeros 0) at) ∙ ap (λ (m : ℕ). sets (sets xs at t) m (replicate s.zeros 0)) (sym s.place)

pub spill_is : {xs ys : List ℕ} {at r : ℕ} (p : Piece) → ys ≡ sets xs at (bytes_of 8 p.bytes) → r ≡ at + p.length → Spills xs at (text_in p) ys r
spill_is {xs} {at = at} p a e =
    record {
      zeros = 8 - p.length;
      few = omega arith;
      text = a ∙ ap (sets xs at) (eight_are p);
      place = omega (arith, size p);
    }

pub flow : {xs t ys u zs : List ℕ} {at m n : ℕ} → Spills xs at t ys m → Spills ys m u zs n → Spills xs at (t ++ u) zs n
flow {xs} {t} {ys} {u} {zs} {at} {m} {n} a b =
    let i = a.zeros in
    let j = b.zeros in
    let l = length-append u (replicate j 0) in
    let r = length-replicate {A = ℕ} j 0 in
    let k : i - length (u ++ replicate j 0) ≡ i - (length u + j) = omega arith in
    let rest : u ++ replicate j 0 ++ drop (length (u ++ replicate j 0)) (replicate i 0) ≡ u ++ replicate (j + (i - (length u + j))) 0 =
    rw (drop_replicate (length (u ++ replicate j 0)) i 0, k) (append_assoc u (replicate j 0) (replicate (i - (length u + j)) 0) ∙ ap (λ (v : List ℕ). u ++ v) (replicate-append-replicate j (i - (length u + j)) 0))
    in
    record {
      zeros = j + (i - (length u + j));
      few = omega (arith, a.few, b.few);
      text = b.text ∙ ap (λ (v : List ℕ). sets v m (u ++ replicate j 0)) (split a) ∙ over (sets xs at t) (replicate i 0) (u ++ replicate j 0) m
          ∙ ap (sets (sets xs at t) m) rest
          ∙ ap (λ (q : ℕ). sets (sets xs at t) q (u ++ replicate (j + (i - (length u + j))) 0)) a.place
          ∙ sets_append xs t (u ++ replicate (j + (i - (length u + j))) 0) at
          ∙ ap (sets xs at) (sym (append_assoc t u (replicate (j + (i - (length u + j))) 0)));
      place = omega (arith, a.place, b.place, length-append t u);
    }

-- ---- what stood behind a text

-- a line is as it was where what it holds is put
pub restored : {xs t ys zs : List ℕ} {at m r : ℕ} (v : ℕ) → Spills xs at t ys r → m ≡ at + length t → m ≤ length xs → bytes_of 8 v ≡ span_of xs m 8 → zs ≡ sets ys m (bytes_of 8 v)
    → Puts xs at t zs m
restored {xs} {t} {ys} {zs} {at} {m} {r} v a e h q b =
    let same : r ≡ m = a.place ∙ sym e in
    let none : a.zeros - 8 ≡ 0 = omega (arith, a.few) in
    let s = span_of xs m 8 in
    let rest : s ++ drop (length s) (replicate a.zeros 0) ≡ s = rw (length_span xs m 8, drop_replicate 8 a.zeros 0, none) (append-nil s) in
    record {
      text = b ∙ ap (sets ys m) q ∙ ap (λ (v : List ℕ). sets v m s) (rw same at (split a)) ∙ over (sets xs at t) (replicate a.zeros 0) s m
          ∙ ap (sets (sets xs at t) m) (rest ∙ sym (span_behind t xs at m 8 (omega arith))) ∙ span_stays (sets xs at t) m 8;
      place = omega arith;
    }

pub whole_length : (p : Pieces) → length (whole p) ≡ total_of p
whole_length p =
    let a = text_in p.name in
    let b = text_in p.first in
    let c = text_in p.second in
    let d = text_in p.third in
    let e = text_in p.fourth in
    let f = text_in p.last in
    omega (arith, size p.name, size p.first, size p.second, size p.third, size p.fourth, size p.last, length-append a b, length-append (a ++ b) c, length-append (a ++ b ++ c) d, length-append (a ++ b ++ c ++ d) e, length-append (a ++ b ++ c ++ d ++ e) f)

-- the bytes of a piece among eight
pub low_bytes : (p : Piece) → take p.length (to_le_bytes w64 p.bytes) ≡ text_in p
unfolding text_in
low_bytes p =
    let e : p.length + (8 - p.length) ≡ 8 = omega (arith, p.short) in
    ap (take p.length) (number_bytes p.bytes ∙ ap (λ (k : ℕ). bytes_of k p.bytes) (sym e)) ∙ bytes_take p.length (8 - p.length) p.bytes
