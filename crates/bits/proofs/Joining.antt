-- Bytes joined to a number: two neighbours, and a number cut in two. Assumes nothing.
use Rattle.std.proofs.Common.{◌≡◌, ℕ, ◌+◌, ◌-◌, ◌*◌, ◌/◌, ◌%◌, ◌^◌, ◌<◌, ◌≤◌, List, ◌++◌, length, get_or, take, drop, sym, ap, ◌∙◌, mod-lt, mul_comm, div-lt_iff_lt-mul, add_comm, arith, lit<, take_at, drop_at, pow-add}
use native.Mathlib.Nat.{one-le-pow, mod-add-div'}
use lib.Arith.{digits_lt, digits_div}
use lib.Seq.{sets}
use Rattle.bits.specs.Bytes.{bytes_of, joined, span_of}
use Rattle.bits.specs.route.Joins.{Joins, under}
use Rattle.bits.proofs.Bytes.{length_bytes, bytes_more, bytes_take, bytes_drop, bytes_low, bytes_none, joined_bytes}
use Rattle.bits.proofs.Lists.{sets_append}
use Rattle.bits.proofs.Spans.{length_span, span_more, span_past, span_stays, span_behind}

pub number : {xs : List ℕ} {at n r : ℕ} → Joins xs at n r → r ≡ joined (span_of xs at n)
number {n = n} {r} j = sym (joined_bytes n r j.fits) ∙ ap joined j.are

-- a byte
pub byte : {xs : List ℕ} {at b : ℕ} → b ≡ get_or xs at 0 → b < 256 → Joins xs at 1 b
unfolding bytes_of span_of
byte {b = b} e h =
    let f : b % 256 ≡ b = omega arith in
    record { are = rw (f, e); fits = h }

-- two neighbours, of any widths
pub halves : {xs : List ℕ} {at x y : ℕ} (a b : ℕ) → Joins xs at a x → Joins xs (at + a) b y → Joins xs at (a + b) (x + y * 256 ^ a)
halves {xs} {at} {x} {y} a b p q =
    let m = 256 ^ a in
    let high : (x + y * m) / m ≡ y = ap (λ (v : ℕ). v / m) (add_comm x (y * m)) ∙ digits_div y p.fits in
    let room : y * m + x < 256 ^ b * m = digits_lt q.fits p.fits in
    record {
      are = bytes_more a b (x + y * m) ∙ rw (bytes_low a x y, high, p.are, q.are, span_more xs at a b);
      fits = rw (pow-add 256 a b, mul_comm m (256 ^ b), add_comm x (y * m)) room;
    }

some : (n : ℕ) → 0 < 256 ^ n
some n = one-le-pow n 256 (lit< tt)

-- past the end there is nothing
pub past : {xs : List ℕ} {at : ℕ} (n : ℕ) → length xs ≤ at → Joins xs at n 0
past {xs} {at} n h = record { are = bytes_none n ∙ sym (span_past xs at n h); fits = some n }

pub ends : {xs : List ℕ} {at n r : ℕ} (k : ℕ) → length xs ≤ at + n → Joins xs at n r → Joins xs at (n + k) r
ends {xs} {at} {n} {r} k h j =
    let e : r + 0 * 256 ^ n ≡ r = omega arith in
    rw e at (halves n k j (past k h))

-- the low n bytes of a number, and those above them
low_bytes : (n v : ℕ) → bytes_of n (v % 256 ^ n) ≡ bytes_of n v
low_bytes n v = sym (bytes_low n (v % 256 ^ n) (v / 256 ^ n)) ∙ ap (bytes_of n) (mod-add-div' v (256 ^ n))

low_of : {xs : List ℕ} {at v : ℕ} (n k : ℕ) → Joins xs at (n + k) v → Joins xs at n (v % 256 ^ n)
low_of {xs} {at} {v} n k j =
    record {
      are = low_bytes n v ∙ sym (bytes_take n k v) ∙ ap (take n) (j.are ∙ span_more xs at n k)
          ∙ take_at (span_of xs at n) (span_of xs (at + n) k) n (length_span xs at n);
      fits = mod-lt v (some n);
    }

pub low : {xs : List ℕ} {at m v : ℕ} (n : ℕ) → n ≤ m → Joins xs at m v → Joins xs at n (v % 256 ^ n)
low {m = m} n h j = let e : m ≡ n + (m - n) = omega arith in low_of n (m - n) (rw e at j)

above_fits : (n k v : ℕ) → v < 256 ^ (n + k) → v / 256 ^ n < 256 ^ k
above_fits n k v h = (div-lt_iff_lt-mul (some n)).1 (rw (mul_comm (256 ^ k) (256 ^ n), ← pow-add 256 n k) h)

high : {xs : List ℕ} {at v : ℕ} (n k : ℕ) → Joins xs at (n + k) v → bytes_of k (v / 256 ^ n) ≡ span_of xs (at + n) k
high {xs} {at} {v} n k j =
    bytes_drop n k v ∙ ap (drop n) (j.are ∙ span_more xs at n k) ∙ drop_at (span_of xs at n) (span_of xs (at + n) k) n (length_span xs at n)

-- n bytes in place of the low ones of m: the number has room, and to put its m bytes is to put n
under_room : (n k v w : ℕ) → w < 256 ^ (n + k) → under n v w < 256 ^ (n + k)
unfolding under
under_room n k v w h =
    let m = 256 ^ n in
    let room : w / m * m + v % m < 256 ^ k * m = digits_lt (above_fits n k w h) (mod-lt v (some n)) in
    rw (pow-add 256 n k, mul_comm m (256 ^ k), add_comm (v % m) (w / m * m)) room

pub under_fits : {m w : ℕ} (n v : ℕ) → n ≤ m → w < 256 ^ m → under n v w < 256 ^ m
under_fits {m} {w} n v h l =
    let e : m ≡ n + (m - n) = omega arith in
    let g : under n v w < 256 ^ (n + (m - n)) = under_room n (m - n) v w (rw e at l) in
    rw (← e) at g

put_above : {xs : List ℕ} {at w : ℕ} (n k v : ℕ) → Joins xs at (n + k) w → sets xs at (bytes_of (n + k) (under n v w)) ≡ sets xs at (bytes_of n v)
unfolding under
put_above {xs} {at} {w} n k v j =
    let m = 256 ^ n in
    let bs = bytes_of n v in
    let above : (v % m + w / m * m) / m ≡ w / m = ap (λ (u : ℕ). u / m) (add_comm (v % m) (w / m * m)) ∙ digits_div (w / m) (mod-lt v (some n)) in
    let l : length bs ≡ n = length_bytes n v in
    let stays : span_of (sets xs at bs) (at + n) k ≡ span_of xs (at + n) k = span_behind bs xs at (at + n) k (omega arith) in
    let parts : bytes_of (n + k) (v % m + w / m * m) ≡ bs ++ span_of xs (at + n) k =
    bytes_more n k (v % m + w / m * m) ∙ rw (bytes_low n (v % m) (w / m), low_bytes n v, above, high n k j) in
    let apart : sets (sets xs at bs) (at + n) (span_of xs (at + n) k) ≡ sets xs at (bs ++ span_of xs (at + n) k) = rw l at (sets_append xs bs (span_of xs (at + n) k) at) in
    ap (sets xs at) parts ∙ sym apart ∙ ap (sets (sets xs at bs) (at + n)) (sym stays) ∙ span_stays (sets xs at bs) (at + n) k

pub put_under : {xs : List ℕ} {at m w : ℕ} (n v : ℕ) → n ≤ m → Joins xs at m w → sets xs at (bytes_of m (under n v w)) ≡ sets xs at (bytes_of n v)
put_under {xs} {at} {m} {w} n v h j =
    let e : n + (m - n) ≡ m = omega arith in
    let g : sets xs at (bytes_of (n + (m - n)) (under n v w)) ≡ sets xs at (bytes_of n v) = put_above n (m - n) v (rw e j) in
    rw e at g
