-- A loaded number, byte by byte: its value and its taints come from the same sources. `extended_sources` says it of the value,
-- by the top byte (`sign_at`); of the taints it is the same law, of taint bytes that are 255 for 1. Assumes nothing.
use Prim.Native.Nat.{ℕ, zero, suc, ◌+◌, ◌-◌, ◌*◌, ◌/◌, ◌^◌, ◌≤◌, ◌<◌}
use mathlib.Core.Path.{◌≡◌, refl, sym, ap, ◌∙◌}
use mathlib.Core.Bool.{Bool, true, false}
use mathlib.Core.List.{List, [], ◌∷◌, map, map-append, append-nil}
use native.Mathlib.Nat.{pow-suc, mul_comm, mul-suc, mul-le-mul_right, one-le-pow, mul-div_cancel}
use native.Mathlib.Decide.{dec_lt}
use native.Mathlib.Omega.{arith}
use borrow.Author.Tests.{lt-ltb, le-ltb}
use lib.Dec.{ltb, lit<}
use lib.ListN.{get_or, replicate, get_or-map}
use lib.Pow.{pow-add}
use Rattle.bits.specs.Choice.{pick}
use Rattle.bits.specs.Bytes.{joined, span_of}
use Rattle.bits.specs.Extension.{largest, extended_of}
use Rattle.bits.proofs.Spans.{length_span, span_more}
use Rattle.memory.specs.Taints.{normal, byte_at}
use Rattle.memory.specs.Sources.{Source, cleared, byte, sign, bytes_from, sign_from, sources_of, taint_from, loaded_taint}
use Rattle.memory.specs.route.Values.{sign_copy, value_from}
use Rattle.memory.proofs.Taints.{normal_small, no_byte, joined_append}

-- ---- numbers of bytes that are all the same

ones : (c : ℕ) → joined (replicate c 255) + 1 ≡ 256 ^ c
unfolding joined
ones zero = refl
ones (suc c) = rw pow-suc (omega (arith, ones c))

zeros : (c : ℕ) → joined (replicate c 0) ≡ 0
unfolding joined
zeros zero = refl
zeros (suc c) = rw (zeros c)

map_replicate : (f : Source → ℕ) (c : ℕ) (s : Source) → map f (replicate c s) ≡ replicate c (f s)
map_replicate f zero s = refl
map_replicate f (suc c) s = ap (λ (l : List ℕ). f s ∷ l) (map_replicate f c s)

-- byte i of what sources give, whatever they are read for, is what source i gives
pub byte_from : (f : Source → ℕ) → ((s : Source) → f s < 256) → f cleared ≡ 0 → (ss : List Source) (i : ℕ) → byte_at i (joined (map f ss)) ≡ f (get_or ss i cleared)
unfolding joined byte_at
byte_from f h z [] i = no_byte i ∙ sym z
byte_from f h z (s ∷ ss) zero = omega (arith, h s)
byte_from f h z (s ∷ ss) (suc i) =
    let e : (f s + joined (map f ss) * 256) / 256 ≡ joined (map f ss) = omega (arith, h s) in
    rw e (byte_from f h z ss i)

-- ---- values

-- a list of bytes
abbrev pub Small : List ℕ → Type 0
Small m = (i : ℕ) → get_or m i 0 < 256

sign_small : (z : Bool) → pick z 0 255 < 256
sign_small true = lit< tt
sign_small false = lit< tt

pub value_small : (m : List ℕ) → Small m → (s : Source) → value_from m s < 256
value_small m h cleared = lit< tt
value_small m h (byte i) = h i
value_small m h (sign i) = sign_small (ltb (get_or m i 0) 128)

bytes_from_lem : (m : List ℕ) (at n : ℕ) → map (value_from m) (bytes_from at n) ≡ span_of m at n
unfolding bytes_from span_of
bytes_from_lem m at zero = refl
bytes_from_lem m at (suc n) = ap (λ (l : List ℕ). get_or m at 0 ∷ l) (bytes_from_lem m (suc at) n)

pub span_fits : (m : List ℕ) → Small m → (at n : ℕ) → joined (span_of m at n) < 256 ^ n
unfolding span_of joined
span_fits m s at zero = lit< tt
span_fits m s at (suc n) =
    let k = 256 ^ n in
    rw pow-suc (omega (arith, s at, span_fits m s (suc at) n))

-- the top byte of a span
top_byte : (m : List ℕ) (at n : ℕ) → joined (span_of m at (suc n)) ≡ joined (span_of m at n) + get_or m (at + n) 0 * 256 ^ n
unfolding span_of joined
top_byte m at n =
    let e : suc n ≡ n + 1 = omega arith in
    let one : joined (span_of m (at + n) 1) ≡ get_or m (at + n) 0 = omega arith in
    ap (λ (k : ℕ). joined (span_of m at k)) e ∙ ap joined (span_more m at n 1)
    ∙ joined_append (span_of m at n) (span_of m (at + n) 1) ∙ rw (one, length_span m at n)

-- a number of low bytes and a top byte, extended by copies of its sign
sign_at : (low t k c : ℕ) → 0 < k → low < k → t < 256 → Dec (t < 128)
    → pick (ltb ((k * 256 - 1) / 2) (low + t * k)) (low + t * k + (k * 256 * 256 ^ c - 1 - (k * 256 - 1))) (low + t * k) ≡ low + t * k + joined (replicate c (sign_copy t)) * (k * 256)
sign_at low t k c p l s (yes h) =
    let m : suc t * k ≤ 128 * k = mul-le-mul_right k h in
    let e : low + t * k ≤ (k * 256 - 1) / 2 = omega arith in
    rw (lt-ltb t 128 h, zeros c, le-ltb ((k * 256 - 1) / 2) (low + t * k) e) (omega arith)
sign_at low t k c p l s (no n) =
    let o : 128 ≤ t = omega arith in
    let m : 128 * k ≤ t * k = mul-le-mul_right k o in
    let e : (k * 256 - 1) / 2 < low + t * k = omega arith in
    let j = joined (replicate c 255) in
    let g : 256 ^ c ≡ suc j = omega (arith, ones c) in
    let w : k * 256 * suc j ≡ k * 256 + j * (k * 256) = omega (arith, mul-suc (k * 256) j, mul_comm (k * 256) j) in
    rw (le-ltb t 128 o, lt-ltb ((k * 256 - 1) / 2) (low + t * k) e, g, w) (omega arith)

-- the sign of a span is that of its top byte
sign_of : (m : List ℕ) (at n : ℕ) → value_from m (sign_from at (suc n)) ≡ sign_copy (get_or m (at + n) 0)
sign_of m at n = ap (λ (i : ℕ). sign_copy (get_or m i 0)) (omega arith)

extended_by : (m : List ℕ) (at n extent : ℕ) → n ≤ extent → Small m
    → extended_of n extent (joined (span_of m at n)) ≡ joined (span_of m at n) + joined (replicate (extent - n) (value_from m (sign_from at n))) * 256 ^ n
unfolding extended_of largest span_of joined
extended_by m at zero extent h s = rw (zeros (extent - 0))
extended_by m at (suc n) extent h s =
    let k = 256 ^ n in
    let c = extent - suc n in
    let whole : extent ≡ suc n + c = omega arith in
    let e : 256 ^ extent ≡ k * 256 * 256 ^ c = ap (λ (x : ℕ). 256 ^ x) whole ∙ pow-add 256 (suc n) c ∙ ap (λ (x : ℕ). x * 256 ^ c) (pow-suc 256 n) in
    let low : joined (span_of m at n) < k = span_fits m s at n in
    rw (sign_of m at n, top_byte m at n, e, pow-suc 256 n) (sign_at (joined (span_of m at n)) (get_or m (at + n) 0) k c (one-le-pow n 256 (lit< tt)) low (s (at + n)) (dec_lt (get_or m (at + n) 0) 128))

-- an extended number is what its sources give
pub extended_sources : (m : List ℕ) (at n extent : ℕ) → n ≤ extent → Small m → extended_of n extent (joined (span_of m at n)) ≡ joined (map (value_from m) (sources_of at n extent))
unfolding sources_of
extended_sources m at n extent h s =
    extended_by m at n extent h s
    ∙ sym (ap joined (map-append (value_from m) (bytes_from at n) (replicate (extent - n) (sign_from at n)) ∙ rw (bytes_from_lem m at n, map_replicate (value_from m) (extent - n) (sign_from at n)))
    ∙ joined_append (span_of m at n) (replicate (extent - n) (value_from m (sign_from at n))) ∙ rw (length_span m at n))

-- ---- taints

pub taint_small : (k : List ℕ) (s : Source) → taint_from k s < 256
taint_small k cleared = lit< tt
taint_small k (byte i) = omega (arith, normal_small (get_or k i 0))
taint_small k (sign i) = omega (arith, normal_small (get_or k i 0))

-- 255 in place of 1, they are extended as values are

abbrev full : ℕ → ℕ
full b = normal b * 255

full_small : (b : ℕ) → full b < 256
full_small zero = omega arith
full_small (suc b) = omega arith

full_sign : (b : ℕ) → sign_copy (full b) ≡ full b
full_sign zero = refl
full_sign (suc b) = refl

full_at : (k : List ℕ) (i : ℕ) → get_or (map full k) i 0 ≡ full (get_or k i 0)
full_at k i = get_or-map full k i 0

full_from : (k : List ℕ) (s : Source) → value_from (map full k) s ≡ taint_from k s * 255
full_from k cleared = refl
full_from k (byte i) = full_at k i
full_from k (sign i) = rw (full_at k i) (full_sign (get_or k i 0))

full_span : (k : List ℕ) (at n : ℕ) → joined (span_of (map full k) at n) ≡ joined (map normal (span_of k at n)) * 255
unfolding span_of joined
full_span k at zero = refl
full_span k at (suc n) = rw (full_at k at, full_span k (suc at) n) (omega arith)

full_sources : (k : List ℕ) (ss : List Source) → joined (map (value_from (map full k)) ss) ≡ joined (map (taint_from k) ss) * 255
unfolding joined
full_sources k [] = refl
full_sources k (s ∷ ss) = rw (full_from k s, full_sources k ss) (omega arith)

pub extended_taints : (k : List ℕ) (at n extent : ℕ) → n ≤ extent → extended_of n extent (joined (map normal (span_of k at n)) * 255) / 255 ≡ loaded_taint at n extent k
unfolding loaded_taint
extended_taints k at n extent h =
    let e : extended_of n extent (joined (map normal (span_of k at n)) * 255) ≡ joined (map (taint_from k) (sources_of at n extent)) * 255 =
    rw (← full_span k at n) (extended_sources (map full k) at n extent h (λ i. rw (full_at k i) (full_small (get_or k i 0))) ∙ full_sources k (sources_of at n extent)) in
    rw e (mul-div_cancel (joined (map (taint_from k) (sources_of at n extent))) (lit< tt))

-- no byte is loaded
pub no_source : (k : List ℕ) (at extent : ℕ) → loaded_taint at 0 extent k ≡ 0
unfolding loaded_taint sources_of bytes_from
no_source k at extent = rw (map_replicate (taint_from k) (extent - 0) cleared) (zeros (extent - 0))

-- nothing is extended
taints_from : (k : List ℕ) (at n : ℕ) → map (taint_from k) (bytes_from at n) ≡ map normal (span_of k at n)
unfolding bytes_from span_of
taints_from k at zero = refl
taints_from k at (suc n) = ap (λ (l : List ℕ). normal (get_or k at 0) ∷ l) (taints_from k (suc at) n)

pub whole_taints : (k : List ℕ) (at n : ℕ) → loaded_taint at n n k ≡ joined (map normal (span_of k at n))
unfolding loaded_taint sources_of
whole_taints k at n =
    let z : n - n ≡ 0 = omega arith in
    rw (z, append-nil, taints_from k at n)
