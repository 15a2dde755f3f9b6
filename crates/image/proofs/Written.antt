-- A line of a HEX text that is written, with whatever is behind it: what is read of it. Assumes nothing.
use Prim.Native.Nat.{ℕ, zero, suc, ◌+◌, ◌*◌, ◌/◌, ◌%◌, ◌≤◌, ◌<◌}
use mathlib.Core.Path.{◌≡◌, refl, ap, ◌∙◌}
use mathlib.Core.Bool.{true}
use mathlib.Core.List.{List, [], ◌∷◌, ◌++◌, append_assoc}
use native.Mathlib.Nat.{add-zero}
use native.Mathlib.Numerals.{add-one}
use native.Mathlib.Omega.{arith}
use borrow.Author.Tests.{lt-ltb}
use lib.Dec.{ltb}
use lib.ListN.{length, get_or, length-append, get_or-append}
use lib.Seq.{drop-append-add, get_or_at}
use Rattle.image.specs.Lines.{digit_of, digits_in, byte_in, bytes_in, count_in}
use Rattle.image.specs.Records.{total, sum_in}
use Rattle.image.specs.Hex.{pairs_text, body_of, checksum_of, line_text, AllBytes}
use Rattle.image.specs.route.Rest.{begins, behind}

module _ (ds : List ℕ) (reads : (n : ℕ) → n < 16 → digit_of (get_or ds n 0) ≡ n) where
  digit_low : (n : ℕ) → n < 16 → ltb (digit_of (get_or ds n 0)) 16 ≡ true
  digit_low n h = rw (reads n h) (lt-ltb n 16 h)

  pair_digit : (vs q : List ℕ) (i : ℕ) → i < 2 * length vs → ltb (digit_of (get_or (pairs_text ds vs ++ q) i 0)) 16 ≡ true
  pair_digit [] q i h = absurd (omega arith)
  pair_digit (v ∷ vs) q zero h = digit_low (v / 16 % 16) (omega arith)
  pair_digit (v ∷ vs) q (suc zero) h = digit_low (v % 16) (omega arith)
  pair_digit (v ∷ vs) q (suc (suc i)) h = pair_digit vs q i (omega arith)

  pairs_length : (vs : List ℕ) → length (pairs_text ds vs) ≡ 2 * length vs
  pairs_length [] = refl
  pairs_length (v ∷ vs) = omega (arith, pairs_length vs)

  twice : (i : ℕ) → 2 * suc i ≡ suc (suc (2 * i))
  twice i = omega arith

  pair_high : (vs q : List ℕ) (i : ℕ) → i < length vs → get_or (pairs_text ds vs ++ q) (2 * i) 0 ≡ get_or ds (get_or vs i 0 / 16 % 16) 0
  pair_high [] q i h = absurd (omega arith)
  pair_high (v ∷ vs) q zero h = refl
  pair_high (v ∷ vs) q (suc i) h = rw (twice i) (pair_high vs q i (omega arith))

  pair_low : (vs q : List ℕ) (i : ℕ) → i < length vs → get_or (pairs_text ds vs ++ q) (suc (2 * i)) 0 ≡ get_or ds (get_or vs i 0 % 16) 0
  pair_low [] q i h = absurd (omega arith)
  pair_low (v ∷ vs) q zero h = refl
  pair_low (v ∷ vs) q (suc i) h = rw (twice i) (pair_low vs q i (omega arith))

  digits_by : (l : List ℕ) (at n : ℕ) → ((i : ℕ) → at ≤ i → i < at + n → ltb (digit_of (get_or l i 0)) 16 ≡ true) → digits_in l at n ≡ true
  digits_by l at zero f = refl
  digits_by l at (suc n) f = rw (f at (omega arith) (omega arith)) (digits_by l (suc at) n (λ i g h. f i (omega arith) (omega arith)))

  pub bytes_by : (l : List ℕ) (k : ℕ) (bs : List ℕ) → ((j : ℕ) → j < length bs → byte_in l (k + j) ≡ get_or bs j 0) → bytes_in l k (length bs) ≡ bs
  bytes_by l k [] f = refl
  bytes_by l k (b ∷ bs) f =
      let head : byte_in l k ≡ b = rw (add-zero k) at (f 0 (omega arith)) in
      let tail = bytes_by l (suc k) bs (λ j h. ap (byte_in l) (omega arith) ∙ f (suc j) (omega arith)) in
      rw (head, tail)

  pub all_byte : (bs : List ℕ) → AllBytes bs → (i : ℕ) → get_or bs i 0 < 256
  all_byte [] a i = omega arith
  all_byte (b ∷ bs) a zero = a.0
  all_byte (b ∷ bs) a (suc i) = all_byte bs a.1 i

  all_append : (bs cs : List ℕ) → AllBytes bs → AllBytes cs → AllBytes (bs ++ cs)
  all_append [] cs a c = c
  all_append (b ∷ bs) cs a c = (a.0, all_append bs cs a.1 c)

  total_append : (bs cs : List ℕ) → total (bs ++ cs) ≡ total bs + total cs
  total_append [] cs = omega arith
  total_append (b ∷ bs) cs = omega (arith, total_append bs cs)

  -- ---- a colon, some bytes, a newline, and what is behind it

  module _ (vs r : List ℕ) (all : AllBytes vs) where
    abbrev pub written : List ℕ
    written = 58 ∷ (pairs_text ds vs ++ (10 ∷ r))

    pub byte_of : (i : ℕ) → i < length vs → byte_in written i ≡ get_or vs i 0
    unfolding byte_in
    byte_of i h =
        let two : 2 * i + 2 ≡ suc (suc (2 * i)) = omega arith in
        rw (add-one (2 * i), two, pair_high vs (10 ∷ r) i h, pair_low vs (10 ∷ r) i h, reads (get_or vs i 0 / 16 % 16) (omega arith), reads (get_or vs i 0 % 16) (omega arith))
        (omega (arith, all_byte vs all i))

    digit_of_lem : (i : ℕ) → 1 ≤ i → i < 1 + 2 * length vs → ltb (digit_of (get_or written i 0)) 16 ≡ true
    digit_of_lem zero g h = absurd (omega arith)
    digit_of_lem (suc i) g h = pair_digit vs (10 ∷ r) i (omega arith)

    module _ (n : ℕ) (count : get_or vs 0 0 ≡ n) (size : length vs ≡ 5 + n) where
      pub count_of : count_in written ≡ n
      count_of = byte_of 0 (omega arith) ∙ count

      newline_of : get_or written (2 * n + 11) 0 ≡ 10
      newline_of =
          let e : 2 * n + 11 ≡ suc (length (pairs_text ds vs)) = omega (arith, pairs_length vs) in
          rw e (get_or_at (pairs_text ds vs) 10 r 0 (length (pairs_text ds vs)) refl)

      pub begins_of : begins written ≡ true
      unfolding begins
      begins_of =
          let d : digits_in written 1 (2 * (5 + n)) ≡ true = digits_by written 1 (2 * (5 + n)) (λ i g h. digit_of_lem i g (omega arith)) in
          rw (count_of, d, newline_of)

      pub behind_of : behind written ≡ r
      behind_of =
          let e : 2 * n + 12 ≡ suc (length (pairs_text ds vs) + 1) = omega (arith, pairs_length vs) in
          rw (count_of, e) (drop-append-add (pairs_text ds vs) (10 ∷ r) 1)

  -- ---- a line of a type, an offset and some bytes

  module _ (kind offset : ℕ) (bs r : List ℕ) (small : kind < 256) (low : offset < 65536) (few : length bs < 256) (all : AllBytes bs) where
    abbrev pub values_of : List ℕ
    values_of = body_of kind offset bs ++ (checksum_of (body_of kind offset bs) ∷ [])

    abbrev pub line_then : List ℕ
    line_then = 58 ∷ (pairs_text ds values_of ++ (10 ∷ r))

    pub line_then_lem : line_text ds kind offset bs ++ r ≡ line_then
    line_then_lem = ap (λ (l : List ℕ). 58 ∷ l) (append_assoc (pairs_text ds values_of) (10 ∷ []) r)

    checksum_small : checksum_of (body_of kind offset bs) < 256
    unfolding checksum_of
    checksum_small = omega arith

    values_all : AllBytes values_of
    values_all =
        (few, (omega arith, (omega arith, (small, all_append bs (checksum_of (body_of kind offset bs) ∷ []) all (checksum_small, tt)))))

    size : length values_of ≡ 5 + length bs
    size = omega (arith, length-append bs (checksum_of (body_of kind offset bs) ∷ []))

    pub line_count : count_in line_then ≡ length bs
    line_count = count_of values_of r values_all (length bs) refl size

    pub line_begins : begins line_then ≡ true
    line_begins = begins_of values_of r values_all (length bs) refl size

    pub line_behind : behind line_then ≡ r
    line_behind = behind_of values_of r values_all (length bs) refl size

    pub line_high : byte_in line_then 1 ≡ offset / 256
    line_high = byte_of values_of r values_all 1 (omega (arith, size))

    pub line_low : byte_in line_then 2 ≡ offset % 256
    line_low = byte_of values_of r values_all 2 (omega (arith, size))

    pub line_type : byte_in line_then 3 ≡ kind
    line_type = byte_of values_of r values_all 3 (omega (arith, size))

    pub line_data_at : (j : ℕ) → j < length bs → byte_in line_then (4 + j) ≡ get_or bs j 0
    line_data_at j h =
        let e : 4 + j ≡ suc (suc (suc (suc j))) = omega arith in
        byte_of values_of r values_all (4 + j) (omega (arith, size)) ∙ rw e (get_or-append bs (checksum_of (body_of kind offset bs) ∷ []) 0 j h)

    pub line_data : bytes_in line_then 4 (length bs) ≡ bs
    line_data = bytes_by line_then 4 bs line_data_at

    line_values : bytes_in line_then 0 (length values_of) ≡ values_of
    line_values = bytes_by line_then 0 values_of (λ j h. ap (byte_in line_then) (omega arith) ∙ byte_of values_of r values_all j h)

    sum_zero : total values_of % 256 ≡ 0
    unfolding checksum_of
    sum_zero = rw (total_append (body_of kind offset bs) (checksum_of (body_of kind offset bs) ∷ [])) (omega arith)

    pub line_sum : sum_in line_then ≡ 0
    unfolding sum_in
    line_sum =
        let e : 5 + count_in line_then ≡ length values_of = omega (arith, line_count, size) in
        ap (λ (n : ℕ). total (bytes_in line_then 0 n) % 256) e ∙ ap (λ (l : List ℕ). total l % 256) line_values ∙ sum_zero
