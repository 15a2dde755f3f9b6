-- The tests of one line, as code makes them. Assumes nothing.
use Prim.Native.Nat.{ℕ, ◌+◌, ◌*◌, ◌%◌, ◌<◌}
use mathlib.Core.Path.{◌≡◌, refl, ◌∙◌}
use mathlib.Core.Bool.{Bool, true, false}
use mathlib.Core.List.{List}
use native.Mathlib.Nat.{zero-add}
use native.Mathlib.Omega.{arith}
use borrow.Author.Tests.{ne_eqb}
use lib.Dec.{eqb}
use Rattle.std.specs.Prelude.{Option, Some, None, MatchOption, unwrap_or}
use lib.ListN.{get_or}
use Rattle.bits.specs.Choice.{pick}
use Rattle.image.specs.Lines.{digit_of, digits_in, byte_in, bytes_in}
use Rattle.image.specs.route.Rest.{begins, Sums}
use Rattle.image.specs.Records.{total, sum_in, placed, places_in}
use Rattle.image.proofs.Loops.{summed_is}

half : (v : ℕ) (r : Option ℕ) → MatchOption r (v ≡ 16) (λ d. (d ≡ v) × (d < 16)) → unwrap_or r 0 ≡ v % 16
half v None e = rw e
half v (Some d) e = rw (← e.0) (omega (arith, e.1))

pub byte_is : (l : List ℕ) (i x y h d : ℕ) (r s : Option ℕ) → x ≡ get_or l (2 * i + 1) 0 → MatchOption r (digit_of x ≡ 16) (λ k. (k ≡ digit_of x) × (k < 16)) → h ≡ unwrap_or r 0
    → y ≡ get_or l (2 * i + 2) 0 → MatchOption s (digit_of y ≡ 16) (λ k. (k ≡ digit_of y) × (k < 16)) → d ≡ unwrap_or s 0 → h * 16 + d ≡ byte_in l i
unfolding byte_in
byte_is l i x y h d r s e f g p q t = rw (← e, ← p, g, half (digit_of x) r f, t, half (digit_of y) s q)

-- ---- shape and sum at once

pub begins_not : (l : List ℕ) (b : ℕ) → b ≡ get_or l 0 0 → (b ≡ 58 → ⊥) → 256 ≡ pick (begins l) (sum_in l) 256
unfolding begins
begins_not l b e h = rw (← e, ne_eqb b 58 h)

last_of : (d e : Bool) → pick d e false ≡ pick e d false
last_of true true = refl
last_of true false = refl
last_of false true = refl
last_of false false = refl

module _ (l : List ℕ) (b n e : ℕ) (colon : b ≡ get_or l 0 0) (is : b ≡ 58) (count : n ≡ byte_in l 0) (newline : e ≡ get_or l (2 * n + 11) 0) where
  begins_is : begins l ≡ pick (eqb e 10) (digits_in l 1 (2 * (5 + n))) false
  unfolding begins
  begins_is = rw (newline, count, ← colon, is) (last_of (digits_in l 1 (2 * (5 + byte_in l 0))) (eqb (get_or l (2 * byte_in l 0 + 11) 0) 10))

  pub sum_not : (e ≡ 10 → ⊥) → 256 ≡ pick (begins l) (sum_in l) 256
  sum_not h = rw (begins_is, ne_eqb e 10 h)

  pub sum_is : (k r : ℕ) → Sums l k r → e ≡ 10 → k ≡ 5 + n → r ≡ pick (begins l) (sum_in l) 256
  unfolding sum_in
  sum_is k r h f g = h.is ∙ rw (begins_is, f, g, ← count) (rw (zero-add (total (bytes_in l 0 (5 + n)))) at (summed_is l (5 + n) 0 0))

-- what has no sum is no line
none_at : (b : Bool) (s : ℕ) → s < 256 → 256 ≡ pick b s 256 → b ≡ false
none_at true s l e = absurd (omega arith)
none_at false s l e = refl

pub sum_none : (l : List ℕ) → 256 ≡ pick (begins l) (sum_in l) 256 → begins l ≡ false
unfolding sum_in
sum_none l e = none_at (begins l) (sum_in l) (omega arith) e

module _ (l : List ℕ) (upper k : ℕ) (kind : k ≡ byte_in l 3) where
  pub places_data : (n first : ℕ) → k ≡ 0 → first ≡ upper * 65536 + (byte_in l 1 * 256 + byte_in l 2) → n ≡ byte_in l 0 → placed first (bytes_in l 4 n) ≡ places_in upper l
  unfolding places_in
  places_data n first zero e count = rw (← kind, zero, e, count)
