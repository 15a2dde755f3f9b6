-- What each return of the builder shows, over plain values. Assumes nothing.
use Prim.Native.Nat.{ℕ}
use mathlib.Core.Path.{◌≡◌}
use lib.IntN.{ℤ}
use borrow.Author.Tests.{ne_eqb}
use Rattle.reader.specs.declared.scan
use Rattle.reader.specs.Types.{Name, Tail, SizedOp, LiteralOp, PairMode, Family, Literal, AccessSize, LiteralOperands}
use Rattle.reader.specs.route.Names.{letter_for, name_for}
use Rattle.reader.specs.route.Targets.{target_at}
use Rattle.reader.specs.route.Tails.{tail_at, offset_at, option_at, scaled_at}
use Rattle.reader.specs.route.Build.{register_of, literal_for, literal_from, offset_from, index_from, pair_from, bracketed_for, plain_for, exclusive_from, size_for, store_exclusive_from, family_for, build_of}
use Rattle.reader.specs.route.Scanned.{scan_of}
use Rattle.reader.proofs.Words.{held, key_held, num_held}

module _ (s : scan.Scan.Scan) where
  pub literal_is : {t : ℕ} {z : ℤ} → t ≡ target_at (held s 1).key (held s 1).number → z ≡ offset_at (held s 2).key (held s 2).number → record { target = t; offset = z } ≡ literal_from (scan_of s)
  unfolding literal_from
  literal_is a b = simp (key_held s, num_held s) cc

  pub offset_is : {t n : ℕ} {z : ℤ} → t ≡ target_at (held s 1).key (held s 1).number → n ≡ register_of (held s 4).number → z ≡ offset_at (held s 5).key (held s 5).number
      → record { target = t; base = n; offset = z } ≡ offset_from (scan_of s)
  unfolding offset_from
  offset_is a b d = simp (key_held s, num_held s) cc

  pub index_is : {t n m o x : ℕ} → t ≡ target_at (held s 1).key (held s 1).number → n ≡ register_of (held s 4).number → m ≡ register_of (held s 5).number → o ≡ option_at (held s 6).key
      → x ≡ scaled_at (held s 6).key → record { target = t; base = n; index = m; option = o; scaled = x } ≡ index_from (scan_of s)
  unfolding index_from
  index_is a b d e f = simp (key_held s, num_held s) cc

  pub pair_is : (mode : PairMode) {t u n : ℕ} {z : ℤ} → t ≡ register_of (held s 1).number → u ≡ register_of (held s 2).number → n ≡ register_of (held s 4).number
      → z ≡ offset_at (held s 5).key (held s 5).number → record { first = t; second = u; base = n; mode = mode; offset = z } ≡ pair_from mode (scan_of s)
  unfolding pair_from
  pair_is mode a b d e = simp (key_held s, num_held s) cc

  pub exclusive_is : (size : AccessSize) {t n : ℕ} → t ≡ register_of (held s 1).number → n ≡ register_of (held s 4).number
      → record { size = size; target = t; base = n } ≡ exclusive_from size (scan_of s)
  unfolding exclusive_from
  exclusive_is size a b = simp (num_held s) cc

  pub store_exclusive_is : (size : AccessSize) {z : AccessSize} {l a t n : ℕ} → l ≡ letter_for (held s 2).key → z ≡ size_for size l → a ≡ register_of (held s 1).number
      → t ≡ register_of (held s 2).number → n ≡ register_of (held s 4).number → record { size = z; status = a; target = t; base = n } ≡ store_exclusive_from size (scan_of s)
  unfolding store_exclusive_from
  store_exclusive_is size p q a b d = simp (key_held s, num_held s) cc

  pub bracket_is : (op : SizedOp) {x : Tail} {r : Family} → (held s 2).key ≡ 0 → x ≡ tail_at (held s 5).key → r ≡ bracketed_for x op (scan_of s) → r ≡ plain_for op (scan_of s)
  unfolding plain_for
  bracket_is op e x p = simp (key_held s) (rw (e, ← x) p)

  pub literal_family : (op : SizedOp) {l : LiteralOp} {o : LiteralOperands} → ¬ ((held s 2).key ≡ 0) → l ≡ literal_for op → o ≡ literal_from (scan_of s) → Literal l o ≡ plain_for op (scan_of s)
  unfolding plain_for
  literal_family op n p q = simp (key_held s) (rw (ne_eqb (held s 2).key 0 n, p, q))

  pub built : {n : Name} {f : Family} → n ≡ name_for (held s 1).key (held s 0).key → f ≡ family_for n (scan_of s) → record { family = f } ≡ build_of (scan_of s)
  unfolding build_of
  built e p = simp (key_held s) (rw (← e, p))
