-- The rows of the table: a word matches at most one, and its columns say what the word is. Assumes nothing.
use Prim.Native.Nat.{ℕ}
use mathlib.Core.Path.{◌≡◌, refl, sym, ap, ◌∙◌}
use mathlib.Core.Bool.{Bool, true, false, ◌||◌, not}
use mathlib.Core.List.{List, [], ◌∷◌}
use native.Mathlib.Omega.{arith}
use lib.Dec.{eqb}
use borrow.Author.Tests.{eqb-true, not-false}
use Rattle.bits.specs.Choice.{any}
use Rattle.bits.specs.Fields.{field}
use Rattle.bits.proofs.Choices.{pick_by, neither}
use Rattle.bits.proofs.Parts.{Has, has_true}
use Rattle.instruction.specs.Types.{Row}
use Rattle.instruction.specs.Undefined.{size_opc, undefined_size, undefined_prefetch, undefined_option, undefined_second, undefined_unused}
use Rattle.instruction.specs.Table.{columns_of, rows, matches, in_set, first_row, row_of, undefined, unpredictable, instruction_of}

-- ---- the row of a word

pub no_row : (w : ℕ) → matches w Row.NoRow ≡ false
no_row w = go (matches w Row.NoRow) refl
  where
    go : (b : Bool) → matches w Row.NoRow ≡ b → matches w Row.NoRow ≡ false
    go true e = let h = has_true w (columns_of Row.NoRow).fixed e in absurd (omega arith)
    go false e = e

-- the one row that a word has the bits of
pub row_is : (w : ℕ) (r : Row) → Has w (columns_of r).fixed → row_of w ≡ r
unfolding row_of
row_is w Row.NoRow h = absurd (omega arith)
row_is w Row.LiteralRow h = simp (h.0, h.1.0)
row_is w Row.PairRow h = simp (h.0, h.1.0)
row_is w Row.OrderedRow h = simp (h.0, h.1.0, h.1.1.0, h.1.1.1.0, h.1.1.1.1.0)
row_is w Row.UnscaledRow h = simp (h.0, h.1.0, h.1.1.0, h.1.1.1.0)
row_is w Row.PostRow h = simp (h.0, h.1.0, h.1.1.0, h.1.1.1.0)
row_is w Row.PreRow h = simp (h.0, h.1.0, h.1.1.0, h.1.1.1.0)
row_is w Row.RegisterRow h = simp (h.0, h.1.0, h.1.1.0, h.1.1.1.0)
row_is w Row.UnsignedRow h = simp (h.0, h.1.0)
row_is w Row.LoadExclusiveRow h = simp (h.0, h.1.0, h.1.1.0, h.1.1.1.0, h.1.1.1.1.0, h.1.1.1.1.1.0)
row_is w Row.StoreExclusiveRow h = simp (h.0, h.1.0, h.1.1.0, h.1.1.1.0, h.1.1.1.1.0, h.1.1.1.1.1.0)
row_is w Row.AcquireReleaseRow h = simp (h.0, h.1.0, h.1.1.0, h.1.1.1.0, h.1.1.1.1.0, h.1.1.1.1.1.0)

-- the rows never overlap
pub never_overlap : (w : ℕ) (a b : Row) → matches w a ≡ true → matches w b ≡ true → a ≡ b
never_overlap w a b p q = sym (row_is w a (has_true w (columns_of a).fixed p)) ∙ row_is w b (has_true w (columns_of b).fixed q)

-- ---- words of the set

some_of : (rs : List Row) (w : ℕ) → any (matches w) rs ≡ matches w (first_row (matches w) rs)
some_of [] w = sym (no_row w)
some_of (r ∷ rs) w =
    pick_by (λ (x : Row). (matches w r || any (matches w) rs) ≡ matches w x) (matches w r) (λ e. rw e) (λ e. rw e (some_of rs w))

-- a word of the set matches the row that it has
pub set_matches : (w : ℕ) → in_set w ≡ matches w (row_of w)
unfolding in_set row_of
set_matches w = some_of rows w

-- the bits of a word of the set
pub row_has : (w : ℕ) → in_set w ≡ true → Has w (columns_of (row_of w)).fixed
row_has w t = has_true w (columns_of (row_of w)).fixed (sym (set_matches w) ∙ t)

-- other words have no row
none_of : (rs : List Row) (w : ℕ) → any (matches w) rs ≡ false → first_row (matches w) rs ≡ Row.NoRow
none_of [] w e = refl
none_of (r ∷ rs) w e =
    let n = neither (matches w r) (any (matches w) rs) e in
    rw n.0 (none_of rs w n.1)

pub set_none : (w : ℕ) → in_set w ≡ false → row_of w ≡ Row.NoRow
unfolding in_set row_of
set_none w e = none_of rows w e

pub of_set : (w : ℕ) {r : Row} → row_of w ≡ r → (r ≡ Row.NoRow → ◌≡◌ {A = Bool} false true) → in_set w ≡ true
of_set w e n = go (in_set w) refl
  where
    go : (b : Bool) → in_set w ≡ b → in_set w ≡ true
    go true t = t
    go false t = t ∙ n (sym e ∙ set_none w t)

-- whether it is a row
abbrev pub is_row : Row → Bool
is_row Row.NoRow = false
is_row r = true

pub set_is : (w : ℕ) → in_set w ≡ is_row (row_of w)
set_is w = go (row_of w) refl
  where
    go : (r : Row) → row_of w ≡ r → in_set w ≡ is_row r
    go Row.NoRow e = set_matches w ∙ ap (matches w) e ∙ no_row w
    go r e = of_set w e (λ n. cc)

-- what a word is, by the columns of its row
pub record Rowed (w : ℕ) (r : Row) : Type 0 where
  pub undefined_is : undefined w ≡ (columns_of r).undefined w
  pub unpredictable_is : unpredictable w ≡ (columns_of r).unpredictable w
  pub instruction_is : instruction_of w ≡ record { family = (columns_of r).family w }

pub rowed : (w : ℕ) {r : Row} → row_of w ≡ r → Rowed w r
unfolding undefined unpredictable instruction_of
rowed w e =
    record {
      undefined_is = ap (λ (x : Row). (columns_of x).undefined w) e;
      unpredictable_is = ap (λ (x : Row). (columns_of x).unpredictable w) e;
      instruction_is = ap (λ (x : Row). record { family = (columns_of x).family w }) e;
    }

-- what isn't undefined where more is than its size
pub prefetch_no : (w : ℕ) → undefined_prefetch w ≡ false → (undefined_size w ≡ false) × (eqb (size_opc w) 0b0_11_10 ≡ false)
unfolding undefined_prefetch
prefetch_no w u = neither (undefined_size w) (eqb (size_opc w) 0b0_11_10) u

pub option_no : (w : ℕ) → undefined_option w ≡ false → (undefined_size w ≡ false) × (eqb (field 14 14 w) 0 ≡ false)
unfolding undefined_option
option_no w u = neither (undefined_size w) (eqb (field 14 14 w) 0) u

-- the unused register fields of the ninth family are all ones
pub second_no : (w : ℕ) → undefined_second w ≡ false → field 14 10 w ≡ 31
unfolding undefined_second
second_no w u = eqb-true _ _ (not-false _ u)

pub unused_no : (w : ℕ) → undefined_unused w ≡ false → (field 14 10 w ≡ 31) × (field 20 16 w ≡ 31)
unfolding undefined_unused
unused_no w u =
    let n = neither (undefined_second w) (not (eqb (field 20 16 w) 31)) u in
    (second_no w n.0, eqb-true _ _ (not-false _ n.1))
