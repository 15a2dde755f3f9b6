-- Which words touch memory: every word of the set does. Assumes nothing.
use Prim.Native.Nat.{ℕ, ◌+◌, ◌*◌, ◌/◌, ◌%◌, ◌^◌, ◌<◌}
use mathlib.Core.Path.{◌≡◌, refl}
use mathlib.Core.Bool.{Bool, true, false, ◌&&◌, ◌||◌}
use native.Mathlib.Omega.{arith}
use mathlib.Core.List.{[], ◌∷◌}
use lib.Dec.{eqb}
use Rattle.bits.specs.Fields.{part}
use Rattle.bits.proofs.Parts.{part_lt, cut, Has}
use Rattle.instruction.specs.declared.row.Row.{Row}
use Rattle.instruction.specs.Table.{columns_of, row_of, in_set}
use Rattle.instruction.proofs.Rows.{row_has}
use Rattle.records.specs.Space.{load_or_store, sets_block, touches_memory}

-- ---- tests as the code joins them

two_tests : (a b : Bool) → (a && b) ≡ (a && (b && true))
two_tests true true = refl
two_tests true false = refl
two_tests false b = refl

pub load_or_store_lem : (w : ℕ) → (eqb (w / 2 ^ 27 % 2) 1 && eqb (w / 2 ^ 25 % 2) 0) ≡ load_or_store w
unfolding load_or_store part
load_or_store_lem w = two_tests (eqb (w / 2 ^ 27 % 2) 1) (eqb (w / 2 ^ 25 % 2) 0)

-- ---- words of the set

record Group (w : ℕ) : Type 0 where
  bit_27 : part 27 1 w ≡ 1
  bit_25 : part 25 1 w ≡ 0

module _ (w : ℕ) where
  -- the table's columns cut other bits than these two
  record Cuts : Type 0 where
    upper : part 27 3 w ≡ part 27 1 w + part 28 2 w * 2
    lower : part 24 2 w ≡ part 24 1 w + part 25 1 w * 2
    below_27 : part 27 1 w < 2
    below_24 : part 24 1 w < 2

  cuts : Cuts
  cuts =
      record {
        upper = omega (arith, cut (3 ∷ []) 27 w, cut (1 ∷ 2 ∷ []) 27 w);
        lower = omega (arith, cut (2 ∷ []) 24 w, cut (1 ∷ 1 ∷ []) 24 w);
        below_27 = part_lt 27 1 w;
        below_24 = part_lt 24 1 w;
      }

  row_group : (r : Row) → Has w (columns_of r).fixed → Group w
  row_group Row.NoRow h = absurd (omega arith)
  row_group Row.LiteralRow h = omega (arith, cuts)
  row_group Row.PairRow h = omega (arith, cuts)
  row_group Row.OrderedRow h = omega (arith, cuts)
  row_group Row.UnscaledRow h = omega (arith, cuts)
  row_group Row.PostRow h = omega (arith, cuts)
  row_group Row.PreRow h = omega (arith, cuts)
  row_group Row.RegisterRow h = omega (arith, cuts)
  row_group Row.UnsignedRow h = omega (arith, cuts)
  row_group Row.LoadExclusiveRow h = omega (arith, cuts)
  row_group Row.StoreExclusiveRow h = omega (arith, cuts)
  row_group Row.AcquireReleaseRow h = omega (arith, cuts)

-- a word of the set is among Arm's loads and stores
pub set_touches : (w : ℕ) → in_set w ≡ true → touches_memory w ≡ true
unfolding touches_memory load_or_store
set_touches w t =
    let g = row_group w (row_of w) (row_has w t) in
    rw (g.bit_27, g.bit_25)
