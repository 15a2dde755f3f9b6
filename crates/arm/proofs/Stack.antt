-- An access by SP, where SP is no multiple of 16, is a fault on every page that has a base (02, CR 1): each page asks
-- `CheckSPAlignment` before it does anything but a hint. Assumes nothing.
use Prim.Native.Nat.{ℕ, ◌%◌}
use mathlib.Core.Path.{◌≡◌, refl}
use mathlib.Core.Bool.{Bool, true, false}
use native.Mathlib.Omega.{arith}
use borrow.Author.Tests.{ne_eqb}
use lib.Dec.{eqb}
use Rattle.bits.specs.Choice.{pick}
use Rattle.bits.specs.Fields.{field}
use Rattle.bits.proofs.Choices.{pick_by}
use Rattle.instruction.specs.declared.row.Row.{Row}
use Rattle.instruction.specs.declared.row.Row.TheVariants.{NoRow, LiteralRow, PairRow, OrderedRow, UnscaledRow, PostRow, PreRow, RegisterRow, UnsignedRow, LoadExclusiveRow, StoreExclusiveRow, AcquireReleaseRow}
use Rattle.arm.specs.Pseudocode.{Arm, SP, Align, MemOp, LOAD, STORE, PREFETCH, Operation, hint, sp_fault, access, case}
use Rattle.arm.specs.Pages.{page_of}
use Rattle.arm.specs.Unscaled.{unscaled}
use Rattle.arm.specs.Ordered.{ordered}
use Rattle.arm.specs.Immediate.{immediate}
use Rattle.arm.specs.Indexed.{indexed}
use Rattle.arm.specs.Pair.{paired, pair}
use Rattle.arm.specs.VectorImmediate.{vector_immediate}
use Rattle.arm.specs.VectorUnscaled.{vector_unscaled}
use Rattle.arm.specs.VectorIndexed.{vector_indexed}
use Rattle.arm.specs.VectorPair.{vector_paired, vector_pair}
use Rattle.arm.specs.Exclusive.{load_exclusive, store_exclusive}
use Rattle.arm.specs.AcquireRelease.{acquire_release}

-- no access is made
abbrev pub Faults : Arm → Operation → Type 0
Faults s hint = Unit {0}
Faults s (sp_fault sp) = sp ≡ SP s
Faults s (access store address size status after) = ⊥

-- what a page comes to, whether it stores, loads or hints
settled : (s : Arm) (op : MemOp) → Faults s (case op (sp_fault (SP s)) (sp_fault (SP s)) hint)
settled s STORE = refl
settled s LOAD = refl
settled s PREFETCH = tt

abbrev plain : ℕ → MemOp
plain bit = pick (eqb bit 1) LOAD STORE

abbrev sized : ℕ → MemOp
sized word = pick (eqb (field 1 1 (field 23 22 word)) 1) (pick (eqb (field 31 30 word) 0b11) PREFETCH LOAD) (plain (field 0 0 (field 23 22 word)))

module _ (s : Arm) (word : ℕ) (b : field 9 5 word ≡ 31) (h : ¬ (SP s % 16 ≡ 0)) where
  skew : eqb (SP s) (Align (SP s) 16) ≡ false
  skew = ne_eqb (SP s) (Align (SP s) 16) (λ e. h (omega (arith, e)))

  unscaled_faults : Faults s (unscaled word s)
  unfolding unscaled
  unscaled_faults = rw (b, skew) (settled s (sized word))

  vector_unscaled_faults : Faults s (vector_unscaled word s)
  unfolding vector_unscaled
  vector_unscaled_faults = rw (b, skew) (settled s (plain (field 0 0 (field 23 22 word))))

  ordered_faults : Faults s (ordered word s)
  unfolding ordered
  ordered_faults = rw (b, skew) (settled s (pick (eqb (field 1 1 (field 23 22 word)) 1) LOAD (plain (field 0 0 (field 23 22 word)))))

  immediate_faults : (wback postindex : Bool) (scale offset : ℕ) → Faults s (immediate wback postindex scale offset word s)
  unfolding immediate
  immediate_faults wback postindex scale offset = rw (b, skew) (settled s (sized word))

  vector_immediate_faults : (wback postindex : Bool) (scale offset : ℕ) → Faults s (vector_immediate wback postindex scale offset word s)
  unfolding vector_immediate
  vector_immediate_faults wback postindex scale offset = rw (b, skew) (settled s (plain (field 0 0 (field 23 22 word))))

  indexed_faults : Faults s (indexed word s)
  unfolding indexed
  indexed_faults = rw (b, skew) (settled s (sized word))

  vector_indexed_faults : Faults s (vector_indexed word s)
  unfolding vector_indexed
  vector_indexed_faults = rw (b, skew) (settled s (plain (field 0 0 (field 23 22 word))))

  paired_faults : (wback postindex : Bool) → Faults s (paired wback postindex word s)
  unfolding paired
  paired_faults wback postindex = rw (b, skew) (settled s (plain (field 22 22 word)))

  vector_paired_faults : (wback postindex : Bool) → Faults s (vector_paired wback postindex word s)
  unfolding vector_paired
  vector_paired_faults wback postindex = rw (b, skew) (settled s (plain (field 22 22 word)))

  pair_faults : (mode : ℕ) → Faults s (pair mode word s)
  unfolding pair
  pair_faults mode = pick_by (Faults s) (eqb mode 0b01) (λ e. paired_faults true true) (λ e. pick_by (Faults s) (eqb mode 0b11) (λ f. paired_faults true false) (λ f. paired_faults false false))

  vector_pair_faults : (mode : ℕ) → Faults s (vector_pair mode word s)
  unfolding vector_pair
  vector_pair_faults mode = pick_by (Faults s) (eqb mode 0b01) (λ e. vector_paired_faults true true) (λ e. pick_by (Faults s) (eqb mode 0b11) (λ f. vector_paired_faults true false) (λ f. vector_paired_faults false false))

  load_exclusive_faults : Faults s (load_exclusive word s)
  unfolding load_exclusive
  load_exclusive_faults = rw (b, skew) refl

  store_exclusive_faults : Faults s (store_exclusive word s)
  unfolding store_exclusive
  store_exclusive_faults = rw (b, skew) refl

  acquire_release_faults : Faults s (acquire_release word s)
  unfolding acquire_release
  acquire_release_faults = rw (b, skew) (settled s (plain (field 22 22 word)))

  no_base : {A : Type 0} → false ≡ true → A
  no_base e = absurd (let z : ◌≡◌ {A = ℕ} 0 1 = cc in omega arith)

  pub page_faults : (vector : Bool) (l : Row) → (page_of vector l word).based ≡ true → Faults s ((page_of vector l word).operation word s)
  page_faults vector NoRow e = tt
  page_faults vector LiteralRow e = no_base e
  page_faults true PairRow e = vector_pair_faults _
  page_faults false PairRow e = pair_faults _
  page_faults vector OrderedRow e = ordered_faults
  page_faults true UnscaledRow e = vector_unscaled_faults
  page_faults false UnscaledRow e = unscaled_faults
  page_faults true PostRow e = vector_immediate_faults true true _ _
  page_faults false PostRow e = immediate_faults true true _ _
  page_faults true PreRow e = vector_immediate_faults true false _ _
  page_faults false PreRow e = immediate_faults true false _ _
  page_faults true RegisterRow e = vector_indexed_faults
  page_faults false RegisterRow e = indexed_faults
  page_faults true UnsignedRow e = vector_immediate_faults false false _ _
  page_faults false UnsignedRow e = immediate_faults false false _ _
  page_faults vector LoadExclusiveRow e = load_exclusive_faults
  page_faults vector StoreExclusiveRow e = store_exclusive_faults
  page_faults vector AcquireReleaseRow e = acquire_release_faults
