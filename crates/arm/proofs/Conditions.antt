-- What a page calls UNDEFINED and UNPREDICTABLE is what the table of words says, row by row. Fields of few values are tried out, all
-- of them (`agree`), and registers by whether they are the same. Assumes nothing.
use Prim.Native.Nat.{ℕ, ◌+◌, ◌*◌, ◌<◌}
use mathlib.Core.Path.{◌≡◌, refl, sym, ap, ◌∙◌}
use mathlib.Core.Bool.{Bool, true, false, not, ◌&&◌, ◌||◌}
use native.Mathlib.Omega.{arith}
use lib.Dec.{eqb}
use borrow.Author.Tests.{eqb-true, eqb-false, eq-eqb, ne_eqb}
use Rattle.bits.specs.Choice.{any}
use Rattle.bits.specs.Fields.{part, field}
use Rattle.bits.proofs.Choices.{up_to, tested}
use Rattle.bits.proofs.Parts.{Has, part_lt}
use Rattle.instruction.specs.declared.row.Row.{Row}
use Rattle.instruction.specs.declared.row.Row.TheVariants.{NoRow, LiteralRow, PairRow, OrderedRow, UnscaledRow, PostRow, PreRow, RegisterRow, UnsignedRow, LoadExclusiveRow, StoreExclusiveRow, AcquireReleaseRow}
use Rattle.instruction.specs.Undefined.{undefined_codes, undefined_size, undefined_prefetch, undefined_option, undefined_literal, undefined_pair, undefined_second, undefined_unused}
use Rattle.instruction.specs.Unpredictable.{base_is, over_base, unpredictable_pair, unpredictable_status}
use Rattle.instruction.specs.Table.{columns_of, in_set, row_of, undefined, unpredictable}
use Rattle.instruction.proofs.Rows.{row_has}
use Rattle.arm.specs.Unscaled.{unscaled_undefined}
use Rattle.arm.specs.Ordered.{ordered_undefined}
use Rattle.arm.specs.Immediate.{index_undefined, unsigned_undefined, overlaps}
use Rattle.arm.specs.Indexed.{indexed_undefined}
use Rattle.arm.specs.Pair.{pair_undefined, pair_overlaps}
use Rattle.arm.specs.VectorImmediate.{scale_undefined}
use Rattle.arm.specs.VectorIndexed.{vector_indexed_undefined}
use Rattle.arm.specs.VectorLiteral.{vector_literal_undefined}
use Rattle.arm.specs.VectorPair.{vector_pair_undefined}
use Rattle.arm.specs.Exclusive.{unused_undefined, status_overlaps}
use Rattle.arm.specs.Pages.{page_of}

-- ---- conditions of fields that have few values

abbrev same : Bool → Bool → Bool
same true b = b
same false b = not b

same_is : (a b : Bool) → same a b ≡ true → a ≡ b
same_is true b h = sym h
same_is false true h = h
same_is false false h = refl

agree : (a b : ℕ) (f g : ℕ → ℕ → Bool) → up_to a (λ x. up_to b (λ y. same (f x y) (g x y))) ≡ true → (x y : ℕ) → x < a → y < b → f x y ≡ g x y
agree a b f g h x y p q =
    same_is (f x y) (g x y) (tested b (λ y. same (f x y) (g x y)) (tested a (λ x. up_to b (λ y. same (f x y) (g x y))) h x p) y q)

agree_all : (a b c : ℕ) (f g : ℕ → ℕ → ℕ → Bool) → up_to a (λ x. up_to b (λ y. up_to c (λ z. same (f x y z) (g x y z)))) ≡ true
    → (x y z : ℕ) → x < a → y < b → z < c → f x y z ≡ g x y z
agree_all a b c f g h x y z p q r = agree b c (f x) (g x) (tested a (λ x. up_to b (λ y. up_to c (λ z. same (f x y z) (g x y z)))) h x p) y z q r

-- ---- what the table says, by size and opc

abbrev pub coded : ℕ → ℕ → ℕ → Bool
coded v size opc = any (eqb (v * 16 + size * 4 + opc)) undefined_codes

abbrev pub coded_prefetch : ℕ → ℕ → ℕ → Bool
coded_prefetch v size opc = coded v size opc || eqb (v * 16 + size * 4 + opc) 0b0_11_10

abbrev coded_pair : ℕ → ℕ → ℕ → ℕ → Bool
coded_pair v mode opc L = eqb opc 0b11 || ((eqb v 0 && eqb opc 0b01) && not (eqb L 1 && not (eqb mode 0b00)))

unscaled_is : (size opc : ℕ) → size < 4 → opc < 4 → coded 0 size opc ≡ unscaled_undefined size opc
unfolding part
unscaled_is = agree 4 4 (coded 0) unscaled_undefined refl

ordered_is : (size opc : ℕ) → size < 4 → opc < 4 → coded_prefetch 0 size opc ≡ ordered_undefined size opc
unfolding part
ordered_is = agree 4 4 (coded_prefetch 0) ordered_undefined refl

index_is : (size opc : ℕ) → size < 4 → opc < 4 → coded_prefetch 0 size opc ≡ index_undefined size opc
unfolding part
index_is = agree 4 4 (coded_prefetch 0) index_undefined refl

unsigned_is : (size opc : ℕ) → size < 4 → opc < 4 → coded 0 size opc ≡ unsigned_undefined size opc
unfolding part
unsigned_is = agree 4 4 (coded 0) unsigned_undefined refl

scale_is : (size opc : ℕ) → size < 4 → opc < 4 → coded 1 size opc ≡ scale_undefined size opc
unfolding part
scale_is = agree 4 4 (coded 1) scale_undefined refl

scale_alone : (size opc : ℕ) → size < 4 → opc < 4 → coded_prefetch 1 size opc ≡ scale_undefined size opc
unfolding part
scale_alone = agree 4 4 (coded_prefetch 1) scale_undefined refl

indexed_is : (option size opc : ℕ) → option < 8 → size < 4 → opc < 4 → (coded 0 size opc || eqb (field 1 1 option) 0) ≡ indexed_undefined option size opc
unfolding part
indexed_is = agree_all 8 4 4 (λ option size opc. coded 0 size opc || eqb (field 1 1 option) 0) indexed_undefined refl

vector_indexed_is : (option size opc : ℕ) → option < 8 → size < 4 → opc < 4 → (coded 1 size opc || eqb (field 1 1 option) 0) ≡ vector_indexed_undefined option size opc
unfolding part
vector_indexed_is = agree_all 8 4 4 (λ option size opc. coded 1 size opc || eqb (field 1 1 option) 0) vector_indexed_undefined refl

pair_is : (mode opc L : ℕ) → mode < 4 → opc < 4 → L < 2 → coded_pair 0 mode opc L ≡ pair_undefined mode opc L
unfolding part
pair_is = agree_all 4 4 2 (coded_pair 0) pair_undefined refl

vector_pair_is : (mode opc L : ℕ) → mode < 4 → opc < 4 → L < 2 → coded_pair 1 mode opc L ≡ vector_pair_undefined opc
vector_pair_is = agree_all 4 4 2 (coded_pair 1) (λ mode opc L. vector_pair_undefined opc) refl

-- of the words that are ordered, a doubleword is never signed
pub signed_double : (size opc : ℕ) → size < 4 → opc < 4 → coded_prefetch 0 size opc ≡ false → (eqb (field 1 1 opc) 1 && eqb size 0b11) ≡ false
unfolding part
signed_double size opc p q u =
    rw u at (agree 4 4 (λ size opc. not (coded_prefetch 0 size opc) && (eqb (field 1 1 opc) 1 && eqb size 0b11)) (λ size opc. false) refl size opc p q)

-- ---- conditions of registers

eqb_comm : (x y : ℕ) → eqb x y ≡ eqb y x
eqb_comm x y = go (eqb x y) refl
  where
    go : (b : Bool) → eqb x y ≡ b → b ≡ eqb y x
    go true e = sym (eq-eqb y x (sym (eqb-true x y e)))
    go false e = sym (ne_eqb y x (λ h. eqb-false x y e (sym h)))

overlaps_is : (n t : ℕ) → (not (eqb n 31) && eqb n t) ≡ overlaps true n t
overlaps_is n t = go (eqb n 31) (eqb n t) refl refl
  where
    go : (a b : Bool) → eqb n 31 ≡ a → eqb n t ≡ b → (not (eqb n 31) && eqb n t) ≡ overlaps true n t
    go true true e f = rw (e, f)
    go true false e f = rw (e, f)
    go false true e f = rw (e, f)
    go false false e f = rw (e, f)

-- writeback over either of two registers, and a load to one twice
abbrev over_pair : Bool → ℕ → ℕ → ℕ → ℕ → Bool
over_pair wback L n t t2 = (wback && ((not (eqb n 31) && eqb n t) || (not (eqb n 31) && eqb n t2))) || (eqb L 1 && eqb t t2)

pair_overlaps_is : (wback : Bool) (L n t t2 : ℕ) → over_pair wback L n t t2 ≡ pair_overlaps wback L n t t2
pair_overlaps_is wback L n t t2 = go wback (eqb n 31) (eqb n t) (eqb n t2) refl refl (eqb_comm t n) refl (eqb_comm t2 n)
  where
    go : (wback a b c : Bool) → eqb n 31 ≡ a → eqb n t ≡ b → eqb t n ≡ eqb n t → eqb n t2 ≡ c → eqb t2 n ≡ eqb n t2
        → over_pair wback L n t t2 ≡ pair_overlaps wback L n t t2
    go false a b c e f x g y = refl
    go true true true true e f x g y = simp (x, y, e, f, g)
    go true true true false e f x g y = simp (x, y, e, f, g)
    go true true false true e f x g y = simp (x, y, e, f, g)
    go true true false false e f x g y = simp (x, y, e, f, g)
    go true false true true e f x g y = simp (x, y, e, f, g)
    go true false true false e f x g y = simp (x, y, e, f, g)
    go true false false true e f x g y = simp (x, y, e, f, g)
    go true false false false e f x g y = simp (x, y, e, f, g)

status_overlaps_is : (rs n t : ℕ) → (eqb rs t || (not (eqb n 31) && eqb n rs)) ≡ status_overlaps rs n t
status_overlaps_is rs n t = go (eqb rs t) (eqb n 31) (eqb n rs) refl refl refl (eqb_comm rs n)
  where
    go : (a b c : Bool) → eqb rs t ≡ a → eqb n 31 ≡ b → eqb n rs ≡ c → eqb rs n ≡ eqb n rs → (eqb rs t || (not (eqb n 31) && eqb n rs)) ≡ status_overlaps rs n t
    go true b c e f g x = rw e
    go false true true e f g x = rw (x, e, f, g)
    go false true false e f g x = rw (x, e, f, g)
    go false false true e f g x = rw (x, e, f, g)
    go false false false e f g x = rw (x, e, f, g)

unused_is : (rs t2 : ℕ) → (not (eqb t2 31) || not (eqb rs 31)) ≡ unused_undefined rs t2
unused_is rs t2 = go (eqb t2 31) (eqb rs 31) refl refl
  where
    go : (a b : Bool) → eqb t2 31 ≡ a → eqb rs 31 ≡ b → (not (eqb t2 31) || not (eqb rs 31)) ≡ unused_undefined rs t2
    go true true e f = rw (e, f)
    go true false e f = rw (e, f)
    go false true e f = rw (e, f)
    go false false e f = rw (e, f)

-- ---- row by row

module _ (word : ℕ) where
  abbrev size : ℕ
  size = field 31 30 word

  abbrev opc : ℕ
  opc = field 23 22 word

  abbrev option : ℕ
  option = field 15 13 word

  size_lt : size < 4
  size_lt = part_lt 30 2 word

  opc_lt : opc < 4
  opc_lt = part_lt 22 2 word

  option_lt : option < 8
  option_lt = part_lt 13 3 word

  -- by bit 26
  module _ (v : ℕ) (kind : field 26 26 word ≡ v) where
    pub by_codes : undefined_size word ≡ coded v size opc
    unfolding undefined_size
    by_codes = ap (λ (b : ℕ). coded b size opc) kind

    pub by_codes_prefetch : undefined_prefetch word ≡ coded_prefetch v size opc
    unfolding undefined_prefetch undefined_size
    by_codes_prefetch = ap (λ (b : ℕ). coded_prefetch b size opc) kind

    -- option<1> is bit 14
    by_option : undefined_option word ≡ (coded v size opc || eqb (field 1 1 option) 0)
    unfolding undefined_option part
    by_option =
        let e : field 14 14 word ≡ field 1 1 option = omega arith in
        rw (by_codes, e)

    by_pair : undefined_pair word ≡ coded_pair v (field 24 23 word) size (field 22 22 word)
    unfolding undefined_pair
    by_pair = ap (λ (b : ℕ). coded_pair b (field 24 23 word) size (field 22 22 word)) kind

    pub by_literal : undefined_literal word ≡ eqb (v * 4 + size) 0b1_11
    unfolding undefined_literal
    by_literal = ap (λ (b : ℕ). eqb (b * 4 + size) 0b1_11) kind

    by_base : (r : ℕ) → over_base r word ≡ (eqb v 0 && base_is r word)
    unfolding over_base
    by_base r = ap (λ (b : ℕ). eqb b 0 && base_is r word) kind

  general_undefined : field 26 26 word ≡ 0 → (l : Row) → (columns_of l).undefined word ≡ (page_of false l word).undefined
  unfolding undefined_second undefined_unused
  general_undefined b NoRow = refl
  general_undefined b LiteralRow = by_literal 0 b ∙ agree 4 1 (λ opc z. eqb (0 * 4 + opc) 0b1_11) (λ opc z. false) refl size 0 size_lt (omega arith)
  general_undefined b PairRow = by_pair 0 b ∙ pair_is (field 24 23 word) size (field 22 22 word) (part_lt 23 2 word) size_lt (part_lt 22 1 word)
  general_undefined b OrderedRow = by_codes_prefetch 0 b ∙ ordered_is size opc size_lt opc_lt
  general_undefined b UnscaledRow = by_codes 0 b ∙ unscaled_is size opc size_lt opc_lt
  general_undefined b PostRow = by_codes_prefetch 0 b ∙ index_is size opc size_lt opc_lt
  general_undefined b PreRow = by_codes_prefetch 0 b ∙ index_is size opc size_lt opc_lt
  general_undefined b RegisterRow = by_option 0 b ∙ indexed_is option size opc option_lt size_lt opc_lt
  general_undefined b UnsignedRow = by_codes 0 b ∙ unsigned_is size opc size_lt opc_lt
  general_undefined b LoadExclusiveRow = unused_is (field 20 16 word) (field 14 10 word)
  general_undefined b StoreExclusiveRow = refl
  general_undefined b AcquireReleaseRow = unused_is (field 20 16 word) (field 14 10 word)

  vector_undefined : field 26 26 word ≡ 1 → (l : Row) → Has word (columns_of l).fixed → (columns_of l).undefined word ≡ (page_of true l word).undefined
  vector_undefined b NoRow h = refl
  vector_undefined b LiteralRow h = by_literal 1 b ∙ agree 4 1 (λ opc z. eqb (1 * 4 + opc) 0b1_11) (λ opc z. vector_literal_undefined opc) refl size 0 size_lt (omega arith)
  vector_undefined b PairRow h = by_pair 1 b ∙ vector_pair_is (field 24 23 word) size (field 22 22 word) (part_lt 23 2 word) size_lt (part_lt 22 1 word)
  vector_undefined b OrderedRow h = absurd (omega arith)
  vector_undefined b UnscaledRow h = by_codes 1 b ∙ scale_is size opc size_lt opc_lt
  vector_undefined b PostRow h = by_codes_prefetch 1 b ∙ scale_alone size opc size_lt opc_lt
  vector_undefined b PreRow h = by_codes_prefetch 1 b ∙ scale_alone size opc size_lt opc_lt
  vector_undefined b RegisterRow h = by_option 1 b ∙ vector_indexed_is option size opc option_lt size_lt opc_lt
  vector_undefined b UnsignedRow h = by_codes 1 b ∙ scale_is size opc size_lt opc_lt
  vector_undefined b LoadExclusiveRow h = absurd (omega arith)
  vector_undefined b StoreExclusiveRow h = absurd (omega arith)
  vector_undefined b AcquireReleaseRow h = absurd (omega arith)

  general_unpredictable : field 26 26 word ≡ 0 → (l : Row) → (columns_of l).unpredictable word ≡ (page_of false l word).unpredictable
  unfolding unpredictable_pair unpredictable_status base_is
  general_unpredictable b NoRow = refl
  general_unpredictable b LiteralRow = refl
  general_unpredictable b PairRow =
      rw (by_base 0 b (field 4 0 word), by_base 0 b (field 14 10 word))
      (pair_overlaps_is (eqb (field 23 23 word) 1) (field 22 22 word) (field 9 5 word) (field 4 0 word) (field 14 10 word))
  general_unpredictable b OrderedRow = refl
  general_unpredictable b UnscaledRow = refl
  general_unpredictable b PostRow = by_base 0 b (field 4 0 word) ∙ overlaps_is (field 9 5 word) (field 4 0 word)
  general_unpredictable b PreRow = by_base 0 b (field 4 0 word) ∙ overlaps_is (field 9 5 word) (field 4 0 word)
  general_unpredictable b RegisterRow = refl
  general_unpredictable b UnsignedRow = refl
  general_unpredictable b LoadExclusiveRow = refl
  general_unpredictable b StoreExclusiveRow = status_overlaps_is (field 20 16 word) (field 9 5 word) (field 4 0 word)
  general_unpredictable b AcquireReleaseRow = refl

  -- no base is a vector register
  vector_unpredictable : field 26 26 word ≡ 1 → (l : Row) → Has word (columns_of l).fixed → (columns_of l).unpredictable word ≡ (page_of true l word).unpredictable
  unfolding unpredictable_pair
  vector_unpredictable b NoRow h = refl
  vector_unpredictable b LiteralRow h = refl
  vector_unpredictable b PairRow h = rw (by_base 1 b (field 4 0 word), by_base 1 b (field 14 10 word)) (alone (eqb (field 23 23 word) 1) _)
    where
      alone : (wback twice : Bool) → ((wback && (false || false)) || twice) ≡ twice
      alone true twice = refl
      alone false twice = refl
  vector_unpredictable b OrderedRow h = absurd (omega arith)
  vector_unpredictable b UnscaledRow h = refl
  vector_unpredictable b PostRow h = by_base 1 b (field 4 0 word)
  vector_unpredictable b PreRow h = by_base 1 b (field 4 0 word)
  vector_unpredictable b RegisterRow h = refl
  vector_unpredictable b UnsignedRow h = refl
  vector_unpredictable b LoadExclusiveRow h = absurd (omega arith)
  vector_unpredictable b StoreExclusiveRow h = absurd (omega arith)
  vector_unpredictable b AcquireReleaseRow h = absurd (omega arith)

  -- by bit 26
  pub general : eqb (field 26 26 word) 1 ≡ false → field 26 26 word ≡ 0
  general e = omega (arith, part_lt 26 1 word, eqb-false (field 26 26 word) 1 e)

  conditions : (vector : Bool) → eqb (field 26 26 word) 1 ≡ vector → (l : Row) → Has word (columns_of l).fixed
      → ((columns_of l).undefined word ≡ (page_of vector l word).undefined) × ((columns_of l).unpredictable word ≡ (page_of vector l word).unpredictable)
  conditions true e l h =
      let b = eqb-true (field 26 26 word) 1 e in
      (vector_undefined b l h, vector_unpredictable b l h)
  conditions false e l h = (general_undefined (general e) l, general_unpredictable (general e) l)

  pub page_conditions : in_set word ≡ true
      → let page = page_of (eqb (field 26 26 word) 1) (row_of word) word in
      (undefined word ≡ page.undefined) × (unpredictable word ≡ page.unpredictable)
  unfolding undefined unpredictable
  page_conditions t = conditions (eqb (field 26 26 word) 1) refl (row_of word) (row_has word t)
