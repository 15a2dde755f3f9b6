-- The family of a line comes back, if its operands are in range. Assumes nothing.
use Prim.Native.Nat.{ℕ, ◌<◌}
use mathlib.Core.Path.{◌≡◌, refl, sym, ap, ◌∙◌}
use mathlib.Core.Bool.{false≢true}
use mathlib.Core.List.{List, ◌++◌, foldl}
use native.Mathlib.Omega.{arith}
use lib.IntN.{pos, nat_abs}
use Rattle.instruction.specs.route.Bounds.{ExclusiveBounds, StoreExclusiveBounds}
use Rattle.ascii.specs.Ascii.{asc}
use Rattle.mnemonic.specs.Mnemonics.{literal_sized, pair_name}
use Rattle.mnemonic.specs.Operands.{Operand, Narrow, Wide, Hint, VectorB, VectorH, VectorS, VectorD, VectorQ, sized_operand, pair_operand, access_operand}
use Rattle.mnemonic.proofs.Registers.{Registered, pair_registered, access_registered}
use Rattle.text.specs.Texts.{operand_text, base_text, front_text, offset_tail, pre_tail, post_tail, index_tail, literal_text, pair_text, sized_text, exclusive_text, store_exclusive_text, family_text}
use Rattle.reader.specs.Types.{Scan, Tail, SizedOp, Prefetch, LiteralOp, PairOp, PairMode, NoAllocate, Post, Offset, Pre, Family, Empty, Literal, Pair, Ordered, Unscaled, PostIndex, PreIndex, Register, Unsigned, Exclusive, StoreExclusive, ExclusiveOp, StoreExclusiveOp, AccessSize, LiteralOperands, PairOperands, OffsetOperands, IndexOperands, ExclusiveOperands, StoreExclusiveOperands}
use Rattle.reader.specs.route.Scan.{step_of, scan_start}
use Rattle.reader.specs.route.Build.{mode_for, pair_from, size_for, build_of}
use Rattle.reader.proofs.Named.{plain_named, unscaled_named, ordered_named, pair_named_lem, noallocate_named, exclusive_named_lem, widest, store_exclusive_named, size_for_lem, literal_for_lem, letter_is, target_is}
use Rattle.reader.proofs.Scans.{operand_num}
use Rattle.reader.proofs.Tails.{Words, here, OffsetEnd, offset_end, pre_end, post_end, index_end}
use Rattle.reader.proofs.Fronts.{single, double, single_goes, double_goes, literal_goes, made, built_named, built_plain, offset_from_lem, pair_from_lem, index_from_lem, exclusive_from_lem, store_exclusive_from_lem, literal_built}

-- ---- in range

pub record OffsetRange (o : OffsetOperands) : Type 0 where
  pub target : o.target < 32
  pub base : o.base < 32
  pub offset : nat_abs o.offset < 0x20_0000

pub record IndexRange (o : IndexOperands) : Type 0 where
  pub target : o.target < 32
  pub base : o.base < 32
  pub index : o.index < 32
  pub option : ¬ (o.option ≡ 2) → ¬ (o.option ≡ 3) → ¬ (o.option ≡ 6) → o.option ≡ 7
  pub scaled : o.scaled < 2

pub record LiteralRange (o : LiteralOperands) : Type 0 where
  pub target : o.target < 32
  pub offset : nat_abs o.offset < 0x20_0000

pub record PairRange (o : PairOperands) : Type 0 where
  pub first : o.first < 32
  pub second : o.second < 32
  pub base : o.base < 32
  pub offset : nat_abs o.offset < 0x20_0000

abbrev pub InRange : Family → Type 0
InRange Empty = ⊥
InRange (Literal op o) = LiteralRange o
InRange (Pair op o) = PairRange o
InRange (Ordered op o) = ¬ (op ≡ Prefetch) × OffsetRange o
InRange (Unscaled op o) = OffsetRange o
InRange (PostIndex op o) = OffsetRange o
InRange (PreIndex op o) = OffsetRange o
InRange (Register op o) = IndexRange o
InRange (Unsigned op o) = OffsetRange o
InRange (Exclusive op o) = ExclusiveBounds o
InRange (StoreExclusive op o) = StoreExclusiveBounds o

-- ---- each family

scanned : List ℕ → Scan
scanned t = foldl step_of scan_start t

abbrev Comes : Family → Type 0
Comes F = build_of (scanned (family_text F)) ≡ made F

literal_comes : (op : LiteralOp) (o : LiteralOperands) → LiteralRange o → Comes (Literal op o)
unfolding scanned literal_text
literal_comes op o v =
    let N = plain_named (literal_sized op) in
    ap build_of (literal_goes N o.target v.target o.offset v.offset) ∙ literal_built (literal_sized op) N o.target v.target o.offset v.offset
    ∙ ap (λ (x : LiteralOp). made (Literal x o)) (literal_for_lem op)

module _ (op : SizedOp) (o : OffsetOperands) (v : OffsetRange o) where
  ordered_comes : ¬ (op ≡ Prefetch) → Comes (Ordered op o)
  unfolding scanned sized_text
  ordered_comes n =
      let N = ordered_named op n in
      let e = offset_end (single N o.target v.target o.base) o.offset v.offset in
      ap build_of (single_goes N o.target v.target o.base v.base (offset_tail o.offset)) ∙ built_named e.kept (N.reads o.target v.target)
      ∙ ap (λ (x : OffsetOperands). made (Ordered op x)) (offset_from_lem (target_is (sized_operand op) o.target v.target) v.base e)

  unscaled_comes : Comes (Unscaled op o)
  unfolding scanned sized_text
  unscaled_comes =
      let N = unscaled_named op in
      let e = offset_end (single N o.target v.target o.base) o.offset v.offset in
      ap build_of (single_goes N o.target v.target o.base v.base (offset_tail o.offset)) ∙ built_named e.kept (N.reads o.target v.target)
      ∙ ap (λ (x : OffsetOperands). made (Unscaled op x)) (offset_from_lem (target_is (sized_operand op) o.target v.target) v.base e)

  post_comes : Comes (PostIndex op o)
  unfolding scanned sized_text
  post_comes =
      let N = plain_named op in
      let e = post_end (single N o.target v.target o.base) o.offset v.offset in
      ap build_of (single_goes N o.target v.target o.base v.base (post_tail o.offset)) ∙ built_plain op e.kept (N.reads o.target v.target) refl e.tail
      ∙ ap (λ (x : OffsetOperands). made (PostIndex op x)) (offset_from_lem (target_is (sized_operand op) o.target v.target) v.base e)

  pre_comes : Comes (PreIndex op o)
  unfolding scanned sized_text
  pre_comes =
      let N = plain_named op in
      let e = pre_end (single N o.target v.target o.base) o.offset v.offset in
      ap build_of (single_goes N o.target v.target o.base v.base (pre_tail o.offset)) ∙ built_plain op e.kept (N.reads o.target v.target) refl e.tail
      ∙ ap (λ (x : OffsetOperands). made (PreIndex op x)) (offset_from_lem (target_is (sized_operand op) o.target v.target) v.base e)

  unsigned_comes : Comes (Unsigned op o)
  unfolding scanned sized_text
  unsigned_comes =
      let N = plain_named op in
      let e = offset_end (single N o.target v.target o.base) o.offset v.offset in
      ap build_of (single_goes N o.target v.target o.base v.base (offset_tail o.offset)) ∙ built_plain op e.kept (N.reads o.target v.target) refl e.tail
      ∙ ap (λ (x : OffsetOperands). made (Unsigned op x)) (offset_from_lem (target_is (sized_operand op) o.target v.target) v.base e)

index_comes : (op : SizedOp) (o : IndexOperands) → IndexRange o → Comes (Register op o)
unfolding scanned sized_text
index_comes op o v =
    let N = plain_named op in
    let e = index_end (single N o.target v.target o.base) op o v.index v.option v.scaled in
    ap build_of (single_goes N o.target v.target o.base v.base (index_tail op o)) ∙ built_plain op e.kept (N.reads o.target v.target) refl e.tail
    ∙ ap (λ (x : IndexOperands). made (Register op x)) (index_from_lem (target_is (sized_operand op) o.target v.target) v.base v.index e)

register_num : (o : Operand) → Registered o → (r : ℕ) → operand_num o r ≡ r
register_num Narrow g r = refl
register_num Wide g r = refl
register_num Hint g r = absurd (false≢true (sym g))
register_num VectorB g r = refl
register_num VectorH g r = refl
register_num VectorS g r = refl
register_num VectorD g r = refl
register_num VectorQ g r = refl

pair_num : (op : PairOp) (r : ℕ) → operand_num (pair_operand op) r ≡ r
pair_num op r = register_num (pair_operand op) (pair_registered op) r

module _ (op : PairOp) (o : PairOperands) (v : PairRange o) where
  noallocate_comes : o.mode ≡ NoAllocate → Comes (Pair op o)
  unfolding scanned pair_text
  noallocate_comes m =
      let N = noallocate_named op in
      let e = offset_end (double N o.first v.first (pair_operand op) o.second o.base) o.offset v.offset in
      rw m
      (ap build_of (double_goes N o.first v.first (pair_operand op) o.second o.base v.second v.base (offset_tail o.offset))
      ∙ built_named e.kept (N.reads o.first v.first) ∙ ap (λ (x : PairOperands). made (Pair op x)) (pair_from_lem NoAllocate (pair_num op o.first) (pair_num op o.second) v.first v.second v.base e))

  -- the words before the tail of a pair with allocation
  words : Words
  words = double (pair_named_lem op) o.first v.first (pair_operand op) o.second o.base

  -- the mode is told by the tail
  allocate_comes : {x : Tail} (tail : List ℕ) → OffsetEnd words x o.offset (foldl step_of (here words) tail)
      → build_of (foldl step_of scan_start (front_text (pair_name Offset op) (pair_operand op) o.first ++ operand_text (pair_operand op) o.second ++ asc ", [" ++ base_text o.base ++ tail))
      ≡ made (Pair op (record { first = o.first; second = o.second; base = o.base; mode = mode_for x; offset = o.offset }))
  unfolding words
  allocate_comes {x} tail e =
      let N = pair_named_lem op in
      ap build_of (double_goes N o.first v.first (pair_operand op) o.second o.base v.second v.base tail) ∙ built_named e.kept (N.reads o.first v.first)
      ∙ ap (λ (k : Tail). made (Pair op (pair_from (mode_for k) (foldl step_of (here words) tail)))) e.tail
      ∙ ap (λ (p : PairOperands). made (Pair op p)) (pair_from_lem (mode_for x) (pair_num op o.first) (pair_num op o.second) v.first v.second v.base e)

  by_mode : (mode : PairMode) → o.mode ≡ mode → Comes (Pair op o)
  unfolding scanned pair_text
  by_mode NoAllocate m = noallocate_comes m
  by_mode Post m = rw m (allocate_comes (post_tail o.offset) (post_end words o.offset v.offset))
  by_mode Offset m = rw m (allocate_comes (offset_tail o.offset) (offset_end words o.offset v.offset))
  by_mode Pre m = rw m (allocate_comes (pre_tail o.offset) (pre_end words o.offset v.offset))

data_num : (size : AccessSize) (r : ℕ) → operand_num (access_operand size) r ≡ r
data_num size r = register_num (access_operand size) (access_registered size) r

exclusive_comes : (op : ExclusiveOp) (o : ExclusiveOperands) → ExclusiveBounds o → Comes (Exclusive op o)
unfolding scanned exclusive_text offset_tail
exclusive_comes op o v =
    let N = exclusive_named_lem op o.size in
    let e = offset_end (single N o.target v.target o.base) (pos 0) (omega arith) in
    ap build_of (single_goes N o.target v.target o.base v.base (asc "]")) ∙ built_named e.kept (N.reads o.target v.target)
    ∙ ap (λ (x : ExclusiveOperands). made (Exclusive op x)) (exclusive_from_lem o.size e.kept (data_num o.size o.target) v.target v.base)

store_exclusive_comes : (op : StoreExclusiveOp) (o : StoreExclusiveOperands) → StoreExclusiveBounds o → Comes (StoreExclusive op o)
unfolding scanned store_exclusive_text offset_tail
store_exclusive_comes op o v =
    let N = store_exclusive_named op o.size in
    let stored = access_operand o.size in
    let e = offset_end (double N o.status v.status stored o.target o.base) (pos 0) (omega arith) in
    let told = ap (size_for (widest o.size)) (letter_is stored o.target v.target) ∙ size_for_lem o.size in
    ap build_of (double_goes N o.status v.status stored o.target o.base v.target v.base (asc "]")) ∙ built_named e.kept (N.reads o.status v.status)
    ∙ ap (λ (x : StoreExclusiveOperands). made (StoreExclusive op x))
    (store_exclusive_from_lem (widest o.size) o.size e.kept told refl (data_num o.size o.target) v.status v.target v.base)

pub family_comes : (F : Family) → InRange F → build_of (foldl step_of scan_start (family_text F)) ≡ made F
unfolding scanned
family_comes Empty v = absurd v
family_comes (Literal op o) v = literal_comes op o v
family_comes (Pair op o) v = by_mode op o v o.mode refl
family_comes (Ordered op o) v = ordered_comes op o v.1 v.0
family_comes (Unscaled op o) v = unscaled_comes op o v
family_comes (PostIndex op o) v = post_comes op o v
family_comes (PreIndex op o) v = pre_comes op o v
family_comes (Register op o) v = index_comes op o v
family_comes (Unsigned op o) v = unsigned_comes op o v
family_comes (Exclusive op o) v = exclusive_comes op o v
family_comes (StoreExclusive op o) v = store_exclusive_comes op o v
