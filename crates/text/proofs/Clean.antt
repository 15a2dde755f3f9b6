-- The bytes of a text are printed: none is a tab or a newline. Assumes nothing.
use Prim.Native.Nat.{ℕ, zero, suc, ◌/◌, ◌<◌}
use mathlib.Core.Path.{◌≡◌, refl}
use mathlib.Core.Bool.{Bool, true, false, ◌&&◌}
use mathlib.Core.List.{List, [], ◌∷◌, ◌++◌}
use native.Mathlib.Omega.{arith}
use borrow.Author.Tests.{ltb-true}
use lib.Dec.{eqb, ltb}
use lib.IntN.{ℤ, pos, negsuc, nat_abs}
use Rattle.bits.specs.Choice.{pick, lookup}
use Rattle.bits.proofs.Choices.{both}
use Rattle.ascii.specs.Ascii.{asc, digits, dec, signed_dec}
use Rattle.instruction.specs.declared.exclusive.AccessSize.{AccessSize}
use Rattle.instruction.specs.declared.operation.SizedOp.{SizedOp}
use Rattle.instruction.specs.declared.operation.PairOp.{PairOp}
use Rattle.instruction.specs.declared.operation.PairMode.{PairMode}
use Rattle.instruction.specs.declared.operation.PairMode.TheVariants.{NoAllocate, Post, Offset, Pre}
use Rattle.instruction.specs.declared.family.Family.{Family}
use Rattle.instruction.specs.declared.family.Family.TheVariants.{Empty, Literal, Pair, Ordered, Unscaled, PostIndex, PreIndex, Register, Unsigned, Exclusive, StoreExclusive}
use Rattle.instruction.specs.declared.family.IndexOperands.{IndexOperands}
use Rattle.instruction.specs.Operations.{sized_code, vector_of, size_of, opc_of, scale_of, sized_stores, pair_code, pair_load, mode_code, exclusive_code, store_exclusive_code, access_scale}
use Rattle.instruction.specs.Table.{instruction_of}
use Rattle.mnemonic.specs.Operands.{Operand, Narrow, Wide, Hint, VectorB, VectorH, VectorS, VectorD, VectorQ, sized_operand, literal_operand, pair_operand, access_operand}
use Rattle.mnemonic.specs.Mnemonics.{size_letter, stemmed, plain_name, unscaled_name, ordered_name, literal_sized, pair_name, exclusive_name}
use Rattle.bits.specs.Fields.{field}
use Rattle.text.specs.Hints.{unnamed, hint_text}
use Rattle.text.specs.Texts.{is_zero, register_text, base_text, operand_text, offset_tail, pre_tail, post_tail, pair_tail, extend_name, amount_text, extend_text, index_tail, front_text, literal_text, pair_text, sized_text, exclusive_text, store_exclusive_text, family_text, text_of, word_text}

-- every byte is above 31
pub data Clean : List ℕ → Type 0 where
  none : Clean []
  next : {b : ℕ} {bs : List ℕ} → 31 < b → Clean bs → Clean (b ∷ bs)

abbrev printed : List ℕ → Bool
printed [] = true
printed (b ∷ bs) = ltb 31 b && printed bs

-- a quoted text, by computing
pub known : (p : List ℕ) → printed p ≡ true → Clean p
known [] e = none
known (b ∷ bs) e = let t = both (ltb 31 b) (printed bs) e in next (ltb-true 31 b t.0) (known bs t.1)

pub joins : {p q : List ℕ} → Clean p → Clean q → Clean (p ++ q)
joins none k = k
joins (next h c) k = next h (joins c k)

either : (b : Bool) {p q : List ℕ} → Clean p → Clean q → Clean (pick b p q)
either true h k = h
either false h k = k

module _ {q : List ℕ} where
  -- a quoted text before or behind another
  before : (p : List ℕ) → printed p ≡ true → Clean q → Clean (p ++ q)
  before p e k = joins (known p e) k

  behind : (p : List ℕ) → printed p ≡ true → Clean q → Clean (q ++ p)
  behind p e k = joins k (known p e)

-- ---- numbers

digits_clean : (f n : ℕ) → Clean (digits f n)
digits_clean zero n = none
digits_clean (suc f) n = either (ltb n 10) (next (omega arith) none) (joins (digits_clean f (n / 10)) (next (omega arith) none))

pub dec_clean : (n : ℕ) → Clean (dec n)
unfolding dec
dec_clean n = digits_clean 20 n

signed_clean : (z : ℤ) → Clean (signed_dec z)
unfolding signed_dec
signed_clean (pos n) = dec_clean n
signed_clean (negsuc n) = before (asc "-") refl (dec_clean (suc n))

-- ---- operands

register : {l : ℕ} → 31 < l → (r : ℕ) → Clean (register_text l r)
unfolding register_text
register {l} h r = joins (next h none) (either (is_zero l r) (known (asc "zr") refl) (dec_clean r))

base : (r : ℕ) → Clean (base_text r)
unfolding base_text
base r = either (eqb r 31) (known (asc "sp") refl) (before (asc "x") refl (dec_clean r))

three : (a b c : List ℕ) → printed a ≡ true → printed b ≡ true → printed c ≡ true → (k : ℕ) → Clean (lookup [] ((0, a) ∷ (1, b) ∷ (2, c) ∷ []) k)
three a b c f g h k = either (eqb k 0) (known a f) (either (eqb k 1) (known b g) (either (eqb k 2) (known c h) none))

hint : (r : ℕ) → Clean (hint_text r)
unfolding hint_text
hint r =
    either (unnamed r) (before (asc "#") refl (dec_clean r))
    (joins (joins (three (asc "pld") (asc "pli") (asc "pst") refl refl refl (field 4 3 r)) (three (asc "l1") (asc "l2") (asc "l3") refl refl refl (field 2 1 r)))
    (either (eqb (field 0 0 r) 0) (known (asc "keep") refl) (known (asc "strm") refl)))

operand : (o : Operand) (r : ℕ) → Clean (operand_text o r)
operand Narrow r = register (omega arith) r
operand Wide r = register (omega arith) r
operand Hint r = hint r
operand VectorB r = register (omega arith) r
operand VectorH r = register (omega arith) r
operand VectorS r = register (omega arith) r
operand VectorD r = register (omega arith) r
operand VectorQ r = register (omega arith) r

-- ---- tails

module _ (z : ℤ) where
  pre : Clean (pre_tail z)
  unfolding pre_tail
  pre = behind (asc "]!") refl (before (asc ", #") refl (signed_clean z))

  post : Clean (post_tail z)
  unfolding post_tail
  post = before (asc "], #") refl (signed_clean z)

  offset : Clean (offset_tail z)
  unfolding offset_tail
  offset = either (eqb (nat_abs z) 0) (known (asc "]") refl) (behind (asc "]") refl (before (asc ", #") refl (signed_clean z)))

  pair_tail_lem : (m : PairMode) → Clean (pair_tail m z)
  pair_tail_lem NoAllocate = offset
  pair_tail_lem Post = post
  pair_tail_lem Offset = offset
  pair_tail_lem Pre = pre

amount : (s n : ℕ) → Clean (amount_text s n)
unfolding amount_text
amount s n = either (eqb s 1) (before (asc " #") refl (dec_clean n)) none

extend_name_lem : (o : ℕ) → Clean (extend_name o)
unfolding extend_name
extend_name_lem o = either (eqb o 2) (known (asc "uxtw") refl) (either (eqb o 6) (known (asc "sxtw") refl) (known (asc "sxtx") refl))

extend : (o s n : ℕ) → Clean (extend_text o s n)
unfolding extend_text
extend o s n =
    either (eqb o 3) (either (eqb s 1) (before (asc ", lsl") refl (amount s n)) none)
    (joins (before (asc ", ") refl (extend_name_lem o)) (amount s n))

index : (op : SizedOp) (o : IndexOperands) → Clean (index_tail op o)
unfolding index_tail
index op o =
    behind (asc "]") refl (joins (before (asc ", ") refl (register (omega arith) o.index)) (extend o.option o.scaled (scale_of op)))

-- ---- mnemonics

letter : (size : ℕ) (signed : Bool) → Clean (size_letter size signed)
letter size signed =
    either (eqb size 0) (known (asc "b") refl)
    (either (eqb size 1) (known (asc "h") refl) (either (eqb size 2) (either signed (known (asc "w") refl) none) none))

stem : {s l h : List ℕ} → Clean s → Clean l → Clean h → (op : SizedOp) → Clean (stemmed s l h op)
stem s l h op =
    either (eqb (sized_code op) 0b0_11_10) h
    (joins (either (sized_stores op) s l)
    (either (eqb (vector_of op) 1) none
    (joins (either (ltb 0b01 (opc_of op)) (known (asc "s") refl) none) (letter (size_of op) (ltb 0b01 (opc_of op))))))

plain : (op : SizedOp) → Clean (plain_name op)
plain op = stem (known (asc "str") refl) (known (asc "ldr") refl) (known (asc "prfm") refl) op

unscaled : (op : SizedOp) → Clean (unscaled_name op)
unscaled op = stem (known (asc "stur") refl) (known (asc "ldur") refl) (known (asc "prfum") refl) op

ordered : (op : SizedOp) → Clean (ordered_name op)
ordered op = stem (known (asc "stlur") refl) (known (asc "ldapur") refl) (known (asc "prfum") refl) op

pair : (m : PairMode) (op : PairOp) → Clean (pair_name m op)
pair m op =
    joins (behind (asc "p") refl
    (joins (either (eqb (pair_load op) 0) (known (asc "st") refl) (known (asc "ld") refl))
    (either (eqb (mode_code m) 0) (known (asc "n") refl) none)))
    (either (eqb (pair_code op) 0b0_01_1) (known (asc "sw") refl) none)

exclusive : (code : ℕ) (size : AccessSize) → Clean (exclusive_name code size)
exclusive code size =
    joins
    (either (eqb code 0) (known (asc "stxr") refl)
    (either (eqb code 1) (known (asc "stlxr") refl)
    (either (eqb code 2) (known (asc "ldxr") refl)
    (either (eqb code 3) (known (asc "ldaxr") refl)
    (either (eqb code 5) (known (asc "stlr") refl) (either (eqb code 7) (known (asc "ldar") refl) none))))))
    (letter (access_scale size) false)

-- ---- lines

front : {name : List ℕ} → Clean name → (o : Operand) (r : ℕ) → Clean (front_text name o r)
unfolding front_text
front n o r = behind (asc ", ") refl (joins (behind (asc " ") refl n) (operand o r))

sized : {name tail : List ℕ} → Clean name → (op : SizedOp) (t b : ℕ) → Clean tail → Clean (sized_text name op t b tail)
unfolding sized_text
sized n op t b q = joins (joins (behind (asc "[") refl (front n (sized_operand op) t)) (base b)) q

family : (f : Family) → Clean (family_text f)
unfolding literal_text pair_text exclusive_text store_exclusive_text
family Empty = none
family (Literal op o) = joins (behind (asc "#") refl (front (plain (literal_sized op)) (literal_operand op) o.target)) (signed_clean o.offset)
family (Pair op o) =
    joins (joins (behind (asc ", [") refl (joins (front (pair o.mode op) (pair_operand op) o.first) (operand (pair_operand op) o.second))) (base o.base))
    (pair_tail_lem o.offset o.mode)
family (Ordered op o) = sized (ordered op) op o.target o.base (offset o.offset)
family (Unscaled op o) = sized (unscaled op) op o.target o.base (offset o.offset)
family (PostIndex op o) = sized (plain op) op o.target o.base (post o.offset)
family (PreIndex op o) = sized (plain op) op o.target o.base (pre o.offset)
family (Register op o) = sized (plain op) op o.target o.base (index op o)
family (Unsigned op o) = sized (plain op) op o.target o.base (offset o.offset)
family (Exclusive op o) =
    behind (asc "]") refl (joins (behind (asc "[") refl (front (exclusive (exclusive_code op) o.size) (access_operand o.size) o.target)) (base o.base))
family (StoreExclusive op o) =
    behind (asc "]") refl
    (joins (behind (asc ", [") refl (joins (front (exclusive (store_exclusive_code op) o.size) Narrow o.status) (operand (access_operand o.size) o.target))) (base o.base))

pub text_clean : (w : ℕ) → Clean (word_text w)
unfolding word_text text_of
text_clean w = family (instruction_of w).family
