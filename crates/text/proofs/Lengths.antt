-- How long texts can be: none of an allocated word has more than `text_most` bytes, and one has as many. A piece that shows a
-- number is bounded by its digits, and the numbers by their family (`Bounded`). Assumes nothing.
use Prim.Native.Nat.{ℕ, suc, ◌+◌, ◌^◌, ◌≤◌, ◌<◌}
use mathlib.Core.Path.{◌≡◌, refl, sym}
use mathlib.Core.Bool.{Bool, true, false, ◌||◌, false≢true}
use mathlib.Core.List.{List, [], ◌∷◌, ◌++◌}
use native.Mathlib.Omega.{arith}
use lib.Dec.{eqb, ltb}
use lib.IntN.{ℤ, pos, negsuc, nat_abs}
use lib.ListN.{length, length-append}
use Rattle.bits.specs.Choice.{pick, lookup}
use Rattle.bits.specs.Fields.{part, field}
use Rattle.bits.proofs.Choices.{pick_by}
use Rattle.instruction.specs.declared.exclusive.AccessSize.{AccessSize}
use Rattle.instruction.specs.declared.operation.SizedOp.{SizedOp}
use Rattle.instruction.specs.declared.operation.PairOp.{PairOp}
use Rattle.instruction.specs.declared.operation.PairMode.{PairMode}
use Rattle.instruction.specs.declared.operation.PairMode.TheVariants.{NoAllocate, Post, Offset, Pre}
use Rattle.instruction.specs.declared.family.Family.{Family}
use Rattle.instruction.specs.declared.family.Family.TheVariants.{Empty, Literal, Pair, Ordered, Unscaled, PostIndex, PreIndex, Register, Unsigned, Exclusive, StoreExclusive}
use Rattle.instruction.specs.declared.family.IndexOperands.{IndexOperands}
use Rattle.instruction.specs.Operations.{sized_code, sized_at, vector_of, size_of, opc_of, scale_of, sized_stores, pair_code, pair_load, mode_code, exclusive_code, store_exclusive_code, access_scale}
use Rattle.instruction.specs.Undefined.{undefined_size, undefined_option}
use Rattle.instruction.specs.Operands.{sized_in, index_in}
use Rattle.instruction.specs.Table.{in_set, row_of, undefined, allocated, instruction_of}
use Rattle.decoder.specs.Decoding.{decode_of}
use Rattle.instruction.specs.route.Bounds.{Bounded}
use Rattle.instruction.proofs.Codes.{sized}
use Rattle.decoder.proofs.Decodes.{decoded_bounded}
use Rattle.ascii.specs.Ascii.{asc, dec, signed_dec}
use Rattle.mnemonic.specs.Operands.{Operand, Narrow, Wide, Hint, VectorB, VectorH, VectorS, VectorD, VectorQ, vector_operand, sized_operand, pair_operand, access_operand}
use Rattle.mnemonic.proofs.Registers.{Registered, wide_or_narrow, vector_registered, pair_registered, access_registered}
use Rattle.mnemonic.specs.Mnemonics.{size_letter, suffix, stemmed, plain_name, unscaled_name, ordered_name, literal_sized, pair_name, exclusive_name}
use Rattle.text.specs.Hints.{unnamed, hint_text}
use Rattle.text.specs.Texts.{is_zero, register_text, base_text, operand_text, offset_tail, pre_tail, post_tail, pair_tail, extend_name, amount_text, extend_text, index_tail, front_text, literal_text, pair_text, sized_text, exclusive_text, store_exclusive_text, family_text, text_of, text_most, word_text}
use Rattle.ascii.proofs.Decimals.{dec_short}

record Short (n : ℕ) (p : List ℕ) : Type 0 where
  most : length p ≤ n

within : {n : ℕ} (p : List ℕ) → length p ≤ n → Short n p
within p h = record { most = h }

wider : {m n : ℕ} {p : List ℕ} → Short m p → m ≤ n → Short n p
wider s h = record { most = omega (arith, s.most) }

either : (b : Bool) {p q : List ℕ} {n : ℕ} → Short n p → Short n q → Short n (pick b p q)
either true h k = h
either false h k = k

joined : {p q : List ℕ} {m n : ℕ} → Short m p → Short n q → Short (m + n) (p ++ q)
joined {p} {q} h k = record { most = omega (arith, length-append p q, h.most, k.most) }

one_of : (n : ℕ) (a b c : List ℕ) → length a ≤ n → length b ≤ n → length c ≤ n → (k : ℕ) → Short n (lookup [] ((0, a) ∷ (1, b) ∷ (2, c) ∷ []) k)
one_of n a b c f g h k = either (eqb k 0) (within a f) (either (eqb k 1) (within b g) (either (eqb k 2) (within c h) (within [] (omega arith))))

-- a literal piece before or behind another
lead : {q : List ℕ} {n : ℕ} (m : ℕ) (p : List ℕ) → length p ≤ m → Short n q → Short (m + n) (p ++ q)
lead m p h k = joined (within p h) k

trail : {p : List ℕ} {m : ℕ} (n : ℕ) (q : List ℕ) → length q ≤ n → Short m p → Short (m + n) (p ++ q)
trail n q h k = joined k (within q h)

number : (k : ℕ) {n : ℕ} → n < 10 ^ suc k → Short (suc k) (dec n)
number k {n} h = within (dec n) (dec_short k n h)

-- one byte more for the sign
signed : (k : ℕ) (z : ℤ) → nat_abs z < 10 ^ suc k → Short (k + 2) (signed_dec z)
unfolding signed_dec
signed k (pos n) h = wider (number k h) (omega arith)
signed k (negsuc n) h = wider (lead 1 (asc "-") (omega arith) (number k h)) (omega arith)

-- ---- operands

register : (letter : ℕ) {r : ℕ} → r < 32 → Short 3 (register_text letter r)
unfolding register_text
register letter {r} h = lead 1 (letter ∷ []) (omega arith) (either (is_zero letter r) (within (asc "zr") (omega arith)) (number 1 (omega arith)))

base : {r : ℕ} → r < 32 → Short 3 (base_text r)
unfolding base_text
base {r} h = either (eqb r 31) (within (asc "sp") (omega arith)) (lead 1 (asc "x") (omega arith) (number 1 (omega arith)))

hint : {r : ℕ} → r < 32 → Short 9 (hint_text r)
unfolding hint_text
hint {r} h =
    either (unnamed r) (wider (lead 1 (asc "#") (omega arith) (number 1 (omega arith))) (omega arith))
    (joined {n = 4} (joined (one_of 3 (asc "pld") (asc "pli") (asc "pst") (omega arith) (omega arith) (omega arith) (field 4 3 r))
    (one_of 2 (asc "l1") (asc "l2") (asc "l3") (omega arith) (omega arith) (omega arith) (field 2 1 r)))
    (either (eqb (field 0 0 r) 0) (within (asc "keep") (omega arith)) (within (asc "strm") (omega arith))))

-- any but a hint
one : (o : Operand) → Registered o → {r : ℕ} → r < 32 → Short 3 (operand_text o r)
one Narrow g h = register 119 h
one Wide g h = register 120 h
one Hint g h = absurd (false≢true (sym g))
one VectorB g h = register 98 h
one VectorH g h = register 104 h
one VectorS g h = register 115 h
one VectorD g h = register 100 h
one VectorQ g h = register 113 h

-- ---- tails, by the digits of the offset

module _ (k : ℕ) (z : ℤ) (h : nat_abs z < 10 ^ suc k) where
  pre : Short (k + 7) (pre_tail z)
  unfolding pre_tail
  pre = wider (trail 2 (asc "]!") (omega arith) (lead 3 (asc ", #") (omega arith) (signed k z h))) (omega arith)

  post : Short (k + 7) (post_tail z)
  unfolding post_tail
  post = wider (lead 4 (asc "], #") (omega arith) (signed k z h)) (omega arith)

  offset : Short (k + 7) (offset_tail z)
  unfolding offset_tail
  offset =
      either (eqb (nat_abs z) 0) (within (asc "]") (omega arith))
      (wider (trail 1 (asc "]") (omega arith) (lead 3 (asc ", #") (omega arith) (signed k z h))) (omega arith))

  pair_tail_lem : (m : PairMode) → Short (k + 7) (pair_tail m z)
  pair_tail_lem NoAllocate = offset
  pair_tail_lem Post = post
  pair_tail_lem Offset = offset
  pair_tail_lem Pre = pre

amount : (s : ℕ) {n : ℕ} → n < 10 → Short 3 (amount_text s n)
unfolding amount_text
amount s h = either (eqb s 1) (lead 2 (asc " #") (omega arith) (number 0 (omega arith))) (within [] (omega arith))

extend_name_lem : (o : ℕ) → Short 4 (extend_name o)
unfolding extend_name
extend_name_lem o =
    either (eqb o 2) (within (asc "uxtw") (omega arith)) (either (eqb o 6) (within (asc "sxtw") (omega arith)) (within (asc "sxtx") (omega arith)))

extend : (o s : ℕ) {n : ℕ} → n < 10 → Short 9 (extend_text o s n)
unfolding extend_text
extend o s h =
    either (eqb o 3) (either (eqb s 1) (wider (lead 5 (asc ", lsl") (omega arith) (amount s h)) (omega arith)) (within [] (omega arith)))
    (joined (lead 2 (asc ", ") (omega arith) (extend_name_lem o)) (amount s h))

index : (op : SizedOp) (o : IndexOperands) → o.index < 32 → Short 15 (index_tail op o)
unfolding index_tail
index op o h = trail 1 (asc "]") (omega arith) (joined (lead 2 (asc ", ") (omega arith) (register _ h)) (extend _ _ (omega (arith, (sized op).scale))))

-- ---- mnemonics

letter : (size : ℕ) (signed : Bool) → Short 1 (size_letter size signed)
letter size signed =
    either (eqb size 0) (within (asc "b") (omega arith))
    (either (eqb size 1) (within (asc "h") (omega arith))
    (either (eqb size 2) (either signed (within (asc "w") (omega arith)) (within [] (omega arith))) (within [] (omega arith))))

behind : (size : ℕ) (signed : Bool) → Short 2 (suffix size signed)
behind size signed = joined {m = 1} (either signed (within (asc "s") (omega arith)) (within [] (omega arith))) (letter size signed)

-- a name and the first operand: a hint is longer, and the name of a prefetch shorter
with_operand : (n : ℕ) (hinted : Bool) (o : Operand) → Registered o → {name hintName : List ℕ} {r : ℕ} → r < 32 → Short (n + 2) name → Short (n + 1) hintName
    → Short (n + 11) (pick hinted hintName name ++ asc " " ++ operand_text (pick hinted Hint o) r)
with_operand n true o g h s k = wider (joined (trail 1 (asc " ") (omega arith) k) (hint h)) (omega arith)
with_operand n false o g h s k = wider (joined (trail 1 (asc " ") (omega arith) s) (one o g h)) (omega arith)

stem : (n : ℕ) {store load hintName : List ℕ} → Short n store → Short n load → Short (n + 1) hintName → (op : SizedOp) {r : ℕ} → r < 32
    → Short (n + 11) (stemmed store load hintName op ++ asc " " ++ operand_text (sized_operand op) r)
stem n s l k op h =
    let wide = eqb (size_of op) 0b11 || eqb (opc_of op) 0b10 in
    with_operand n (eqb (sized_code op) 0b0_11_10) (pick (eqb (vector_of op) 1) (vector_operand (scale_of op)) (pick wide Wide Narrow))
    (pick_by Registered (eqb (vector_of op) 1) (λ e. vector_registered (scale_of op)) (λ e. wide_or_narrow wide)) h
    (joined (either (sized_stores op) s l) (either (eqb (vector_of op) 1) (within [] (omega arith)) (behind (size_of op) (ltb 0b01 (opc_of op))))) k

plain : (op : SizedOp) {r : ℕ} → r < 32 → Short 14 (plain_name op ++ asc " " ++ operand_text (sized_operand op) r)
plain op h = stem 3 (within (asc "str") (omega arith)) (within (asc "ldr") (omega arith)) (within (asc "prfm") (omega arith)) op h

unscaled : (op : SizedOp) {r : ℕ} → r < 32 → Short 15 (unscaled_name op ++ asc " " ++ operand_text (sized_operand op) r)
unscaled op h = stem 4 (within (asc "stur") (omega arith)) (within (asc "ldur") (omega arith)) (within (asc "prfum") (omega arith)) op h

ordered : (op : SizedOp) {r : ℕ} → r < 32 → Short 17 (ordered_name op ++ asc " " ++ operand_text (sized_operand op) r)
ordered op h = stem 6 (within (asc "stlur") (omega arith)) (within (asc "ldapur") (omega arith)) (within (asc "prfum") (omega arith)) op h

pair : (m : PairMode) (op : PairOp) → Short 6 (pair_name m op)
pair m op =
    joined {n = 2} (trail 1 (asc "p") (omega arith)
    (joined {m = 2} {n = 1} (either (eqb (pair_load op) 0) (within (asc "st") (omega arith)) (within (asc "ld") (omega arith)))
    (either (eqb (mode_code m) 0) (within (asc "n") (omega arith)) (within [] (omega arith)))))
    (either (eqb (pair_code op) 3) (within (asc "sw") (omega arith)) (within [] (omega arith)))

exclusive : (code : ℕ) (size : AccessSize) → Short 6 (exclusive_name code size)
exclusive code size =
    joined {m = 5}
    (either (eqb code 0) (within (asc "stxr") (omega arith))
    (either (eqb code 1) (within (asc "stlxr") (omega arith))
    (either (eqb code 2) (within (asc "ldxr") (omega arith))
    (either (eqb code 3) (within (asc "ldaxr") (omega arith))
    (either (eqb code 5) (within (asc "stlr") (omega arith)) (either (eqb code 7) (within (asc "ldar") (omega arith)) (within [] (omega arith))))))))
    (letter (access_scale size) false)

-- ---- lines

front : (n : ℕ) (name : List ℕ) (o : Operand) (r : ℕ) → Short n (name ++ asc " " ++ operand_text o r) → Short (n + 2) (front_text name o r)
unfolding front_text
front n name o r s = trail 2 (asc ", ") (omega arith) s

-- six bytes beside the name with its operand, and the tail
line : (n k : ℕ) (name : List ℕ) {tail : List ℕ} (op : SizedOp) (t : ℕ) {b : ℕ} → b < 32 → Short n (name ++ asc " " ++ operand_text (sized_operand op) t) → Short k tail → n + k + 6 ≤ text_most
    → Short text_most (sized_text name op t b tail)
unfolding sized_text
line n k name op t h s q m = wider (joined (joined (trail 1 (asc "[") (omega arith) (front n name (sized_operand op) t s)) (base h)) q) (omega arith)

family : (f : Family) → Bounded f → Short text_most (family_text f)
unfolding literal_text pair_text exclusive_text store_exclusive_text
family Empty b = within [] (omega arith)
family (Literal op o) b =
    wider (joined (trail 1 (asc "#") (omega arith) (front 14 (plain_name (literal_sized op)) _ o.target (plain (literal_sized op) b.target))) (signed 6 o.offset (omega (arith, b.offset)))) (omega arith)
family (Pair op o) b =
    let register = pair_registered op in
    let name = joined (trail 1 (asc " ") (omega arith) (pair o.mode op)) (one (pair_operand op) register b.first) in
    wider
    (joined (joined (trail 3 (asc ", [") (omega arith) (joined (front 10 (pair_name o.mode op) (pair_operand op) o.first name) (one (pair_operand op) register b.second))) (base b.base))
    (pair_tail_lem 3 o.offset (omega (arith, b.offset)) o.mode)) (omega arith)
family (Ordered op o) b = line 17 9 (ordered_name op) op o.target b.base (ordered op b.target) (offset 2 o.offset (omega (arith, b.offset))) (omega arith)
family (Unscaled op o) b = line 15 9 (unscaled_name op) op o.target b.base (unscaled op b.target) (offset 2 o.offset (omega (arith, b.offset))) (omega arith)
family (PostIndex op o) b = line 14 9 (plain_name op) op o.target b.base (plain op b.target) (post 2 o.offset (omega (arith, b.offset))) (omega arith)
family (PreIndex op o) b = line 14 9 (plain_name op) op o.target b.base (plain op b.target) (pre 2 o.offset (omega (arith, b.offset))) (omega arith)
family (Register op o) b = line 14 15 (plain_name op) op o.target b.base (plain op b.target) (index op o b.index) (omega arith)
family (Unsigned op o) b = line 14 11 (plain_name op) op o.target b.base (plain op b.target) (offset 4 o.offset (omega (arith, b.offset))) (omega arith)
family (Exclusive op o) b =
    let name = joined (trail 1 (asc " ") (omega arith) (exclusive (exclusive_code op) o.size)) (one (access_operand o.size) (access_registered o.size) b.target) in
    wider (trail 1 (asc "]") (omega arith) (joined (trail 1 (asc "[") (omega arith) (front 10 (exclusive_name (exclusive_code op) o.size) (access_operand o.size) o.target name)) (base b.base))) (omega arith)
family (StoreExclusive op o) b =
    let name = joined (trail 1 (asc " ") (omega arith) (exclusive (store_exclusive_code op) o.size)) (register 119 b.status) in
    wider
    (trail 1 (asc "]") (omega arith)
    (joined (trail 3 (asc ", [") (omega arith) (joined (front 10 (exclusive_name (store_exclusive_code op) o.size) Narrow o.status name) (one (access_operand o.size) (access_registered o.size) b.target))) (base b.base)))
    (omega arith)

allocated_bounded : (w : ℕ) → allocated w ≡ true → Bounded (instruction_of w).family
unfolding decode_of
allocated_bounded w a = rw a at (decoded_bounded w)

pub text_short : (w : ℕ) → allocated w ≡ true → length (word_text w) ≤ text_most
unfolding word_text text_of
text_short w a = (family (instruction_of w).family (allocated_bounded w a)).most

-- prfm pldl1keep, [x10, w10, uxtw #3]
pub text_reached : (allocated 0xf8aa5940 ≡ true) × (length (word_text 0xf8aa5940) ≡ text_most)
unfolding word_text text_of hint_text register_text base_text extend_name amount_text extend_text index_tail front_text sized_text dec instruction_of row_of part sized_at sized_in index_in in_set allocated undefined undefined_size undefined_option
text_reached = (refl, refl)
