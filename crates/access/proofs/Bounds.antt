-- The access of every word is within its bounds, and moves a byte at least. Assumes nothing.
use Prim.Native.Nat.{ℕ, ◌+◌, ◌/◌, ◌%◌, ◌≤◌, ◌<◌}
use mathlib.Core.Path.{◌≡◌, refl, sym}
use mathlib.Core.Bool.{Bool, true, false, ◌&&◌, ◌||◌}
use mathlib.Core.Logic.{inl, inr}
use native.Mathlib.Omega.{arith}
use lib.Dec.{eqb, leb}
use borrow.Author.Tests.{leb-true, eq-eqb, eqb-true}
use Rattle.bits.specs.Choice.{pick}
use Rattle.bits.proofs.Choices.{pick_by, both}
use Rattle.instruction.specs.declared.family.Family.{Family}
use Rattle.instruction.specs.declared.family.LiteralOperands.{LiteralOperands}
use Rattle.instruction.specs.declared.operation.SizedOp.{SizedOp}
use Rattle.instruction.specs.declared.operation.PairOp.{PairOp}
use Rattle.instruction.specs.declared.operation.LiteralOp.{LiteralOp}
use Rattle.instruction.specs.declared.exclusive.AccessSize.{AccessSize}
use Rattle.instruction.specs.Operations.{vector_of, opc_of, sized_stores, sized_bytes, pair_code, pair_vector, pair_load, pair_bytes, access_bytes}
use Rattle.instruction.proofs.Codes.{each_sized, each_pair, paired}
use Rattle.instruction.proofs.Codes as codes
use Rattle.instruction.specs.declared.operation.PairMode.{PairMode}
use Rattle.instruction.specs.declared.family.IndexOperands.{IndexOperands}
use Rattle.instruction.specs.Table.{row_of, allocated, instruction_of, columns_of}
use Rattle.instruction.specs.route.Bounds as fields
use Rattle.instruction.proofs.Bounds.{bounded_in}
use Rattle.decoder.specs.Decoding.{decode_of}
use Rattle.registers.specs.File.{zero_slot}
use Rattle.vectors.specs.File.{vector_slot}
use Rattle.vectors.specs.route.Slots.{Plain}
use Rattle.vectors.proofs.Slots.{plain_low}
use Rattle.access.specs.declared.transfer.Transfer.{Transfer}
use Rattle.access.specs.declared.addressing.Addressing.{Addressing}
use Rattle.access.specs.Transfers.{none, slot_of, extent_of, sized_transfer, literal_transfer, pair_transfer, monitored_transfer, exclusive_transfer}
use Rattle.access.specs.Accesses.{is_prefetch, sized_access, literal_moves, literal_access, pair_access, exclusive_access, store_exclusive_access, family_access, access_of, word_access}
use Rattle.access.specs.Addressings.{based, paired_mode, indexed_mode, literal_mode}
use Rattle.access.specs.route.Bounds.{Whole, Bounded, Placed, Of, Within, Moving}

-- ---- of general registers

zero_plain : (n : ℕ) → n < 32 → Plain (zero_slot n)
zero_plain n h = pick_by Plain (eqb n 31) (λ e. refl) (λ e. plain_low n h)

not_both : {b : Bool} {A : Type 0} → b ≡ false → b ≡ true → A
not_both e f = absurd (let z : ◌≡◌ {A = ℕ} 0 1 = cc in omega arith)

general : (t : Transfer) → t.bytes ≤ t.extent → t.more ≤ t.extent → t.extent ≤ 8 → Plain t.target → Plain t.second → Bounded t
general t a b c p q = record { wide = a; wider = b; general = λ e. (c, q); vector = λ e. not_both p e }

-- ---- of vector registers

vector_slot_lem : (n : ℕ) → vector_slot (32 + n % 32) ≡ true
vector_slot_lem n = eq-eqb ((32 + n % 32) / 32) 1 (omega arith)

within : {n extent : ℕ} → Whole n extent → n ≤ extent
within (inl e) = omega (arith, e)
within (inr e) = omega (arith, e)

vector : (t : Transfer) → Whole t.bytes t.extent → Whole t.more t.extent → t.extent ≤ 16 → vector_slot t.target ≡ true → 32 ≤ t.second → Bounded t
vector t a b c p q =
    record { wide = within a; wider = within b; general = λ e. not_both e p; vector = λ e. record { extent = c; second = q; whole = a; wholes = b } }

-- one register, by bit 26
single : (b : Bool) (store ordered : Bool) (bytes extent target : ℕ) → bytes ≤ 16 → (b ≡ false → (bytes ≤ extent) × (extent ≤ 8)) → target < 32
    → Bounded (record { store = store; ordered = ordered; bytes = bytes; more = 0; extent = pick b bytes extent; target = pick b (32 + target % 32) (zero_slot target); second = none; exclusive = false })
single true store ordered bytes extent target m g h =
    vector (record { store = store; ordered = ordered; bytes = bytes; more = 0; extent = bytes; target = 32 + target % 32; second = none; exclusive = false })
    (inr refl) (inl refl) m (vector_slot_lem target) (omega arith)
single false store ordered bytes extent target m g h =
    general (record { store = store; ordered = ordered; bytes = bytes; more = 0; extent = extent; target = zero_slot target; second = none; exclusive = false })
    (g refl).0 (omega arith) (g refl).1 (zero_plain target h) refl

-- two registers
double : (b : Bool) (store : Bool) (bytes extent first second : ℕ) → bytes ≤ 16 → (b ≡ true → extent ≡ bytes) → (b ≡ false → (bytes ≤ extent) × (extent ≤ 8)) → first < 32 → second < 32
    → Bounded (record { store = store; ordered = false; bytes = bytes; more = bytes; extent = extent; target = pick b (32 + first % 32) (zero_slot first); second = pick b (32 + second % 32) (zero_slot second); exclusive = false })
double true store bytes extent first second m v g h i =
    let e = sym (v refl) in
    vector (record { store = store; ordered = false; bytes = bytes; more = bytes; extent = extent; target = 32 + first % 32; second = 32 + second % 32; exclusive = false })
    (inr e) (inr e) (omega (arith, e)) (vector_slot_lem first) (omega arith)
double false store bytes extent first second m v g h i =
    general (record { store = store; ordered = false; bytes = bytes; more = bytes; extent = extent; target = zero_slot first; second = zero_slot second; exclusive = false })
    (g refl).0 (g refl).0 (g refl).1 (zero_plain first h) (zero_plain second i)

one_of : (a b : Bool) → (a || b) ≡ true → a ≡ false → b ≡ true
one_of true b h e = absurd (let z : ◌≡◌ {A = ℕ} 0 1 = cc in omega arith)
one_of false b h e = h

extent_test : SizedOp → Bool
extent_test op =
    eqb (vector_of op) 1 || (leb (sized_bytes op) (extent_of (opc_of op) (sized_bytes op)) && leb (extent_of (opc_of op) (sized_bytes op)) 8)

general_extent : (op : SizedOp) → eqb (vector_of op) 1 ≡ false → (sized_bytes op ≤ extent_of (opc_of op) (sized_bytes op)) × (extent_of (opc_of op) (sized_bytes op) ≤ 8)
unfolding extent_of extent_test
general_extent op e =
    let t = both _ _ (one_of (eqb (vector_of op) 1) _ (each_sized extent_test refl op) e) in
    (leb-true _ _ t.0, leb-true _ _ t.1)

sized : (op : SizedOp) (target : ℕ) (ordered : Bool) → target < 32 → Bounded (sized_transfer op target ordered)
unfolding sized_transfer slot_of
sized op target ordered h =
    single (eqb (vector_of op) 1) (sized_stores op) ordered (sized_bytes op) (extent_of (opc_of op) (sized_bytes op)) target (codes.sized op).most (general_extent op) h

abbrev pair_extent : PairOp → ℕ
pair_extent op = pick (eqb (pair_code op) 0b0_01_1) 8 (pair_bytes op)

pair_test : PairOp → Bool
pair_test op =
    pick (eqb (pair_vector op) 1) (eqb (pair_extent op) (pair_bytes op)) (leb (pair_bytes op) (pair_extent op) && leb (pair_extent op) 8)

chosen : (b : Bool) (x y : Bool) → pick b x y ≡ true → b ≡ true → x ≡ true
chosen true x y h e = h
chosen false x y h e = absurd (let z : ◌≡◌ {A = ℕ} 0 1 = cc in omega arith)

left : (b : Bool) (x y : Bool) → pick b x y ≡ true → b ≡ false → y ≡ true
left true x y h e = absurd (let z : ◌≡◌ {A = ℕ} 0 1 = cc in omega arith)
left false x y h e = h

vector_pair_lem : (op : PairOp) → eqb (pair_vector op) 1 ≡ true → pair_extent op ≡ pair_bytes op
unfolding pair_test
vector_pair_lem op e = eqb-true (pair_extent op) (pair_bytes op) (chosen (eqb (pair_vector op) 1) (eqb (pair_extent op) (pair_bytes op)) _ (each_pair pair_test refl op) e)

general_pair : (op : PairOp) → eqb (pair_vector op) 1 ≡ false → (pair_bytes op ≤ pair_extent op) × (pair_extent op ≤ 8)
unfolding pair_test
general_pair op e =
    let t = both (leb (pair_bytes op) (pair_extent op)) (leb (pair_extent op) 8) (left (eqb (pair_vector op) 1) _ _ (each_pair pair_test refl op) e) in
    (leb-true (pair_bytes op) (pair_extent op) t.0, leb-true (pair_extent op) 8 t.1)

pair : (op : PairOp) (first second : ℕ) → first < 32 → second < 32 → Bounded (pair_transfer op first second)
unfolding pair_transfer slot_of
pair op first second h i =
    double (eqb (pair_vector op) 1) (eqb (pair_load op) 0) (pair_bytes op) (pair_extent op) first second (paired op).most (vector_pair_lem op) (general_pair op) h i

at_most : (size : AccessSize) → access_bytes size ≤ 8
at_most AccessSize.Byte = omega arith
at_most AccessSize.Half = omega arith
at_most AccessSize.Word = omega arith
at_most AccessSize.Double = omega arith

monitored : (store exclusive : Bool) (size : AccessSize) (target : ℕ) → target < 32 → Bounded (monitored_transfer store exclusive size target)
unfolding monitored_transfer
monitored store exclusive size target h = general (monitored_transfer store exclusive size target) (omega arith) (omega arith) (at_most size) (zero_plain target h) refl

in_literal : (offset : ℕ) → Placed (literal_mode offset)
unfolding literal_mode
in_literal offset = record { base = refl; index = refl; written = refl }

literal_moves_lem : (bytes extent : ℕ) (o : LiteralOperands) → o.target < 32 → bytes ≤ extent → extent ≤ 8 → Within (literal_moves 0 bytes extent o)
unfolding literal_moves literal_transfer slot_of
literal_moves_lem bytes extent o h a b = (general (literal_transfer 0 bytes extent o.target) a (omega arith) b (zero_plain o.target h) refl, in_literal _)

literal_fills : (bytes : ℕ) (o : LiteralOperands) → bytes ≤ 16 → Within (literal_moves 1 bytes bytes o)
unfolding literal_moves literal_transfer slot_of
literal_fills bytes o m = (vector (literal_transfer 1 bytes bytes o.target) (inr refl) (inl refl) m (vector_slot_lem o.target) (omega arith), in_literal _)

literal : (op : LiteralOp) (o : LiteralOperands) → o.target < 32 → Within (literal_access op o)
literal LiteralOp.LiteralWord o h = literal_moves_lem 4 4 o h (omega arith) (omega arith)
literal LiteralOp.LiteralDouble o h = literal_moves_lem 8 8 o h (omega arith) (omega arith)
literal LiteralOp.LiteralSignedWord o h = literal_moves_lem 4 8 o h (omega arith) (omega arith)
literal LiteralOp.LiteralPrefetch o h = tt
literal LiteralOp.LiteralVectorWord o h = literal_fills 4 o (omega arith)
literal LiteralOp.LiteralVectorDouble o h = literal_fills 8 o (omega arith)
literal LiteralOp.LiteralVectorQuad o h = literal_fills 16 o (omega arith)

-- ---- addresses

in_based : (base offset : ℕ) (post : Bool) (written : ℕ) → base < 32 → Plain written → Placed (based base offset post written)
unfolding based
in_based base offset post written h p = record { base = plain_low base h; index = refl; written = p }

in_pair : (mode : PairMode) (base offset : ℕ) → base < 32 → Placed (paired_mode mode base offset)
in_pair PairMode.NoAllocate base offset h = in_based base offset false 64 h refl
in_pair PairMode.Post base offset h = in_based base offset true base h (plain_low base h)
in_pair PairMode.Offset base offset h = in_based base offset false 64 h refl
in_pair PairMode.Pre base offset h = in_based base offset false base h (plain_low base h)

in_index : (op : SizedOp) (o : IndexOperands) → o.base < 32 → o.index < 32 → Placed (indexed_mode op o)
unfolding indexed_mode
in_index op o h i = record { base = plain_low o.base h; index = zero_plain o.index i; written = refl }

-- what holds of the transfer of each kind of operation holds of the access of every word
module _ (P : Transfer → Type 0) (sized : (op : SizedOp) (target : ℕ) (ordered : Bool) → target < 32 → P (sized_transfer op target ordered))
    (pair : (op : PairOp) (first second : ℕ) → first < 32 → second < 32 → P (pair_transfer op first second))
    (literal : (op : LiteralOp) (o : LiteralOperands) → o.target < 32 → Of P (literal_access op o))
    (monitored : (store exclusive : Bool) (size : AccessSize) (target : ℕ) → target < 32 → P (monitored_transfer store exclusive size target)) where
  moves : (op : SizedOp) (target : ℕ) (ordered : Bool) (a : Addressing) → target < 32 → Placed a → Of P (sized_access op target ordered a)
  unfolding sized_access
  moves op target ordered a h p = pick_by (Of P) (is_prefetch op) (λ q. tt) (λ q. (sized op target ordered h, p))

  family : (f : Family) → fields.Bounded f → Of P (family_access f)
  unfolding pair_access exclusive_access exclusive_transfer store_exclusive_access
  family Family.Empty b = tt
  family (Family.Literal op o) b = literal op o b.target
  family (Family.Pair op o) b = (pair op o.first o.second b.first b.second, in_pair o.mode o.base _ b.base)
  family (Family.Ordered op o) b = moves op o.target true _ b.target (in_based o.base _ false 64 b.base refl)
  family (Family.Unscaled op o) b = moves op o.target false _ b.target (in_based o.base _ false 64 b.base refl)
  family (Family.PostIndex op o) b = moves op o.target false _ b.target (in_based o.base _ true o.base b.base (plain_low o.base b.base))
  family (Family.PreIndex op o) b = moves op o.target false _ b.target (in_based o.base _ false o.base b.base (plain_low o.base b.base))
  family (Family.Register op o) b = moves op o.target false _ b.target (in_index op o b.base b.index)
  family (Family.Unsigned op o) b = moves op o.target false _ b.target (in_based o.base _ false 64 b.base refl)
  family (Family.Exclusive op o) b = (monitored _ _ o.size o.target b.target, in_based o.base 0 false 64 b.base refl)
  family (Family.StoreExclusive op o) b =
      (monitored true true o.size o.target b.target, in_based o.base 0 false (zero_slot o.status) b.base (zero_plain o.status b.status))

  each_word : (w : ℕ) → Of P (word_access w)
  unfolding access_of decode_of instruction_of
  each_word w = pick_by (λ i. Of P (access_of i)) (allocated w) (λ e. family ((columns_of (row_of w)).family w) (bounded_in w (row_of w))) (λ e. tt)

pub bounded : (w : ℕ) → Within (word_access w)
bounded w = each_word Bounded sized pair literal monitored w

-- ---- a byte at least

some_sized : (op : SizedOp) (target : ℕ) (ordered : Bool) → target < 32 → 0 < (sized_transfer op target ordered).bytes
unfolding sized_transfer
some_sized op target ordered h = leb-true _ _ (each_sized (λ op. leb 1 (sized_bytes op)) refl op)

some_pair : (op : PairOp) (first second : ℕ) → first < 32 → second < 32 → 0 < (pair_transfer op first second).bytes
unfolding pair_transfer
some_pair op first second h i = (paired op).some

some_monitored : (store exclusive : Bool) (size : AccessSize) (target : ℕ) → target < 32 → 0 < (monitored_transfer store exclusive size target).bytes
unfolding monitored_transfer
some_monitored store exclusive AccessSize.Byte target h = omega arith
some_monitored store exclusive AccessSize.Half target h = omega arith
some_monitored store exclusive AccessSize.Word target h = omega arith
some_monitored store exclusive AccessSize.Double target h = omega arith

some_literal : (op : LiteralOp) (o : LiteralOperands) → o.target < 32 → Moving (literal_access op o)
unfolding literal_moves literal_transfer
some_literal LiteralOp.LiteralWord o h = (omega arith, in_literal _)
some_literal LiteralOp.LiteralDouble o h = (omega arith, in_literal _)
some_literal LiteralOp.LiteralSignedWord o h = (omega arith, in_literal _)
some_literal LiteralOp.LiteralPrefetch o h = tt
some_literal LiteralOp.LiteralVectorWord o h = (omega arith, in_literal _)
some_literal LiteralOp.LiteralVectorDouble o h = (omega arith, in_literal _)
some_literal LiteralOp.LiteralVectorQuad o h = (omega arith, in_literal _)

pub moving : (w : ℕ) → Moving (word_access w)
moving w = each_word (λ t. 0 < t.bytes) some_sized some_pair some_literal some_monitored w
