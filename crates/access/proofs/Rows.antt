-- The access of a word by its row, and which words have an exclusive one. Assumes nothing.
use Prim.Native.Nat.{ℕ, ◌^◌}
use mathlib.Core.Path.{◌≡◌, refl, ap}
use mathlib.Core.Bool.{Bool, true, false}
use native.Mathlib.Omega.{arith}
use borrow.Author.Tests.{lt-ltb, le-ltb}
use Rattle.bits.specs.Fields.{field}
use Rattle.bits.proofs.Choices.{pick_by}
use Rattle.bits.proofs.Parts.{Has, part_lt}
use Rattle.instruction.specs.declared.row.Row.{Row}
use Rattle.instruction.specs.declared.family.LiteralOperands.{LiteralOperands}
use Rattle.instruction.specs.declared.operation.SizedOp.{SizedOp}
use Rattle.instruction.specs.declared.operation.LiteralOp.{LiteralOp}
use Rattle.instruction.specs.Operations.{exclusive_code, exclusive_load, access_bytes, size_at}
use Rattle.instruction.specs.Operands.{sized_in, literal_op_in, literal_in, exclusive_bits, exclusive_op_in, exclusive_in}
use Rattle.instruction.specs.Table.{columns_of, in_set, row_of, undefined, allocated, instruction_of}
use Rattle.instruction.proofs.Codes.{exclusive_code_lem, scale_code}
use Rattle.decoder.specs.Decoding.{decode_of}
use Rattle.access.specs.declared.addressing.Addressing.{Addressing}
use Rattle.access.specs.declared.Access.{Access}
use Rattle.access.specs.Transfers.{sized_transfer, literal_transfer, pair_transfer, monitored_transfer, exclusive_transfer}
use Rattle.access.specs.Accesses.{is_prefetch, sized_access, literal_moves, literal_access, pair_access, exclusive_access, family_access, access_of, word_access}

pub row_access : (word : ℕ) → in_set word ≡ true → undefined word ≡ false → word_access word ≡ family_access ((columns_of (row_of word)).family word)
unfolding decode_of access_of allocated instruction_of
row_access word t u = rw (t, u)

-- the bytes of a word of the ninth family
pub bytes_in_lem : (word : ℕ) → access_bytes (size_at (field 31 30 word)) ≡ 2 ^ field 31 30 word
bytes_in_lem word = ap (λ (k : ℕ). 2 ^ k) (scale_code (field 31 30 word) (part_lt 30 2 word))

-- ---- exclusive accesses

-- the code of a load-exclusive, and of an acquire or a release
load_code : (word : ℕ) → field 23 23 word ≡ 0 → field 22 22 word ≡ 1 → exclusive_code (exclusive_op_in word) ≡ exclusive_bits word
unfolding exclusive_op_in
load_code word h k =
    let o = part_lt 15 1 word in
    exclusive_code_lem (exclusive_bits word) (omega arith) (omega arith) (λ e. omega arith) (λ e. omega arith)

other_code : (word : ℕ) → field 23 23 word ≡ 1 → field 15 15 word ≡ 1 → exclusive_code (exclusive_op_in word) ≡ exclusive_bits word
unfolding exclusive_op_in
other_code word h k =
    let l = part_lt 22 1 word in
    exclusive_code_lem (exclusive_bits word) (omega arith) (omega arith) (λ e. omega arith) (λ e. omega arith)

-- what a load-exclusive moves
pub load_exclusive_transfer : (word : ℕ) → Has word (columns_of Row.LoadExclusiveRow).fixed
    → exclusive_transfer (exclusive_op_in word) (exclusive_in word).size (field 4 0 word) ≡ monitored_transfer false true (exclusive_in word).size (field 4 0 word)
unfolding exclusive_transfer
load_exclusive_transfer word h =
    let o = part_lt 15 1 word in
    let code = load_code word h.1.1.1.0 h.1.1.1.1.0 in
    let load : exclusive_load (exclusive_op_in word) ≡ 1 = omega arith in
    rw (load, lt-ltb (exclusive_code (exclusive_op_in word)) 4 (omega arith))

-- an access that is not exclusive
abbrev pub Plain : Access → Type 0
Plain Access.Nothing = Unit {0}
Plain (Access.Moves t a) = t.exclusive ≡ false

sized_plain : (op : SizedOp) (target : ℕ) (ordered : Bool) (a : Addressing) → Plain (sized_access op target ordered a)
unfolding sized_access sized_transfer
sized_plain op target ordered a = pick_by Plain (is_prefetch op) (λ p. tt) (λ p. refl)

literal_plain_lem : (op : LiteralOp) (o : LiteralOperands) → Plain (literal_access op o)
unfolding literal_moves literal_transfer
literal_plain_lem LiteralOp.LiteralWord o = refl
literal_plain_lem LiteralOp.LiteralDouble o = refl
literal_plain_lem LiteralOp.LiteralSignedWord o = refl
literal_plain_lem LiteralOp.LiteralPrefetch o = tt
literal_plain_lem LiteralOp.LiteralVectorWord o = refl
literal_plain_lem LiteralOp.LiteralVectorDouble o = refl
literal_plain_lem LiteralOp.LiteralVectorQuad o = refl

-- a word of another row has none
pub plain_row : (word : ℕ) (r : Row) → Has word (columns_of r).fixed → ¬ (r ≡ Row.LoadExclusiveRow) → ¬ (r ≡ Row.StoreExclusiveRow)
    → Plain (family_access ((columns_of r).family word))
unfolding pair_access pair_transfer exclusive_access exclusive_transfer monitored_transfer
plain_row word Row.NoRow h l s = tt
plain_row word Row.LiteralRow h l s = literal_plain_lem (literal_op_in word) (literal_in word)
plain_row word Row.PairRow h l s = refl
plain_row word Row.OrderedRow h l s = sized_plain (sized_in word) _ _ _
plain_row word Row.UnscaledRow h l s = sized_plain (sized_in word) _ _ _
plain_row word Row.PostRow h l s = sized_plain (sized_in word) _ _ _
plain_row word Row.PreRow h l s = sized_plain (sized_in word) _ _ _
plain_row word Row.RegisterRow h l s = sized_plain (sized_in word) _ _ _
plain_row word Row.UnsignedRow h l s = sized_plain (sized_in word) _ _ _
plain_row word Row.LoadExclusiveRow h l s = absurd (l refl)
plain_row word Row.StoreExclusiveRow h l s = absurd (s refl)
plain_row word Row.AcquireReleaseRow h l s =
    let code = other_code word h.1.1.1.0 h.1.1.1.1.1.0 in
    le-ltb (exclusive_code (exclusive_op_in word)) 4 (omega arith)
