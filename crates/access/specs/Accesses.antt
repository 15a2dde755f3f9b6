-- The access of an instruction: 01, "What a word says", and 02, CR 3 and CR 12.
use Rattle.std.specs.Prelude.{ℕ, Bool, true, false, eqb}
use Rattle.bits.specs.Choice.{pick}
use Rattle.bits.specs.Signed.{twos_complement}
use Rattle.instruction.specs.declared.family.Instruction.{Instruction}
use Rattle.instruction.specs.declared.family.Family.{Family}
use Rattle.instruction.specs.declared.family.LiteralOperands.{LiteralOperands}
use Rattle.instruction.specs.declared.family.PairOperands.{PairOperands}
use Rattle.instruction.specs.declared.family.ExclusiveOperands.{ExclusiveOperands}
use Rattle.instruction.specs.declared.family.StoreExclusiveOperands.{StoreExclusiveOperands}
use Rattle.instruction.specs.declared.operation.SizedOp.{SizedOp}
use Rattle.instruction.specs.declared.operation.PairOp.{PairOp}
use Rattle.instruction.specs.declared.operation.LiteralOp.{LiteralOp}
use Rattle.instruction.specs.declared.exclusive.ExclusiveOp.{ExclusiveOp}
use Rattle.instruction.specs.Operations.{sized_code}
use Rattle.decoder.specs.Decoding.{decode_of}
use Rattle.registers.specs.File.{zero_slot}
use Rattle.access.specs.declared.addressing.Addressing.{Addressing}
use Rattle.access.specs.declared.Access.{Access}
use Rattle.access.specs.Transfers.{sized_transfer, literal_transfer, pair_transfer, exclusive_transfer, store_exclusive_transfer}
use Rattle.access.specs.Addressings.{based, offset_mode, pre_mode, post_mode, paired_mode, indexed_mode, literal_mode}

unfoldable pub is_prefetch : SizedOp → Bool
is_prefetch op = eqb (sized_code op) 0b0_11_10

-- a prefetch looks at no register
unfoldable pub sized_access : SizedOp → ℕ → Bool → Addressing → Access
sized_access op target ordered a = pick (is_prefetch op) Access.Nothing (Access.Moves (sized_transfer op target ordered) a)

unfoldable pub literal_moves : ℕ → ℕ → ℕ → LiteralOperands → Access
literal_moves vector bytes extent o = Access.Moves (literal_transfer vector bytes extent o.target) (literal_mode (twos_complement o.offset))

abbrev pub literal_access : LiteralOp → LiteralOperands → Access
literal_access LiteralOp.LiteralWord o = literal_moves 0 4 4 o
literal_access LiteralOp.LiteralDouble o = literal_moves 0 8 8 o
literal_access LiteralOp.LiteralSignedWord o = literal_moves 0 4 8 o
literal_access LiteralOp.LiteralPrefetch o = Access.Nothing
literal_access LiteralOp.LiteralVectorWord o = literal_moves 1 4 4 o
literal_access LiteralOp.LiteralVectorDouble o = literal_moves 1 8 8 o
literal_access LiteralOp.LiteralVectorQuad o = literal_moves 1 16 16 o

unfoldable pub pair_access : PairOp → PairOperands → Access
pair_access op o = Access.Moves (pair_transfer op o.first o.second) (paired_mode o.mode o.base (twos_complement o.offset))

-- the place is the base alone
unfoldable pub exclusive_access : ExclusiveOp → ExclusiveOperands → Access
exclusive_access op o = Access.Moves (exclusive_transfer op o.size o.target) (offset_mode o.base 0)

-- the status is written where another access writes its base back
unfoldable pub store_exclusive_access : StoreExclusiveOperands → Access
store_exclusive_access o = Access.Moves (store_exclusive_transfer o.size o.target) (based o.base 0 false (zero_slot o.status))

abbrev pub family_access : Family → Access
family_access Family.Empty = Access.Nothing
family_access (Family.Literal op o) = literal_access op o
family_access (Family.Pair op o) = pair_access op o
family_access (Family.Ordered op o) = sized_access op o.target true (offset_mode o.base (twos_complement o.offset))
family_access (Family.Unscaled op o) = sized_access op o.target false (offset_mode o.base (twos_complement o.offset))
family_access (Family.PostIndex op o) = sized_access op o.target false (post_mode o.base (twos_complement o.offset))
family_access (Family.PreIndex op o) = sized_access op o.target false (pre_mode o.base (twos_complement o.offset))
family_access (Family.Register op o) = sized_access op o.target false (indexed_mode op o)
family_access (Family.Unsigned op o) = sized_access op o.target false (offset_mode o.base (twos_complement o.offset))
family_access (Family.Exclusive op o) = exclusive_access op o
family_access (Family.StoreExclusive op o) = store_exclusive_access o

unfoldable pub access_of : Instruction → Access
access_of i = family_access i.family

-- the access of a word
abbrev pub word_access : ℕ → Access
word_access w = access_of (decode_of w).instruction
