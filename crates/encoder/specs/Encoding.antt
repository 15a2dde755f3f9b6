-- The word of an instruction, and what encoding answers: 01, "What a word says", answer 11; 02, CR 3 and CR 12.
use Rattle.std.specs.Prelude.{ℕ, Option, Some, None, Result, Ok, Err, ◌+◌, ◌/◌, ◌%◌, List, [], ◌∷◌, eqb}
use Rattle.bits.specs.Choice.{pick}
use Rattle.bits.specs.Fields.{Bits, bits, fit, placed}
use Rattle.bits.specs.Signed.{bits_of, plain_bits_of}
use Rattle.instruction.specs.declared.answer.Answer.{Answer}
use Rattle.instruction.specs.Encoded.{Encoded}
use Rattle.instruction.specs.declared.row.Row.{Row}
use Rattle.instruction.specs.declared.exclusive.AccessSize.{AccessSize}
use Rattle.instruction.specs.declared.operation.LiteralOp.{LiteralOp}
use Rattle.instruction.specs.declared.operation.PairOp.{PairOp}
use Rattle.instruction.specs.declared.operation.SizedOp.{SizedOp}
use Rattle.instruction.specs.declared.family.Family.{Family}
use Rattle.instruction.specs.declared.family.Instruction.{Instruction}
use Rattle.instruction.specs.declared.family.LiteralOperands.{LiteralOperands}
use Rattle.instruction.specs.declared.family.PairOperands.{PairOperands}
use Rattle.instruction.specs.declared.family.OffsetOperands.{OffsetOperands}
use Rattle.instruction.specs.declared.family.IndexOperands.{IndexOperands}
use Rattle.instruction.specs.Table.{columns_of, allocated}
use Rattle.instruction.specs.Operations.{vector_of, size_of, opc_of, sized_bytes, literal_vector, literal_opc, pair_vector, pair_opc, pair_load, mode_code, pair_bytes, exclusive_code, store_exclusive_code, access_scale}

-- the fixed bits of a row
abbrev pub fixed : Row → ℕ
fixed r = placed (columns_of r).fixed

-- the word of these fields beside the fixed bits, if each has room
unfoldable pub word_with : ℕ → List Bits → Option ℕ
word_with f fs = pick (fit fs) (Some (f + placed fs)) None

-- the word that an offset's bits are put into
abbrev pub with_bits : Option ℕ → (ℕ → Option ℕ) → Option ℕ
with_bits (Some b) f = f b
with_bits None f = None

-- imm19
abbrev pub literal_fields : LiteralOp → ℕ → ℕ → List Bits
literal_fields op target imm19 = bits 31 30 (literal_opc op) ∷ bits 26 26 (literal_vector op) ∷ bits 4 0 target ∷ bits 23 5 imm19 ∷ []

unfoldable pub literal_word : LiteralOp → LiteralOperands → Option ℕ
literal_word op o = with_bits (bits_of 262144 4 o.offset) (λ b. word_with (fixed Row.LiteralRow) (literal_fields op o.target b))

-- mode, L, imm7 and Rt2
abbrev pub pair_fields : PairOp → PairOperands → ℕ → List Bits
pair_fields op o imm7 =
    bits 31 30 (pair_opc op) ∷ bits 26 26 (pair_vector op) ∷ bits 24 23 (mode_code o.mode) ∷ bits 22 22 (pair_load op) ∷ bits 9 5 o.base
    ∷ bits 4 0 o.first ∷ bits 14 10 o.second ∷ bits 21 15 imm7 ∷ []

unfoldable pub pair_word : PairOp → PairOperands → Option ℕ
pair_word op o = with_bits (bits_of 64 (pair_bytes op) o.offset) (λ b. word_with (fixed Row.PairRow) (pair_fields op o b))

-- the families with a size, and their own fields
abbrev pub sized_fields : SizedOp → ℕ → ℕ → List Bits → List Bits
sized_fields op base target own =
    bits 31 30 (size_of op) ∷ bits 26 26 (vector_of op) ∷ bits 23 22 (opc_of op) ∷ bits 9 5 base ∷ bits 4 0 target ∷ own

-- imm9, in four families
unfoldable pub signed_word : ℕ → SizedOp → OffsetOperands → Option ℕ
signed_word f op o =
    with_bits (bits_of 256 1 o.offset) (λ b. word_with f (sized_fields op o.base o.target (bits 20 12 b ∷ [])))

-- ordered with bit 26 = 1 stays outside
unfoldable pub ordered_word : SizedOp → OffsetOperands → Option ℕ
ordered_word op o = pick (eqb (vector_of op) 0) (signed_word (fixed Row.OrderedRow) op o) None

-- Rm, option and S
abbrev pub index_fields : IndexOperands → List Bits
index_fields o = bits 20 16 o.index ∷ bits 15 13 o.option ∷ bits 12 12 o.scaled ∷ []

unfoldable pub index_word : SizedOp → IndexOperands → Option ℕ
index_word op o = word_with (fixed Row.RegisterRow) (sized_fields op o.base o.target (index_fields o))

-- imm12
unfoldable pub unsigned_word : SizedOp → OffsetOperands → Option ℕ
unsigned_word op o =
    with_bits (plain_bits_of 4096 (sized_bytes op) o.offset)
    (λ b. word_with (fixed Row.UnsignedRow) (sized_fields op o.base o.target (bits 21 10 b ∷ [])))

-- the ninth family: bit 23, L and bit 15 by the operation, Rs, and Rt2, which is unused; of the bits that its rows fix, those
-- that are the same in all stand in that of the store-exclusives
abbrev pub exclusive_fields : ℕ → AccessSize → ℕ → ℕ → ℕ → List Bits
exclusive_fields code size status target base =
    bits 31 30 (access_scale size) ∷ bits 23 23 (code / 4) ∷ bits 22 22 (code / 2 % 2) ∷ bits 20 16 status ∷ bits 15 15 (code % 2)
    ∷ bits 14 10 31 ∷ bits 9 5 base ∷ bits 4 0 target ∷ []

unfoldable pub exclusive_word : ℕ → AccessSize → ℕ → ℕ → ℕ → Option ℕ
exclusive_word code size status target base = word_with (fixed Row.StoreExclusiveRow) (exclusive_fields code size status target base)

-- the word with the fields of a family, if they are in range
abbrev pub word_of : Family → Option ℕ
word_of Family.Empty = None
word_of (Family.Literal op o) = literal_word op o
word_of (Family.Pair op o) = pair_word op o
word_of (Family.Ordered op o) = ordered_word op o
word_of (Family.Unscaled op o) = signed_word (fixed Row.UnscaledRow) op o
word_of (Family.PostIndex op o) = signed_word (fixed Row.PostRow) op o
word_of (Family.PreIndex op o) = signed_word (fixed Row.PreRow) op o
word_of (Family.Register op o) = index_word op o
word_of (Family.Unsigned op o) = unsigned_word op o
word_of (Family.Exclusive op o) = exclusive_word (exclusive_code op) o.size 31 o.target o.base
word_of (Family.StoreExclusive op o) = exclusive_word (store_exclusive_code op) o.size o.status o.target o.base

-- what a result says of an instruction
abbrev pub as_encoded : Result ℕ Answer → Encoded
as_encoded (Ok w) = record { answer = Answer.Done; word = w }
as_encoded (Err a) = record { answer = a; word = 0 }

-- an undefined combination has no word
abbrev pub encoded_as : Option ℕ → Encoded
encoded_as (Some w) = record { answer = pick (allocated w) Answer.Done Answer.NoSuchInstruction; word = pick (allocated w) w 0 }
encoded_as None = record { answer = Answer.NoSuchInstruction; word = 0 }

unfoldable pub encode_of : Instruction → Encoded
encode_of i = encoded_as (word_of i.family)
