-- The operation and the operands of a word: 01, "What a word says" and the column "Fields" of its table; 02, CR 3 and CR 12.
use Rattle.std.specs.Prelude.{ℕ, ◌+◌, ◌*◌, pos}
use Rattle.bits.specs.Fields.{field}
use Rattle.bits.specs.Signed.{signed_of}
use Rattle.instruction.specs.Types.{LiteralOperands, PairOperands, OffsetOperands, IndexOperands, ExclusiveOperands, StoreExclusiveOperands, SizedOp, LiteralOp, PairOp, ExclusiveOp, StoreExclusiveOp}
use Rattle.instruction.specs.Undefined.{size_opc, literal_bits}
use Rattle.instruction.specs.Operations.{sized_at, literal_at, pair_at, mode_at, exclusive_at, store_exclusive_at, size_at, sized_bytes, pair_bytes}

-- Rt is bits 4..0 and Rn bits 9..5
unfoldable pub sized_in : ℕ → SizedOp
sized_in w = sized_at (size_opc w)

unfoldable pub literal_op_in : ℕ → LiteralOp
literal_op_in w = literal_at (literal_bits w)

-- imm19, times 4
unfoldable pub literal_in : ℕ → LiteralOperands
literal_in w = record { target = field 4 0 w; offset = signed_of 262144 4 (field 23 5 w) }

-- bit 26, opc and L
abbrev pub pair_bits : ℕ → ℕ
pair_bits w = field 26 26 w * 8 + field 31 30 w * 2 + field 22 22 w

unfoldable pub pair_op_in : ℕ → PairOp
pair_op_in w = pair_at (pair_bits w)

-- Rt2, mode, and imm7 times the bytes of one register's access
unfoldable pub pair_in : PairOp → ℕ → PairOperands
pair_in op w =
    record {
      first = field 4 0 w;
      second = field 14 10 w;
      base = field 9 5 w;
      mode = mode_at (field 24 23 w);
      offset = signed_of 64 (pair_bytes op) (field 21 15 w);
    }

-- imm9
unfoldable pub signed_in : ℕ → OffsetOperands
signed_in w = record { target = field 4 0 w; base = field 9 5 w; offset = signed_of 256 1 (field 20 12 w) }

-- Rm, option and S
unfoldable pub index_in : ℕ → IndexOperands
index_in w =
    record {
      target = field 4 0 w;
      base = field 9 5 w;
      index = field 20 16 w;
      option = field 15 13 w;
      scaled = field 12 12 w;
    }

-- imm12 without sign, times 2 ^ scale
unfoldable pub unsigned_in : SizedOp → ℕ → OffsetOperands
unsigned_in op w = record { target = field 4 0 w; base = field 9 5 w; offset = pos (field 21 10 w * sized_bytes op) }

-- bit 23, L and bit 15
abbrev pub exclusive_bits : ℕ → ℕ
exclusive_bits w = field 23 23 w * 4 + field 22 22 w * 2 + field 15 15 w

unfoldable pub exclusive_op_in : ℕ → ExclusiveOp
exclusive_op_in w = exclusive_at (exclusive_bits w)

unfoldable pub store_exclusive_op_in : ℕ → StoreExclusiveOp
store_exclusive_op_in w = store_exclusive_at (exclusive_bits w)

unfoldable pub exclusive_in : ℕ → ExclusiveOperands
exclusive_in w = record { size = size_at (field 31 30 w); target = field 4 0 w; base = field 9 5 w }

-- Rs is the status
unfoldable pub store_exclusive_in : ℕ → StoreExclusiveOperands
store_exclusive_in w = record { size = size_at (field 31 30 w); status = field 20 16 w; target = field 4 0 w; base = field 9 5 w }
