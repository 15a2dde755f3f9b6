-- The operands of an operation that aren't a place: a register of 32 bits (w), of 64 bits (x), the low 1, 2, 4 or 8
-- bytes of a vector register (b, h, s, d) or all 16 (q), or the hint of a prefetch.
use Rattle.std.specs.Prelude.{ℕ, ◌+◌, ◌||◌, [], ◌∷◌, ◌==◌, nat_lt}
use Rattle.bits.specs.Choice.{pick, lookup}
use Rattle.instruction.specs.Operations.{sized_code, vector_of, size_of, opc_of, scale_of, pair_vector, pair_opc, access_scale}
use Rattle.instruction.specs.declared.exclusive.AccessSize.{AccessSize}
use Rattle.instruction.specs.declared.operation.SizedOp.{SizedOp}
use Rattle.instruction.specs.declared.operation.LiteralOp.{LiteralOp}
use Rattle.instruction.specs.declared.operation.PairOp.{PairOp}
use Rattle.mnemonic.specs.Mnemonics.{literal_sized}

pub data Operand : Type 0 where
  Narrow : Operand
  Wide : Operand
  Hint : Operand
  VectorB : Operand
  VectorH : Operand
  VectorS : Operand
  VectorD : Operand
  VectorQ : Operand

-- w, x, # and b, h, s, d, q
abbrev pub letter_of : Operand → ℕ
letter_of Narrow = 119
letter_of Wide = 120
letter_of Hint = 35
letter_of VectorB = 98
letter_of VectorH = 104
letter_of VectorS = 115
letter_of VectorD = 100
letter_of VectorQ = 113

-- 2 ^ scale bytes of a vector register
abbrev pub vector_operand : ℕ → Operand
vector_operand scale = lookup VectorQ ((0, VectorB) ∷ (1, VectorH) ∷ (2, VectorS) ∷ (3, VectorD) ∷ []) scale

-- a prefetch has a hint; a doubleword, and what is signed to 64 bits, a register of 64
abbrev pub sized_operand : SizedOp → Operand
sized_operand op =
    pick (sized_code op == 0b0_11_10) Hint
    (pick (vector_of op == 1) (vector_operand (scale_of op)) (pick (size_of op == 0b11 || opc_of op == 0b10) Wide Narrow))

abbrev pub literal_operand : LiteralOp → Operand
literal_operand op = sized_operand (literal_sized op)

-- two words; of a vector 4 * 2 ^ opc bytes
abbrev pub pair_operand : PairOp → Operand
pair_operand op = pick (pair_vector op == 1) (vector_operand (2 + pair_opc op)) (pick (pair_opc op == 0b00) Narrow Wide)

-- the data of the ninth family: x only at 8 bytes
abbrev pub access_operand : AccessSize → Operand
access_operand size = pick (nat_lt (access_scale size) 0b11) Narrow Wide
