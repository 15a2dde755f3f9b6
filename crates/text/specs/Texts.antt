-- The line of text of an instruction: 01, "Lines of text", and 02, CR 3 and CR 12.
use Rattle.std.specs.Prelude.{ℕ, ◌+◌, ◌%◌, Bool, ◌&&◌, List, [], ◌∷◌, ◌++◌, eqb, ltb, ℤ, nat_abs}
use Rattle.bits.specs.Choice.{pick}
use Rattle.ascii.specs.Ascii.{asc, dec, signed_dec}
use Rattle.text.specs.Hints.{hint_text}
use Rattle.mnemonic.specs.Operands.{Operand, Narrow, Wide, Hint, VectorB, VectorH, VectorS, VectorD, VectorQ, sized_operand, literal_operand, pair_operand, access_operand}
use Rattle.mnemonic.specs.Mnemonics.{plain_name, unscaled_name, ordered_name, literal_name, pair_name, exclusive_name}
use Rattle.instruction.specs.declared.exclusive.ExclusiveOp.{ExclusiveOp}
use Rattle.instruction.specs.declared.exclusive.StoreExclusiveOp.{StoreExclusiveOp}
use Rattle.instruction.specs.declared.operation.SizedOp.{SizedOp}
use Rattle.instruction.specs.declared.operation.LiteralOp.{LiteralOp}
use Rattle.instruction.specs.declared.operation.PairOp.{PairOp}
use Rattle.instruction.specs.declared.operation.PairMode.{PairMode}
use Rattle.instruction.specs.declared.operation.PairMode.TheVariants.{NoAllocate, Post, Offset, Pre}
use Rattle.instruction.specs.declared.family.Instruction.{Instruction}
use Rattle.instruction.specs.declared.family.LiteralOperands.{LiteralOperands}
use Rattle.instruction.specs.declared.family.PairOperands.{PairOperands}
use Rattle.instruction.specs.declared.family.IndexOperands.{IndexOperands}
use Rattle.instruction.specs.declared.family.ExclusiveOperands.{ExclusiveOperands}
use Rattle.instruction.specs.declared.family.StoreExclusiveOperands.{StoreExclusiveOperands}
use Rattle.instruction.specs.declared.family.Family.{Family}
use Rattle.instruction.specs.declared.family.Family.TheVariants.{Empty, Literal, Pair, Ordered, Unscaled, PostIndex, PreIndex, Register, Unsigned, Exclusive, StoreExclusive}
use Rattle.instruction.specs.Operations.{scale_of, exclusive_code, store_exclusive_code}
use Rattle.instruction.specs.Table.{instruction_of}

-- ---- registers

-- 31 is the zero register with a w or an x, which come behind a vector's letters; of a vector "31 is a register like any other"
abbrev pub is_zero : ℕ → ℕ → Bool
is_zero letter r = ltb 118 letter && eqb r 31

-- a letter, and a number or zr
unfoldable pub register_text : ℕ → ℕ → List ℕ
register_text letter r = (letter ∷ []) ++ pick (is_zero letter r) (asc "zr") (dec r)

-- 31 is the stack pointer
unfoldable pub base_text : ℕ → List ℕ
base_text r = pick (eqb r 31) (asc "sp") (asc "x" ++ dec r)

abbrev pub operand_text : Operand → ℕ → List ℕ
operand_text Narrow r = register_text 119 r
operand_text Wide r = register_text 120 r
operand_text Hint r = hint_text r
operand_text VectorB r = register_text 98 r
operand_text VectorH r = register_text 104 r
operand_text VectorS r = register_text 115 r
operand_text VectorD r = register_text 100 r
operand_text VectorQ r = register_text 113 r

-- ---- what stands behind the base

-- an offset of 0 is not shown
unfoldable pub offset_tail : ℤ → List ℕ
offset_tail z = pick (eqb (nat_abs z) 0) (asc "]") (asc ", #" ++ signed_dec z ++ asc "]")

unfoldable pub pre_tail : ℤ → List ℕ
pre_tail z = asc ", #" ++ signed_dec z ++ asc "]!"

unfoldable pub post_tail : ℤ → List ℕ
post_tail z = asc "], #" ++ signed_dec z

abbrev pub pair_tail : PairMode → ℤ → List ℕ
pair_tail NoAllocate z = offset_tail z
pair_tail Post z = post_tail z
pair_tail Offset z = offset_tail z
pair_tail Pre z = pre_tail z

-- option 010, 110, or 111
unfoldable pub extend_name : ℕ → List ℕ
extend_name option = pick (eqb option 0b010) (asc "uxtw") (pick (eqb option 0b110) (asc "sxtw") (asc "sxtx"))

-- the amount is shown exactly if S is 1
unfoldable pub amount_text : ℕ → ℕ → List ℕ
amount_text scaled amount = pick (eqb scaled 1) (asc " #" ++ dec amount) []

-- option 011 is lsl, and is left out with the amount
unfoldable pub extend_text : ℕ → ℕ → ℕ → List ℕ
extend_text option scaled amount =
    pick (eqb option 0b011) (pick (eqb scaled 1) (asc ", lsl" ++ amount_text scaled amount) [])
    (asc ", " ++ extend_name option ++ amount_text scaled amount)

-- the index is Wm if option bit 0 is 0, else Xm
unfoldable pub index_tail : SizedOp → IndexOperands → List ℕ
index_tail op o =
    asc ", " ++ register_text (119 + o.option % 2) o.index ++ extend_text o.option o.scaled (scale_of op) ++ asc "]"

-- ---- lines

-- a mnemonic and the first operand
unfoldable pub front_text : List ℕ → Operand → ℕ → List ℕ
front_text name operand r = name ++ asc " " ++ operand_text operand r ++ asc ", "

unfoldable pub literal_text : LiteralOp → LiteralOperands → List ℕ
literal_text op o = front_text (literal_name op) (literal_operand op) o.target ++ asc "#" ++ signed_dec o.offset

unfoldable pub pair_text : PairOp → PairOperands → List ℕ
pair_text op o =
    front_text (pair_name o.mode op) (pair_operand op) o.first ++ operand_text (pair_operand op) o.second
    ++ asc ", [" ++ base_text o.base ++ pair_tail o.mode o.offset

unfoldable pub sized_text : List ℕ → SizedOp → ℕ → ℕ → List ℕ → List ℕ
sized_text name op target base tail = front_text name (sized_operand op) target ++ asc "[" ++ base_text base ++ tail

unfoldable pub exclusive_text : ExclusiveOp → ExclusiveOperands → List ℕ
exclusive_text op o =
    front_text (exclusive_name (exclusive_code op) o.size) (access_operand o.size) o.target ++ asc "[" ++ base_text o.base ++ asc "]"

-- the status, always a w, and the data
unfoldable pub store_exclusive_text : StoreExclusiveOp → StoreExclusiveOperands → List ℕ
store_exclusive_text op o =
    front_text (exclusive_name (store_exclusive_code op) o.size) Narrow o.status ++ operand_text (access_operand o.size) o.target
    ++ asc ", [" ++ base_text o.base ++ asc "]"

abbrev pub family_text : Family → List ℕ
family_text Empty = []
family_text (Literal op o) = literal_text op o
family_text (Pair op o) = pair_text op o
family_text (Ordered op o) = sized_text (ordered_name op) op o.target o.base (offset_tail o.offset)
family_text (Unscaled op o) = sized_text (unscaled_name op) op o.target o.base (offset_tail o.offset)
family_text (PostIndex op o) = sized_text (plain_name op) op o.target o.base (post_tail o.offset)
family_text (PreIndex op o) = sized_text (plain_name op) op o.target o.base (pre_tail o.offset)
family_text (Register op o) = sized_text (plain_name op) op o.target o.base (index_tail op o)
family_text (Unsigned op o) = sized_text (plain_name op) op o.target o.base (offset_tail o.offset)
family_text (Exclusive op o) = exclusive_text op o
family_text (StoreExclusive op o) = store_exclusive_text op o

unfoldable pub text_of : Instruction → List ℕ
text_of i = family_text i.family

-- the text of an allocated word
unfoldable pub word_text : ℕ → List ℕ
word_text w = text_of (instruction_of w)

-- the most bytes that the text of an allocated word has: 02, CR 4, with the names of CR 7
abbrev pub text_most : ℕ
text_most = 35
