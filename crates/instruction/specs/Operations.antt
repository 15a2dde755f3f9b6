-- The operations of the families, by their codes: 01, "What a word says", and 02, CR 3.
use Rattle.std.specs.Prelude.{ℕ, ◌*◌, ◌/◌, ◌%◌, ◌^◌, Bool, List, [], ◌∷◌, eqb}
use Rattle.bits.specs.Choice.{pick, lookup, by_code}
use Rattle.instruction.specs.Types.{SizedOp, LiteralOp, PairOp, PairMode, AccessSize, ExclusiveOp, StoreExclusiveOp}

-- bit 26, size and opc of an operation side by side, as one number of five bits
abbrev pub sized_code : SizedOp → ℕ
sized_code SizedOp.StoreByte = 0b00_00
sized_code SizedOp.LoadByte = 0b00_01
sized_code SizedOp.LoadSignedByte64 = 0b00_10
sized_code SizedOp.LoadSignedByte32 = 0b00_11
sized_code SizedOp.StoreHalf = 0b01_00
sized_code SizedOp.LoadHalf = 0b01_01
sized_code SizedOp.LoadSignedHalf64 = 0b01_10
sized_code SizedOp.LoadSignedHalf32 = 0b01_11
sized_code SizedOp.StoreWord = 0b10_00
sized_code SizedOp.LoadWord = 0b10_01
sized_code SizedOp.LoadSignedWord64 = 0b10_10
sized_code SizedOp.StoreDouble = 0b11_00
sized_code SizedOp.LoadDouble = 0b11_01
sized_code SizedOp.Prefetch = 0b11_10
sized_code SizedOp.StoreVectorByte = 0b1_00_00
sized_code SizedOp.LoadVectorByte = 0b1_00_01
sized_code SizedOp.StoreVectorQuad = 0b1_00_10
sized_code SizedOp.LoadVectorQuad = 0b1_00_11
sized_code SizedOp.StoreVectorHalf = 0b1_01_00
sized_code SizedOp.LoadVectorHalf = 0b1_01_01
sized_code SizedOp.StoreVectorWord = 0b1_10_00
sized_code SizedOp.LoadVectorWord = 0b1_10_01
sized_code SizedOp.StoreVectorDouble = 0b1_11_00
sized_code SizedOp.LoadVectorDouble = 0b1_11_01

-- the three fields of a word, and the scale: an access has 2 ^ scale bytes, which multiplies offsets and shifts an index;
-- 02, CR 12: "at 16 bytes scale, shift and text take 4 for size"
abbrev pub vector_of : SizedOp → ℕ
vector_of op = sized_code op / 16

abbrev pub size_of : SizedOp → ℕ
size_of op = sized_code op / 4 % 4

abbrev pub opc_of : SizedOp → ℕ
opc_of op = sized_code op % 4

abbrev pub scale_of : SizedOp → ℕ
scale_of op = pick (eqb (sized_code op / 2) 0b1_00_1) 4 (size_of op)

-- opc 00 stores, and of a vector 10 too
abbrev pub sized_stores : SizedOp → Bool
sized_stores op = pick (eqb (vector_of op) 1) (eqb (opc_of op % 2) 0) (eqb (opc_of op) 0b00)

-- the bytes of one access
abbrev pub sized_bytes : SizedOp → ℕ
sized_bytes op = 2 ^ scale_of op

-- the operation of a code; what the list leaves is the prefetch, and the undefined codes
abbrev pub sized_ops : List SizedOp
sized_ops =
    SizedOp.StoreByte ∷ SizedOp.LoadByte ∷ SizedOp.LoadSignedByte64 ∷ SizedOp.LoadSignedByte32
    ∷ SizedOp.StoreHalf ∷ SizedOp.LoadHalf ∷ SizedOp.LoadSignedHalf64 ∷ SizedOp.LoadSignedHalf32
    ∷ SizedOp.StoreWord ∷ SizedOp.LoadWord ∷ SizedOp.LoadSignedWord64
    ∷ SizedOp.StoreDouble ∷ SizedOp.LoadDouble
    ∷ SizedOp.StoreVectorByte ∷ SizedOp.LoadVectorByte ∷ SizedOp.StoreVectorQuad ∷ SizedOp.LoadVectorQuad
    ∷ SizedOp.StoreVectorHalf ∷ SizedOp.LoadVectorHalf ∷ SizedOp.StoreVectorWord ∷ SizedOp.LoadVectorWord
    ∷ SizedOp.StoreVectorDouble ∷ SizedOp.LoadVectorDouble ∷ []

unfoldable pub sized_at : ℕ → SizedOp
sized_at code = lookup SizedOp.Prefetch (by_code sized_code sized_ops) code

-- bit 26 and the opc of a literal side by side
abbrev pub literal_code : LiteralOp → ℕ
literal_code LiteralOp.LiteralWord = 0b00
literal_code LiteralOp.LiteralDouble = 0b01
literal_code LiteralOp.LiteralSignedWord = 0b10
literal_code LiteralOp.LiteralPrefetch = 0b11
literal_code LiteralOp.LiteralVectorWord = 0b1_00
literal_code LiteralOp.LiteralVectorDouble = 0b1_01
literal_code LiteralOp.LiteralVectorQuad = 0b1_10

abbrev pub literal_vector : LiteralOp → ℕ
literal_vector op = literal_code op / 4

abbrev pub literal_opc : LiteralOp → ℕ
literal_opc op = literal_code op % 4

-- what the list leaves is the prefetch, and the undefined code
abbrev pub literal_ops : List LiteralOp
literal_ops =
    LiteralOp.LiteralWord ∷ LiteralOp.LiteralDouble ∷ LiteralOp.LiteralSignedWord
    ∷ LiteralOp.LiteralVectorWord ∷ LiteralOp.LiteralVectorDouble ∷ LiteralOp.LiteralVectorQuad ∷ []

unfoldable pub literal_at : ℕ → LiteralOp
literal_at code = lookup LiteralOp.LiteralPrefetch (by_code literal_code literal_ops) code

-- bit 26, opc and L of a pair side by side
abbrev pub pair_code : PairOp → ℕ
pair_code PairOp.StoreWords = 0b00_0
pair_code PairOp.LoadWords = 0b00_1
pair_code PairOp.LoadSignedWords = 0b01_1
pair_code PairOp.StoreDoubles = 0b10_0
pair_code PairOp.LoadDoubles = 0b10_1
pair_code PairOp.StoreVectorWords = 0b1_00_0
pair_code PairOp.LoadVectorWords = 0b1_00_1
pair_code PairOp.StoreVectorDoubles = 0b1_01_0
pair_code PairOp.LoadVectorDoubles = 0b1_01_1
pair_code PairOp.StoreVectorQuads = 0b1_10_0
pair_code PairOp.LoadVectorQuads = 0b1_10_1

abbrev pub pair_vector : PairOp → ℕ
pair_vector op = pair_code op / 8

abbrev pub pair_opc : PairOp → ℕ
pair_opc op = pair_code op / 2 % 4

abbrev pub pair_load : PairOp → ℕ
pair_load op = pair_code op % 2

-- the bytes of one register's access: opc 10 has two doublewords, the others have words; a vector's opc 00, 01, 10 have 4, 8, 16
abbrev pub pair_bytes : PairOp → ℕ
pair_bytes op = pick (eqb (pair_vector op) 1) (4 * 2 ^ pair_opc op) (pick (eqb (pair_opc op) 0b10) 8 4)

-- what the list leaves is 0 with 10 and 1, and the undefined ones
abbrev pub pair_ops : List PairOp
pair_ops =
    PairOp.StoreWords ∷ PairOp.LoadWords ∷ PairOp.LoadSignedWords ∷ PairOp.StoreDoubles
    ∷ PairOp.StoreVectorWords ∷ PairOp.LoadVectorWords ∷ PairOp.StoreVectorDoubles ∷ PairOp.LoadVectorDoubles
    ∷ PairOp.StoreVectorQuads ∷ PairOp.LoadVectorQuads ∷ []

unfoldable pub pair_at : ℕ → PairOp
pair_at code = lookup PairOp.LoadDoubles (by_code pair_code pair_ops) code

abbrev pub mode_code : PairMode → ℕ
mode_code PairMode.NoAllocate = 0b00
mode_code PairMode.Post = 0b01
mode_code PairMode.Offset = 0b10
mode_code PairMode.Pre = 0b11

abbrev pub modes : List PairMode
modes = PairMode.NoAllocate ∷ PairMode.Post ∷ PairMode.Offset ∷ []

unfoldable pub mode_at : ℕ → PairMode
mode_at mode = lookup PairMode.Pre (by_code mode_code modes) mode

-- bit 23, L and bit 15 side by side: ldxr, ldaxr, stlr and ldar
abbrev pub exclusive_code : ExclusiveOp → ℕ
exclusive_code ExclusiveOp.LoadExclusive = 0b0_1_0
exclusive_code ExclusiveOp.LoadAcquireExclusive = 0b0_1_1
exclusive_code ExclusiveOp.StoreRelease = 0b1_0_1
exclusive_code ExclusiveOp.LoadAcquire = 0b1_1_1

abbrev pub exclusive_load : ExclusiveOp → ℕ
exclusive_load op = exclusive_code op / 2 % 2

abbrev pub exclusive_ops : List ExclusiveOp
exclusive_ops = ExclusiveOp.LoadExclusive ∷ ExclusiveOp.LoadAcquireExclusive ∷ ExclusiveOp.StoreRelease ∷ []

unfoldable pub exclusive_at : ℕ → ExclusiveOp
exclusive_at code = lookup ExclusiveOp.LoadAcquire (by_code exclusive_code exclusive_ops) code

-- the same bits of stxr and stlxr
abbrev pub store_exclusive_code : StoreExclusiveOp → ℕ
store_exclusive_code StoreExclusiveOp.StorePlainExclusive = 0b0_0_0
store_exclusive_code StoreExclusiveOp.StoreReleaseExclusive = 0b0_0_1

abbrev pub store_exclusive_ops : List StoreExclusiveOp
store_exclusive_ops = StoreExclusiveOp.StorePlainExclusive ∷ []

unfoldable pub store_exclusive_at : ℕ → StoreExclusiveOp
store_exclusive_at code = lookup StoreExclusiveOp.StoreReleaseExclusive (by_code store_exclusive_code store_exclusive_ops) code

-- the size field of an access that has its size apart from its operation: 2 ^ scale bytes
abbrev pub access_scale : AccessSize → ℕ
access_scale AccessSize.Byte = 0b00
access_scale AccessSize.Half = 0b01
access_scale AccessSize.Word = 0b10
access_scale AccessSize.Double = 0b11

abbrev pub access_bytes : AccessSize → ℕ
access_bytes size = 2 ^ access_scale size

abbrev pub access_sizes : List AccessSize
access_sizes = AccessSize.Byte ∷ AccessSize.Half ∷ AccessSize.Word ∷ []

unfoldable pub size_at : ℕ → AccessSize
size_at scale = lookup AccessSize.Double (by_code access_scale access_sizes) scale
