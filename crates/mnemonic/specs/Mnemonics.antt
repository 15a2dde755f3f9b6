-- Mnemonics: 01, "Lines of text", and 02, CR 3 and CR 12.
use Rattle.std.specs.Prelude.{ℕ, Bool, false, List, [], ◌∷◌, ◌++◌, ◌==◌, nat_lt}
use Rattle.bits.specs.Choice.{pick, lookup}
use Rattle.instruction.specs.Operations.{sized_code, vector_of, size_of, opc_of, sized_stores, pair_code, pair_load, mode_code, access_scale}
use Rattle.ascii.specs.Ascii.{asc}
use Rattle.mnemonic.specs.declared.Stem.{Stem}
use Rattle.instruction.specs.declared.exclusive.AccessSize.{AccessSize}
use Rattle.instruction.specs.declared.operation.SizedOp.{SizedOp}
use Rattle.instruction.specs.declared.operation.LiteralOp.{LiteralOp}
use Rattle.instruction.specs.declared.operation.PairOp.{PairOp}
use Rattle.instruction.specs.declared.operation.PairMode.{PairMode}

-- b, h, and w where it is signed; a word and a doubleword have none
abbrev pub size_letter : ℕ → Bool → List ℕ
size_letter size signed = lookup [] ((0b00, asc "b") ∷ (0b01, asc "h") ∷ (0b10, pick signed (asc "w") []) ∷ []) size

-- s where it is signed, and the letter of the size
abbrev pub suffix : ℕ → Bool → List ℕ
suffix size signed = pick signed (asc "s") [] ++ size_letter size signed

-- a stem for stores and one for loads, of which opc 10 and 11 are signed; a prefetch has a name of its own; a vector's size is told by
-- its register
abbrev pub stemmed : List ℕ → List ℕ → List ℕ → SizedOp → List ℕ
stemmed store load hint op =
    pick (sized_code op == 0b0_11_10) hint
    (pick (sized_stores op) store load ++ pick (vector_of op == 1) [] (suffix (size_of op) (nat_lt 0b01 (opc_of op))))

-- post, pre, register and unsigned
abbrev pub plain_name : SizedOp → List ℕ
plain_name op = stemmed (asc "str") (asc "ldr") (asc "prfm") op

abbrev pub unscaled_name : SizedOp → List ℕ
unscaled_name op = stemmed (asc "stur") (asc "ldur") (asc "prfum") op

-- there is no ordered prefetch; its name is never read
abbrev pub ordered_name : SizedOp → List ℕ
ordered_name op = stemmed (asc "stlur") (asc "ldapur") (asc "prfum") op

abbrev pub sized_name : Stem → SizedOp → List ℕ
sized_name Stem.Plain op = plain_name op
sized_name Stem.Unscale op = unscaled_name op
sized_name Stem.Order op = ordered_name op

-- the operation with a size whose name and operand a literal's has
abbrev pub literal_sized : LiteralOp → SizedOp
literal_sized LiteralOp.LiteralWord = SizedOp.LoadWord
literal_sized LiteralOp.LiteralDouble = SizedOp.LoadDouble
literal_sized LiteralOp.LiteralSignedWord = SizedOp.LoadSignedWord64
literal_sized LiteralOp.LiteralPrefetch = SizedOp.Prefetch
literal_sized LiteralOp.LiteralVectorWord = SizedOp.LoadVectorWord
literal_sized LiteralOp.LiteralVectorDouble = SizedOp.LoadVectorDouble
literal_sized LiteralOp.LiteralVectorQuad = SizedOp.LoadVectorQuad

abbrev pub literal_name : LiteralOp → List ℕ
literal_name op = plain_name (literal_sized op)

-- n without allocation; there is no ldpsw so, and its name is never read
abbrev pub pair_name : PairMode → PairOp → List ℕ
pair_name mode op =
    pick (pair_load op == 0) (asc "st") (asc "ld") ++ pick (mode_code mode == 0b00) (asc "n") []
    ++ asc "p" ++ pick (pair_code op == 0b0_01_1) (asc "sw") []

-- the ninth family, by bit 23, L and bit 15; an l releases and an a acquires
abbrev pub exclusive_stems : List (ℕ × List ℕ)
exclusive_stems =
    (0b0_0_0, asc "stxr") ∷ (0b0_0_1, asc "stlxr") ∷ (0b0_1_0, asc "ldxr") ∷ (0b0_1_1, asc "ldaxr") ∷ (0b1_0_1, asc "stlr")
    ∷ (0b1_1_1, asc "ldar") ∷ []

abbrev pub exclusive_name : ℕ → AccessSize → List ℕ
exclusive_name code size = lookup [] exclusive_stems code ++ size_letter (access_scale size) false
