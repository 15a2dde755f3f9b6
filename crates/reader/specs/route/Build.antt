-- The one instruction whose line a scanned text can be. It is a guess: whether the text is its line is seen by writing it.
use Rattle.std.specs.Prelude.{ℕ, ◌%◌, ◌&&◌, List, [], ◌∷◌, eqb, get_or}
use Rattle.bits.specs.Choice.{pick, lookup}
use Rattle.instruction.specs.Operations.{sized_code, access_scale}
use Rattle.reader.specs.route.Names.{letter_for, name_for}
use Rattle.reader.specs.route.Targets.{target_at}
use Rattle.reader.specs.route.Tails.{tail_at, offset_at, option_at, scaled_at}
use Rattle.reader.specs.Types.{Scan, Name, Stem, Tail, AtOffset, Before, After, Indexed, SizedOp, LiteralOp, LiteralWord, LiteralDouble, LiteralSignedWord, LiteralPrefetch, LiteralVectorWord, LiteralVectorDouble, LiteralVectorQuad, PairMode, NoAllocate, Post, Offset, Pre, Family, Literal, Pair, Ordered, Unscaled, PostIndex, PreIndex, Register, Unsigned, Exclusive, StoreExclusive, AccessSize, Word, Instruction, LiteralOperands, PairOperands, OffsetOperands, IndexOperands, ExclusiveOperands, StoreExclusiveOperands}

-- the key and the number of a word
abbrev pub key_in : Scan → ℕ → ℕ
key_in s i = get_or s.keys i 0

abbrev pub num_in : Scan → ℕ → ℕ
num_in s i = get_or s.nums i 0

abbrev pub register_of : ℕ → ℕ
register_of n = n % 32

-- the load from a literal that has the name of a load with a size; the other names have none
abbrev pub literal_table : List (ℕ × LiteralOp)
literal_table =
    (0b10_10, LiteralSignedWord) ∷ (0b11_01, LiteralDouble) ∷ (0b11_10, LiteralPrefetch)
    ∷ (0b1_10_01, LiteralVectorWord) ∷ (0b1_11_01, LiteralVectorDouble) ∷ (0b1_00_11, LiteralVectorQuad) ∷ []

unfoldable pub literal_for : SizedOp → LiteralOp
literal_for op = lookup LiteralWord literal_table (sized_code op)

unfoldable pub literal_from : Scan → LiteralOperands
literal_from s = record { target = target_at (key_in s 1) (num_in s 1); offset = offset_at (key_in s 2) (num_in s 2) }

unfoldable pub offset_from : Scan → OffsetOperands
offset_from s =
    record { target = target_at (key_in s 1) (num_in s 1); base = register_of (num_in s 4); offset = offset_at (key_in s 5) (num_in s 5) }

unfoldable pub index_from : Scan → IndexOperands
index_from s =
    record {
      target = target_at (key_in s 1) (num_in s 1);
      base = register_of (num_in s 4);
      index = register_of (num_in s 5);
      option = option_at (key_in s 6);
      scaled = scaled_at (key_in s 6);
    }

unfoldable pub pair_from : PairMode → Scan → PairOperands
pair_from mode s =
    record {
      first = register_of (num_in s 1);
      second = register_of (num_in s 2);
      base = register_of (num_in s 4);
      mode = mode;
      offset = offset_at (key_in s 5) (num_in s 5);
    }

abbrev pub mode_for : Tail → PairMode
mode_for AtOffset = Offset
mode_for Before = Pre
mode_for After = Post
mode_for Indexed = Offset

abbrev pub bracketed_for : Tail → SizedOp → Scan → Family
bracketed_for AtOffset op s = Unsigned op (offset_from s)
bracketed_for Before op s = PreIndex op (offset_from s)
bracketed_for After op s = PostIndex op (offset_from s)
bracketed_for Indexed op s = Register op (index_from s)

unfoldable pub plain_for : SizedOp → Scan → Family
plain_for op s = pick (eqb (key_in s 2) 0) (bracketed_for (tail_at (key_in s 5)) op s) (Literal (literal_for op) (literal_from s))

abbrev pub sized_for : Stem → SizedOp → Scan → Family
sized_for Stem.Plain op s = plain_for op s
sized_for Stem.Unscale op s = Unscaled op (offset_from s)
sized_for Stem.Order op s = Ordered op (offset_from s)

unfoldable pub exclusive_from : AccessSize → Scan → ExclusiveOperands
exclusive_from size s = record { size = size; target = register_of (num_in s 1); base = register_of (num_in s 4) }

-- the name of a store-exclusive doesn't tell a word from a doubleword: the letter of the data does, which is the second operand
unfoldable pub size_for : AccessSize → ℕ → AccessSize
size_for size letter = pick (eqb (access_scale size) 0b11 && eqb letter 0x77) Word size

unfoldable pub store_exclusive_from : AccessSize → Scan → StoreExclusiveOperands
store_exclusive_from size s =
    record {
      size = size_for size (letter_for (key_in s 2));
      status = register_of (num_in s 1);
      target = register_of (num_in s 2);
      base = register_of (num_in s 4);
    }

abbrev pub family_for : Name → Scan → Family
family_for (Name.Sized stem op) s = sized_for stem op s
family_for (Name.NoAllocatePair op) s = Pair op (pair_from NoAllocate s)
family_for (Name.AllocatePair op) s = Pair op (pair_from (mode_for (tail_at (key_in s 5))) s)
family_for (Name.Exclusive op size) s = Exclusive op (exclusive_from size s)
family_for (Name.StoreExclusive op size) s = StoreExclusive op (store_exclusive_from size s)

unfoldable pub build_of : Scan → Instruction
build_of s = record { family = family_for (name_for (key_in s 1) (key_in s 0)) s }
