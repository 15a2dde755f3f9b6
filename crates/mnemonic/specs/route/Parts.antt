-- A mnemonic in two parts, the stem by the kind of the operation and what stands behind it.
use Rattle.std.specs.Prelude.{ℕ, ◌+◌, ◌*◌, ◌/◌, ◌%◌, ◌^◌, List, [], ◌∷◌, ◌++◌, length, ◌==◌, nat_lt}
use Rattle.bits.specs.Choice.{pick, lookup}
use Rattle.instruction.specs.Operations.{sized_code, vector_of, size_of, opc_of, sized_stores, pair_code, pair_load}
use Rattle.instruction.specs.declared.operation.SizedOp.{SizedOp}
use Rattle.instruction.specs.declared.operation.PairOp.{PairOp}
use Rattle.instruction.specs.declared.operation.PairMode.{PairMode}
use Rattle.ascii.specs.Ascii.{asc}
use Rattle.mnemonic.specs.Mnemonics.{suffix, exclusive_stems}
use Rattle.mnemonic.specs.Operands.{Operand, letter_of, sized_operand, pair_operand}
use Rattle.mnemonic.specs.declared.Stem.{Stem}
use Rattle.mnemonic.specs.declared.Mnemonic.{Mnemonic}
use Rattle.mnemonic.specs.declared.stems.Kind.{Kind}
use Rattle.mnemonic.specs.declared.table.Entry.{Entry}

-- letters in a number, the first lowest
abbrev pub packed : List ℕ → ℕ
packed [] = 0
packed (b ∷ bs) = b + packed bs * 256

-- a stem, with how many letters it has in the highest of eight bytes
abbrev pub stem_in : List ℕ → ℕ
stem_in letters = packed letters + length letters * 0x100_0000_0000_0000

-- a store's, a load's and a prefetch's
abbrev pub by_kind : Kind → ℕ → ℕ → ℕ → ℕ
by_kind Kind.Store store load hint = store
by_kind Kind.Load store load hint = load
by_kind Kind.Hint store load hint = hint

abbrev pub stem_by : List ℕ → List ℕ → List ℕ → Kind → ℕ
stem_by store load hint kind = by_kind kind (stem_in store) (stem_in load) (stem_in hint)

abbrev pub sized_stem : Stem → Kind → ℕ
sized_stem Stem.Plain kind = stem_by (asc "str") (asc "ldr") (asc "prfm") kind
sized_stem Stem.Unscale kind = stem_by (asc "stur") (asc "ldur") (asc "prfum") kind
sized_stem Stem.Order kind = stem_by (asc "stlur") (asc "ldapur") (asc "prfum") kind

-- no pair has a hint
abbrev pub allocate_stem : Kind → ℕ
allocate_stem kind = stem_by (asc "st") (asc "ld") (asc "ld") kind

abbrev pub pair_stem : PairMode → Kind → ℕ
pair_stem PairMode.NoAllocate kind = stem_by (asc "stn") (asc "ldn") (asc "ldn") kind
pair_stem PairMode.Post kind = allocate_stem kind
pair_stem PairMode.Offset kind = allocate_stem kind
pair_stem PairMode.Pre kind = allocate_stem kind

abbrev pub exclusive_stem : ℕ → ℕ
exclusive_stem code = stem_in (lookup [] exclusive_stems code)

-- how many letters stand behind the stem, and the letter of the operand
abbrev pub shape_in : List ℕ → Operand → ℕ
shape_in letters operand = letter_of operand * 256 + length letters

abbrev pub entry_of : Kind → ℕ → ℕ → Entry
entry_of kind letters shape = record { kind = kind; letters = letters; shape = shape }

abbrev pub sized_entry : SizedOp → Entry
sized_entry op =
    let behind = pick (sized_code op == 0b0_11_10) [] (pick (vector_of op == 1) [] (suffix (size_of op) (nat_lt 0b01 (opc_of op)))) in
    entry_of (pick (sized_code op == 0b0_11_10) Kind.Hint (pick (sized_stores op) Kind.Store Kind.Load)) (packed behind) (shape_in behind (sized_operand op))

abbrev pub pair_entry : PairOp → Entry
pair_entry op =
    let behind = asc "p" ++ pick (pair_code op == 0b0_01_1) (asc "sw") [] in
    entry_of (pick (pair_load op == 0) Kind.Store Kind.Load) (packed behind) (shape_in behind (pair_operand op))

-- letters behind a stem
abbrev pub behind_stem : ℕ → ℕ → ℕ → Mnemonic
behind_stem stem letters shape =
    record {
      letters = (stem % 0x100_0000_0000_0000 + letters * 2 ^ (8 * (stem / 0x100_0000_0000_0000 % 8)) % 2 ^ 64) % 2 ^ 64;
      shape = (shape + stem / 0x100_0000_0000_0000) % 2 ^ 16;
    }
