-- All names by number, for a search.
use Rattle.std.specs.Prelude.{ℕ, ◌+◌, ◌*◌, ◌/◌, ◌%◌, List, [], ◌∷◌, nat_lt}
use Rattle.bits.specs.Choice.{pick, lookup}
use Rattle.instruction.specs.Operations.{sized_code, sized_at, pair_code, pair_at, exclusive_code, exclusive_at, store_exclusive_code, store_exclusive_at, access_scale, size_at}
use Rattle.instruction.specs.declared.operation.PairMode.{PairMode}
use Rattle.mnemonic.specs.Mnemonics.{sized_name, pair_name, exclusive_name}
use Rattle.mnemonic.specs.Operands.{Operand, Narrow, sized_operand, pair_operand, access_operand}
use Rattle.mnemonic.specs.declared.Stem.{Stem}
use Rattle.mnemonic.specs.declared.names.Name.{Name}

abbrev pub stem_table : List (ℕ × Stem)
stem_table = (1, Stem.Order) ∷ (2, Stem.Unscale) ∷ []

unfoldable pub stem_at : ℕ → Stem
stem_at n = lookup Stem.Plain stem_table n

unfoldable pub name_at : ℕ → Name
name_at n =
    pick (nat_lt n 8) (Name.StoreExclusive (store_exclusive_at (n / 4)) (size_at (n % 4)))
    (pick (nat_lt n 32) (Name.Exclusive (exclusive_at (n / 4)) (size_at (n % 4)))
    (pick (nat_lt n 128) (Name.Sized (stem_at (n / 32)) (sized_at (n % 32)))
    (pick (nat_lt n 144) (Name.NoAllocatePair (pair_at (n % 16))) (Name.AllocatePair (pair_at (n % 16))))))

abbrev pub name_text : Name → List ℕ
name_text (Name.Sized stem op) = sized_name stem op
name_text (Name.NoAllocatePair op) = pair_name PairMode.NoAllocate op
name_text (Name.AllocatePair op) = pair_name PairMode.Offset op
name_text (Name.Exclusive op size) = exclusive_name (exclusive_code op) size
name_text (Name.StoreExclusive op size) = exclusive_name (store_exclusive_code op) size

-- the first operand; a store-exclusive has its status there
abbrev pub name_operand : Name → Operand
name_operand (Name.Sized stem op) = sized_operand op
name_operand (Name.NoAllocatePair op) = pair_operand op
name_operand (Name.AllocatePair op) = pair_operand op
name_operand (Name.Exclusive op size) = access_operand size
name_operand (Name.StoreExclusive op size) = Narrow

-- the number of a name
abbrev pub stem_number : Stem → ℕ
stem_number Stem.Order = 1
stem_number Stem.Unscale = 2
stem_number Stem.Plain = 3

abbrev pub number_of : Name → ℕ
number_of (Name.Sized stem op) = stem_number stem * 32 + sized_code op
number_of (Name.NoAllocatePair op) = 128 + pair_code op
number_of (Name.AllocatePair op) = 144 + pair_code op
number_of (Name.Exclusive op size) = exclusive_code op * 4 + access_scale size
number_of (Name.StoreExclusive op size) = store_exclusive_code op * 4 + access_scale size

-- how many numbers there are
abbrev pub name_count : ℕ
name_count = 160
