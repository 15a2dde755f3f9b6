-- Decoding by a table, whatever it holds: the entry of a word's bits 31 to 22, the bits below, and the operands of the word.
use Rattle.std.specs.Prelude.{ℕ, ◌+◌, ◌*◌, ◌%◌, Bool, false, ◌&&◌, ◌||◌, List, eqb, get_or}
use Rattle.bits.specs.Choice.{pick}
use Rattle.bits.specs.Fields.{field, has}
use Rattle.instruction.specs.declared.answer.Answer.{Answer}
use Rattle.instruction.specs.declared.answer.Decoded.{Decoded}
use Rattle.instruction.specs.declared.family.Family.{Family}
use Rattle.instruction.specs.declared.row.Row.{Row}
use Rattle.instruction.specs.Operations.{literal_at, sized_at, pair_at, exclusive_at, store_exclusive_at}
use Rattle.instruction.specs.Operands.{literal_in, pair_in, signed_in, index_in, unsigned_in, exclusive_in, store_exclusive_in}
use Rattle.instruction.specs.Unpredictable.{unpredictable_base, unpredictable_pair, unpredictable_status}
use Rattle.instruction.specs.Undefined.{undefined_second, undefined_unused}
use Rattle.instruction.specs.Table.{columns_of, rows, first_row}
use Rattle.decoder.specs.Decoding.{decoded_from, empty}
use Rattle.lookup.specs.Entries.{lower, names, families_in, code_in}

-- the row that a family code names and whose lower bits the word has
unfoldable pub row_in : ℕ → ℕ → Row
row_in families w = first_row (λ r. names families r && has w (lower (columns_of r).fixed)) rows

-- a word of a row that is undefined or unpredictable or of this family
abbrev pub seen : Bool → Bool → Family → Decoded
seen u v f = record { answer = pick u Answer.Undefined (pick v Answer.Unpredictable Answer.Done); instruction = pick u empty (record { family = f }) }

-- bit 23 and L of an operation code of the ninth family, with bit 15 of the word
abbrev pub with_bit15 : ℕ → ℕ → ℕ
with_bit15 c w = c % 4 * 2 + field 15 15 w

-- what a row and an operation code say of a word. In ordered, post and pre the prefetch, code 14, is undefined too
abbrev pub examine_as : Row → ℕ → ℕ → Decoded
examine_as Row.NoRow c w = record { answer = Answer.NotInSet; instruction = empty }
examine_as Row.LiteralRow c w = seen (eqb c 31) false (Family.Literal (literal_at c) (literal_in w))
examine_as Row.PairRow c w = seen (eqb c 31) (unpredictable_pair w) (Family.Pair (pair_at c) (pair_in (pair_at c) w))
examine_as Row.OrderedRow c w = seen (eqb c 31 || eqb c 14) false (Family.Ordered (sized_at c) (signed_in w))
examine_as Row.UnscaledRow c w = seen (eqb c 31) false (Family.Unscaled (sized_at c) (signed_in w))
examine_as Row.PostRow c w = seen (eqb c 31 || eqb c 14) (unpredictable_base w) (Family.PostIndex (sized_at c) (signed_in w))
examine_as Row.PreRow c w = seen (eqb c 31 || eqb c 14) (unpredictable_base w) (Family.PreIndex (sized_at c) (signed_in w))
examine_as Row.RegisterRow c w = seen (eqb c 31 || eqb (field 14 14 w) 0) false (Family.Register (sized_at c) (index_in w))
examine_as Row.UnsignedRow c w = seen (eqb c 31) false (Family.Unsigned (sized_at c) (unsigned_in (sized_at c) w))
examine_as Row.LoadExclusiveRow c w = seen (undefined_unused w) false (Family.Exclusive (exclusive_at (with_bit15 c w)) (exclusive_in w))
examine_as Row.StoreExclusiveRow c w =
    seen (undefined_second w) (unpredictable_status w) (Family.StoreExclusive (store_exclusive_at (with_bit15 c w)) (store_exclusive_in w))
examine_as Row.AcquireReleaseRow c w = seen (undefined_unused w) false (Family.Exclusive (exclusive_at (with_bit15 c w)) (exclusive_in w))

unfoldable pub examine_by : ℕ → ℕ → Decoded
examine_by e w = examine_as (row_in (families_in e) w) (code_in e) w

-- the answer with 4, and the instruction
unfoldable pub examine_in : List ℕ → ℕ → Decoded
examine_in table w = examine_by (get_or table (field 31 22 w) 0) w

abbrev pub decode_in : List ℕ → ℕ → Decoded
decode_in table w = decoded_from (examine_in table w)
