-- The examples, computed. Assumes nothing.
use mathlib.Core.Path.{refl}
use Rattle.bits.specs.Fields.{part}
use Rattle.bits.specs.Signed.{signed_of}
use Rattle.instruction.specs.Operations.{sized_at, literal_at, pair_at, mode_at, exclusive_at, store_exclusive_at, size_at}
use Rattle.instruction.specs.Operands.{sized_in, literal_op_in, literal_in, pair_op_in, pair_in, signed_in, index_in, unsigned_in, exclusive_op_in, store_exclusive_op_in, exclusive_in, store_exclusive_in}
use Rattle.instruction.specs.Table.{row_of, instruction_of}
use Rattle.plain.specs.Plains.{plain_of, sized_moved, literal_moved, sized_load, direction_of}
use Rattle.plain.specs.Examples.{Holds, examples}

pub examples_hold : Holds examples
unfolding plain_of sized_moved literal_moved sized_load direction_of instruction_of row_of part signed_of sized_at literal_at pair_at mode_at sized_in literal_op_in literal_in pair_op_in pair_in signed_in index_in unsigned_in
    exclusive_at store_exclusive_at size_at exclusive_op_in store_exclusive_op_in exclusive_in store_exclusive_in
examples_hold = (refl, (refl, (refl, (refl, (refl, (refl, (refl, (refl, (refl, (refl, (refl, (refl, (refl, (refl, tt))))))))))))))
