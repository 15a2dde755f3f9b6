-- The word of a family with a size, from the fields that they share and own, all other bits in place.
use Rattle.std.specs.Prelude.{ℕ, Option, Some, None, ◌+◌, ◌*◌, ◌&&◌, ltb}
use Rattle.bits.specs.Choice.{pick}
use Rattle.instruction.specs.declared.operation.SizedOp.{SizedOp}
use Rattle.instruction.specs.Operations.{vector_of, size_of, opc_of}

unfoldable pub sized_word : SizedOp → ℕ → ℕ → ℕ → Option ℕ
sized_word op base target own =
    pick (ltb base 32 && ltb target 32)
    (Some (size_of op * 0x4000_0000 + vector_of op * 0x400_0000 + opc_of op * 0x40_0000 + base * 32 + target + own))
    None
