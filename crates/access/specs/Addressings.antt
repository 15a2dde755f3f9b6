-- How the families form an address: 01, "What a word says". Register 31 is SP as a base. An offset is taken
-- modulo 2^64, as the sums are.
use Rattle.std.specs.Prelude.{ℕ, Bool, true, false, eqb}
use Rattle.bits.specs.Choice.{pick}
use Rattle.instruction.specs.declared.family.IndexOperands.{IndexOperands}
use Rattle.instruction.specs.declared.operation.SizedOp.{SizedOp}
use Rattle.instruction.specs.declared.operation.PairMode.{PairMode}
use Rattle.instruction.specs.Operations.{scale_of}
use Rattle.registers.specs.File.{zero_slot}
use Rattle.access.specs.Transfers.{none}
use Rattle.access.specs.declared.addressing.Addressing.{Addressing}

-- an index that is not there is 0, and option 011 takes all of it
unfoldable pub based : ℕ → ℕ → Bool → ℕ → Addressing
based base offset post written =
    record {
      relative = false;
      base = base;
      offset = offset;
      index = none;
      option = 0b011;
      shift = 0;
      post = post;
      written = written;
    }

-- pre and post write base + offset to the base; post takes the base alone as the address
abbrev pub offset_mode : ℕ → ℕ → Addressing
offset_mode base offset = based base offset false none

abbrev pub pre_mode : ℕ → ℕ → Addressing
pre_mode base offset = based base offset false base

abbrev pub post_mode : ℕ → ℕ → Addressing
post_mode base offset = based base offset true base

abbrev pub paired_mode : PairMode → ℕ → ℕ → Addressing
paired_mode PairMode.NoAllocate base offset = offset_mode base offset
paired_mode PairMode.Post base offset = post_mode base offset
paired_mode PairMode.Offset base offset = offset_mode base offset
paired_mode PairMode.Pre base offset = pre_mode base offset

-- shifted left by size if S is 1
unfoldable pub shift_of : SizedOp → ℕ → ℕ
shift_of op scaled = pick (eqb scaled 1) (scale_of op) 0

unfoldable pub indexed_mode : SizedOp → IndexOperands → Addressing
indexed_mode op o =
    record {
      relative = false;
      base = o.base;
      offset = 0;
      index = zero_slot o.index;
      option = o.option;
      shift = shift_of op o.scaled;
      post = false;
      written = none;
    }

-- PC + offset
unfoldable pub literal_mode : ℕ → Addressing
literal_mode offset =
    record {
      relative = true;
      base = none;
      offset = offset;
      index = none;
      option = 0b011;
      shift = 0;
      post = false;
      written = none;
    }
