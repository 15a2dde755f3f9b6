-- What the families move: 01, "What a word says", and 02, CR 3 and CR 12. Register 31 is the zero register here, and of a
-- vector a register like any other.
use Rattle.std.specs.Prelude.{ℕ, ◌+◌, ◌%◌, Bool, true, false, not, eqb, ltb}
use Rattle.bits.specs.Choice.{pick}
use Rattle.instruction.specs.declared.operation.SizedOp.{SizedOp}
use Rattle.instruction.specs.declared.operation.PairOp.{PairOp}
use Rattle.instruction.specs.declared.exclusive.AccessSize.{AccessSize}
use Rattle.instruction.specs.declared.exclusive.ExclusiveOp.{ExclusiveOp}
use Rattle.instruction.specs.Operations.{vector_of, opc_of, sized_stores, sized_bytes, pair_code, pair_vector, pair_load, pair_bytes, exclusive_code, exclusive_load, access_bytes}
use Rattle.registers.specs.File.{zero_slot}
use Rattle.access.specs.declared.transfer.Transfer.{Transfer}

-- no register
abbrev pub none : ℕ
none = 64

-- the slot of Rt or Rt2 by bit 26: vector registers stand behind the general ones
unfoldable pub slot_of : ℕ → ℕ → ℕ
slot_of vector r = pick (eqb vector 1) (32 + r % 32) (zero_slot r)

-- opc 10 loads signed to 64 bits, 11 to 32 bits, 01 with zeros above
unfoldable pub extent_of : ℕ → ℕ → ℕ
extent_of opc bytes = pick (eqb opc 0b10) 8 (pick (eqb opc 0b11) 4 bytes)

-- a vector is not extended: "a load clears what it doesn't fill"
unfoldable pub sized_transfer : SizedOp → ℕ → Bool → Transfer
sized_transfer op target ordered =
    record {
      store = sized_stores op;
      ordered = ordered;
      bytes = sized_bytes op;
      more = 0;
      extent = pick (eqb (vector_of op) 1) (sized_bytes op) (extent_of (opc_of op) (sized_bytes op));
      target = slot_of (vector_of op) target;
      second = none;
      exclusive = false;
    }

unfoldable pub literal_transfer : ℕ → ℕ → ℕ → ℕ → Transfer
literal_transfer vector bytes extent target =
    record { store = false; ordered = false; bytes = bytes; more = 0; extent = extent; target = slot_of vector target; second = none; exclusive = false }

-- a pair puts Rt first; L loads, and code 0_01_1 has two signed words, extended to 64 bits
unfoldable pub pair_transfer : PairOp → ℕ → ℕ → Transfer
pair_transfer op first second =
    record {
      store = eqb (pair_load op) 0;
      ordered = false;
      bytes = pair_bytes op;
      more = pair_bytes op;
      extent = pick (eqb (pair_code op) 0b0_01_1) 8 (pair_bytes op);
      target = slot_of (pair_vector op) first;
      second = slot_of (pair_vector op) second;
      exclusive = false;
    }

-- of the ninth family, an access that is not exclusive is ordered
unfoldable pub monitored_transfer : Bool → Bool → AccessSize → ℕ → Transfer
monitored_transfer store exclusive size target =
    record {
      store = store;
      ordered = not exclusive;
      bytes = access_bytes size;
      more = 0;
      extent = access_bytes size;
      target = zero_slot target;
      second = none;
      exclusive = exclusive;
    }

-- the exclusive ones have bit 23 clear, and L loads
unfoldable pub exclusive_transfer : ExclusiveOp → AccessSize → ℕ → Transfer
exclusive_transfer op size target = monitored_transfer (eqb (exclusive_load op) 0) (ltb (exclusive_code op) 0b1_0_0) size target

abbrev pub store_exclusive_transfer : AccessSize → ℕ → Transfer
store_exclusive_transfer size target = monitored_transfer true true size target
