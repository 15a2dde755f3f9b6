-- The numbers of an instruction: 01, "What a word says". Fields that a family hasn't got are 0.
use Rattle.std.specs.Prelude.{ℕ, ◌+◌, ◌*◌, ◌/◌, ◌%◌, [], ◌∷◌, eqb, pos}
use Rattle.bits.specs.Choice.{pick, lookup}
use Rattle.instruction.specs.declared.operation.SizedOp.{SizedOp}
use Rattle.instruction.specs.declared.operation.LiteralOp.{LiteralOp}
use Rattle.instruction.specs.declared.operation.PairOp.{PairOp}
use Rattle.instruction.specs.declared.exclusive.AccessSize.{AccessSize}
use Rattle.instruction.specs.declared.family.Family.{Family}
use Rattle.instruction.specs.declared.family.Instruction.{Instruction}
use Rattle.instruction.specs.declared.family.LiteralOperands.{LiteralOperands}
use Rattle.instruction.specs.declared.family.PairOperands.{PairOperands}
use Rattle.instruction.specs.declared.family.OffsetOperands.{OffsetOperands}
use Rattle.instruction.specs.declared.family.IndexOperands.{IndexOperands}
use Rattle.instruction.specs.Operations.{sized_code, sized_stores, sized_bytes, literal_code, pair_code, pair_load, pair_bytes, mode_code, exclusive_code, store_exclusive_code, access_scale, access_bytes}
use Rattle.plain.specs.declared.record.Plain.{Plain}

-- the bytes of an access: none for a prefetch, and both registers of a pair together
unfoldable pub sized_moved : SizedOp → ℕ
sized_moved op = pick (eqb (sized_code op) 0b11_10) 0 (sized_bytes op)

unfoldable pub literal_moved : LiteralOp → ℕ
literal_moved op = lookup 4 ((0b01, 8) ∷ (0b11, 0) ∷ (0b1_01, 8) ∷ (0b1_10, 16) ∷ []) (literal_code op)

-- 0 where no byte is moved; else by a number that only a load has: 1 for a load, 2 for a store
unfoldable pub direction_of : ℕ → ℕ → ℕ
direction_of bytes load = pick (eqb bytes 0) 0 (pick (eqb load 0) 2 1)

unfoldable pub sized_load : SizedOp → ℕ
sized_load op = pick (sized_stores op) 0 1

abbrev pub empty_plain : Plain
empty_plain =
    record {
      family = 0;
      operation = 0;
      direction = 0;
      bytes = 0;
      target = 0;
      second = 0;
      base = 0;
      index = 0;
      option = 0;
      scaled = 0;
      mode = 0;
      status = 0;
      offset = pos 0;
    }

abbrev pub literal_plain : LiteralOp → LiteralOperands → Plain
literal_plain op o =
    record {
      family = 1;
      operation = literal_code op;
      direction = direction_of (literal_moved op) 1;
      bytes = literal_moved op;
      target = o.target;
      second = 0;
      base = 0;
      index = 0;
      option = 0;
      scaled = 0;
      mode = 0;
      status = 0;
      offset = o.offset;
    }

abbrev pub pair_plain : PairOp → PairOperands → Plain
pair_plain op o =
    record {
      family = 2;
      operation = pair_code op;
      direction = direction_of (2 * pair_bytes op) (pair_load op);
      bytes = 2 * pair_bytes op;
      target = o.first;
      second = o.second;
      base = o.base;
      index = 0;
      option = 0;
      scaled = 0;
      mode = mode_code o.mode;
      status = 0;
      offset = o.offset;
    }

-- in five families
abbrev pub offset_plain : ℕ → SizedOp → OffsetOperands → Plain
offset_plain family op o =
    record {
      family = family;
      operation = sized_code op;
      direction = direction_of (sized_moved op) (sized_load op);
      bytes = sized_moved op;
      target = o.target;
      second = 0;
      base = o.base;
      index = 0;
      option = 0;
      scaled = 0;
      mode = 0;
      status = 0;
      offset = o.offset;
    }

abbrev pub index_plain : SizedOp → IndexOperands → Plain
index_plain op o =
    record {
      family = 7;
      operation = sized_code op;
      direction = direction_of (sized_moved op) (sized_load op);
      bytes = sized_moved op;
      target = o.target;
      second = 0;
      base = o.base;
      index = o.index;
      option = o.option;
      scaled = o.scaled;
      mode = 0;
      status = 0;
      offset = pos 0;
    }

-- size, and bit 23, L and bit 15, side by side
abbrev pub exclusive_plain : ℕ → AccessSize → ℕ → ℕ → ℕ → Plain
exclusive_plain code size status target base =
    record {
      family = 9;
      operation = access_scale size * 8 + code;
      direction = direction_of (access_bytes size) (code / 2 % 2);
      bytes = access_bytes size;
      target = target;
      second = 0;
      base = base;
      index = 0;
      option = 0;
      scaled = 0;
      mode = 0;
      status = status;
      offset = pos 0;
    }

abbrev pub family_plain : Family → Plain
family_plain Family.Empty = empty_plain
family_plain (Family.Literal op o) = literal_plain op o
family_plain (Family.Pair op o) = pair_plain op o
family_plain (Family.Ordered op o) = offset_plain 3 op o
family_plain (Family.Unscaled op o) = offset_plain 4 op o
family_plain (Family.PostIndex op o) = offset_plain 5 op o
family_plain (Family.PreIndex op o) = offset_plain 6 op o
family_plain (Family.Register op o) = index_plain op o
family_plain (Family.Unsigned op o) = offset_plain 8 op o
family_plain (Family.Exclusive op o) = exclusive_plain (exclusive_code op) o.size 0 o.target o.base
family_plain (Family.StoreExclusive op o) = exclusive_plain (store_exclusive_code op) o.size o.status o.target o.base

unfoldable pub plain_of : Instruction → Plain
plain_of i = family_plain i.family
