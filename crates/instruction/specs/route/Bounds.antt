-- How large the numbers of an instruction are that a word stands for: registers, and the offset of each family.
use Rattle.std.specs.Prelude.{ℕ, ◌≤◌, ◌<◌, nat_abs}
use Rattle.instruction.specs.Types.{Family, LiteralOperands, PairOperands, OffsetOperands, IndexOperands, ExclusiveOperands, StoreExclusiveOperands}

-- imm19, times 4
pub record LiteralBounds (o : LiteralOperands) : Type 0 where
  pub target : o.target < 32
  pub offset : nat_abs o.offset ≤ 1048576

-- imm7, times 4, 8 or 16
pub record PairBounds (o : PairOperands) : Type 0 where
  pub first : o.first < 32
  pub second : o.second < 32
  pub base : o.base < 32
  pub offset : nat_abs o.offset ≤ 1024

-- imm9, with most 256; or imm12, times up to 16, with most 65520
pub record OffsetBounds (most : ℕ) (o : OffsetOperands) : Type 0 where
  pub target : o.target < 32
  pub base : o.base < 32
  pub offset : nat_abs o.offset ≤ most

pub record IndexBounds (o : IndexOperands) : Type 0 where
  pub target : o.target < 32
  pub base : o.base < 32
  pub index : o.index < 32
  pub scaled : o.scaled < 2

pub record ExclusiveBounds (o : ExclusiveOperands) : Type 0 where
  pub target : o.target < 32
  pub base : o.base < 32

pub record StoreExclusiveBounds (o : StoreExclusiveOperands) : Type 0 where
  pub status : o.status < 32
  pub target : o.target < 32
  pub base : o.base < 32

abbrev pub Bounded : Family → Type 0
Bounded Family.Empty = Unit {0}
Bounded (Family.Literal op o) = LiteralBounds o
Bounded (Family.Pair op o) = PairBounds o
Bounded (Family.Ordered op o) = OffsetBounds 256 o
Bounded (Family.Unscaled op o) = OffsetBounds 256 o
Bounded (Family.PostIndex op o) = OffsetBounds 256 o
Bounded (Family.PreIndex op o) = OffsetBounds 256 o
Bounded (Family.Register op o) = IndexBounds o
Bounded (Family.Unsigned op o) = OffsetBounds 65520 o
Bounded (Family.Exclusive op o) = ExclusiveBounds o
Bounded (Family.StoreExclusive op o) = StoreExclusiveBounds o
