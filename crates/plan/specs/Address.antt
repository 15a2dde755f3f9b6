-- The address of an access: 01, "What a word says". Sums are taken modulo 2^64 on purpose.
use Rattle.std.specs.Prelude.{ℕ, ◌+◌, ◌*◌, ◌%◌, ◌^◌, ◌==◌}
use Rattle.bits.specs.Choice.{pick}
use Rattle.bits.specs.Extension.{extended_of}
use Rattle.access.specs.declared.addressing.Addressing.{Addressing}
use Rattle.plan.specs.declared.operands.Operands.{Operands}

-- option 010 takes the low 32 bits with zeros above, 110 the low 32 bits signed, 011 and 111 all 64
unfoldable pub index_of : ℕ → ℕ → ℕ
index_of option v = pick (option == 0b010) (v % 2 ^ 32) (pick (option == 0b110) (extended_of 4 8 (v % 2 ^ 32)) v)

-- no shift is longer than 3; the remainder only makes the definition total
unfoldable pub shifted_of : ℕ → ℕ → ℕ → ℕ
shifted_of option shift v = index_of option v * 2 ^ (shift % 64) % 2 ^ 64

-- base + offset, or base + index; an access has only one of the two
unfoldable pub sum_of : Addressing → Operands → ℕ
sum_of a o = (o.base + (a.offset + shifted_of a.option a.shift o.index) % 2 ^ 64) % 2 ^ 64

-- the base alone for post-index
abbrev pub address_of : Addressing → Operands → ℕ
address_of a o = pick a.post o.base (sum_of a o)
