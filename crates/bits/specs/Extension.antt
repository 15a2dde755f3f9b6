-- A number of some bytes, extended with its sign: 01, "What a word says".
use Rattle.std.specs.Prelude.{ℕ, ◌+◌, ◌-◌, ◌/◌, ◌^◌, nat_lt}
use Rattle.bits.specs.Choice.{pick}

-- the largest number of n bytes
unfoldable pub largest : ℕ → ℕ
largest n = 256 ^ n - 1

-- where the sign is set, ones stand above the n bytes, up to the extent
unfoldable pub extended_of : ℕ → ℕ → ℕ → ℕ
extended_of n extent v = pick (nat_lt (largest n / 2) v) (v + (largest extent - largest n)) v
