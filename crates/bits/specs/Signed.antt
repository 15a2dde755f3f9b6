-- Signed fields: the number that bits stand for, and the bits of a number, as a multiple of a scale.
use Rattle.std.specs.Prelude.{ℕ, suc, ◌+◌, ◌-◌, ◌*◌, ◌/◌, ◌%◌, ◌^◌, ℤ, pos, negsuc, neg_ℤ, Option, Some, None, ◌==◌, nat_lt}
use Rattle.bits.specs.Choice.{pick}

-- the number that a field in two's complement holds, times scale; half is how many values each sign has
unfoldable pub signed_of : ℕ → ℕ → ℕ → ℤ
signed_of half scale bits = pick (nat_lt bits half) (pos (bits * scale)) (neg_ℤ (pos ((2 * half - bits) * scale)))

-- the quotient, where it is whole and below the limit
unfoldable pub quotient_of : ℕ → ℕ → ℕ → Option ℕ
quotient_of magnitude scale limit =
    pick (magnitude % scale == 0) (pick (nat_lt (magnitude / scale) limit) (Some (magnitude / scale)) None) None

-- the bits of a negative number, from those of its magnitude
abbrev pub complement : ℕ → Option ℕ → Option ℕ
complement half (Some q) = Some (2 * half - q)
complement half None = None

-- the bits that stand for a number
unfoldable pub bits_of : ℕ → ℕ → ℤ → Option ℕ
bits_of half scale (pos n) = quotient_of n scale half
bits_of half scale (negsuc n) = complement half (quotient_of (suc n) scale (half + 1))

-- the bits that stand for a number in a field without sign, which holds limit values
unfoldable pub plain_bits_of : ℕ → ℕ → ℤ → Option ℕ
plain_bits_of limit scale (pos n) = quotient_of n scale limit
plain_bits_of limit scale (negsuc n) = None

-- the 64 bits of a number
abbrev pub twos_complement : ℤ → ℕ
twos_complement (pos n) = n
twos_complement (negsuc n) = 2 ^ 64 - 1 - n
