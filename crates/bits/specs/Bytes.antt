-- A number as bytes, little-endian, and the bytes of a part of memory.
use Rattle.std.specs.Prelude.{ℕ, zero, suc, ◌+◌, ◌*◌, ◌/◌, ◌%◌, List, [], ◌∷◌, slice_index}

-- the low n bytes of a number, the lowest first
unfoldable pub bytes_of : ℕ → ℕ → List ℕ
bytes_of zero v = []
bytes_of (suc n) v = v % 256 ∷ bytes_of n (v / 256)

-- the number that bytes make
unfoldable pub joined : List ℕ → ℕ
joined [] = 0
joined (b ∷ bs) = b + joined bs * 256

-- n bytes from an index on; 0 past the end
unfoldable pub span_of : List ℕ → ℕ → ℕ → List ℕ
span_of xs at zero = []
span_of xs at (suc n) = slice_index xs at ∷ span_of xs (suc at) n
