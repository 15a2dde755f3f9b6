-- Text as bytes.
use Rattle.std.specs.Prelude.{ℕ, zero, suc, ◌+◌, ◌/◌, ◌%◌, List, [], ◌∷◌, ◌++◌, ltb, ℤ, pos, negsuc}
use Prim.Native.Char.{code}
use Prim.Native.String.{String, [] as none, ◌∷◌ as ◌◂◌}
use Rattle.bits.specs.Choice.{pick}

-- the bytes of a quoted text
abbrev pub asc : String → List ℕ
asc none = []
asc (c ◂ s) = code c ∷ asc s

-- the digits of a number that has at most f of them
abbrev pub digits : ℕ → ℕ → List ℕ
digits zero n = []
digits (suc f) n = pick (ltb n 10) ((48 + n) ∷ []) (digits f (n / 10) ++ ((48 + n % 10) ∷ []))

-- a number below 10 ^ 20 in decimal, without zeros in front
unfoldable pub dec : ℕ → List ℕ
dec n = digits 20 n

-- a signed number
unfoldable pub signed_dec : ℤ → List ℕ
signed_dec (pos n) = dec n
signed_dec (negsuc n) = asc "-" ++ dec (suc n)
