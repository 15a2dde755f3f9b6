-- Fields of a word: reading one, and the word that has given ones. Bits are numbered from 0, the lowest.
use Rattle.std.specs.Prelude.{ℕ, ◌+◌, ◌-◌, ◌*◌, ◌/◌, ◌%◌, ◌^◌, Bool, true, ◌&&◌, List, [], ◌∷◌, ◌==◌, nat_lt}

-- the bits of a word from low up, width of them
unfoldable pub part : ℕ → ℕ → ℕ → ℕ
part low width w = w / 2 ^ low % 2 ^ width

-- bits high..low of a word
abbrev pub field : ℕ → ℕ → ℕ → ℕ
field high low w = part low (high + 1 - low) w

-- a place in a word, and the value there
pub record Bits : Type 0 where
  pub low : ℕ
  pub width : ℕ
  pub value : ℕ

-- bits high..low with a value
abbrev pub bits : ℕ → ℕ → ℕ → Bits
bits high low value = record { low = low; width = high + 1 - low; value = value }

-- a word has these bits
abbrev pub has : ℕ → List Bits → Bool
has w [] = true
has w (b ∷ bs) = part b.low b.width w == b.value && has w bs

-- each value has room in its place
abbrev pub fit : List Bits → Bool
fit [] = true
fit (b ∷ bs) = nat_lt b.value (2 ^ b.width) && fit bs

-- the word that has these bits and no others
abbrev pub placed : List Bits → ℕ
placed [] = 0
placed (b ∷ bs) = b.value * 2 ^ b.low + placed bs
