-- A number that bytes of a part of memory make.
use Rattle.std.specs.Prelude.{◌≡◌, ℕ, ◌+◌, ◌*◌, ◌/◌, ◌%◌, ◌^◌, ◌<◌, List}
use Rattle.bits.specs.Bytes.{bytes_of, span_of}

-- the n bytes of the number are those from an index on
pub record Joins (xs : List ℕ) (at n number : ℕ) : Type 0 where
  pub are : bytes_of n number ≡ span_of xs at n
  pub fits : number < 256 ^ n

-- the low n bytes of a number, under what another has above its own
unfoldable pub under : ℕ → ℕ → ℕ → ℕ
under n number old = number % 256 ^ n + old / 256 ^ n * 256 ^ n
