-- The numbers of a case, which stand one behind the other.
use Rattle.std.specs.Prelude.{ℕ, ◌*◌, min, List, drop}
use Rattle.bits.specs.Bytes.{joined, span_of}

-- the number at an index, of so many bytes each, at most 8: the lowest byte first, and 0 past the end
abbrev pub number_in : List ℕ → ℕ → ℕ → ℕ
number_in bytes width i = joined (span_of (drop (i * width) bytes) 0 (min width 8))
