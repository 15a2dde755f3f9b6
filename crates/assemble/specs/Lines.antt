-- How many lines end in some bytes. A newline is byte 10.
use Rattle.std.specs.Prelude.{ℕ, ◌+◌, List, [], ◌∷◌, eqb}
use Rattle.bits.specs.Choice.{pick}

abbrev pub newlines : List ℕ → ℕ
newlines [] = 0
newlines (b ∷ bs) = pick (eqb b 10) 1 0 + newlines bs
