-- What a function that puts a piece of text into a line at a position leaves, and the position that it returns.
use Rattle.std.specs.Prelude.{ℕ, ◌+◌, min, max, ◌≡◌, List, length}
use Rattle.std.proofs.lemmas.List.Edits.{sets}

-- the bytes of the piece that the line has room for stand in it from the position on; the position behind them is returned
pub record Puts (before : List ℕ) (at : ℕ) (piece after : List ℕ) (next : ℕ) : Type 0 where
  pub text : after ≡ sets before at piece
  pub place : next ≡ max at (min (at + length piece) (length before))
