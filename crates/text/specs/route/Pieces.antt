-- Short texts that are packed into numbers: the route of the code, not what a line is, which Texts says.
use Rattle.std.specs.Prelude.{ℕ, zero, suc, ◌+◌, ◌/◌, ◌%◌, ◌^◌, ◌≡◌, List, [], ◌∷◌, ◌++◌, ltb, length}
use Rattle.bits.specs.Choice.{pick}
use Rattle.bits.specs.Bytes.{bytes_of}
use Rattle.text.specs.declared.piece.Piece.{Piece}

-- the text of a piece
unfoldable pub text_in : Piece → List ℕ
text_in p = bytes_of p.length p.bytes

pub record Shows (t : List ℕ) (p : Piece) : Type 0 where
  pub text : text_in p ≡ t
  pub long : p.length ≡ length t

-- a piece with a text before another
pub record Leads (t : List ℕ) (rest p : Piece) : Type 0 where
  pub text : text_in p ≡ t ++ text_in rest
  pub longer : p.length ≡ length t + rest.length

-- the last k digits of a number, with zeros in front
abbrev pub padded : ℕ → ℕ → List ℕ
padded zero n = []
padded (suc k) n = padded k (n / 10) ++ ((48 + n % 10) ∷ [])

unfoldable pub reaches_of : ℕ → ℕ → ℕ
reaches_of n least = pick (ltb n least) 0 1

-- how many digits a number below 10 ^ suc k has
abbrev pub count_to : ℕ → ℕ → ℕ
count_to zero n = 1
count_to (suc k) n = count_to k n + reaches_of n (10 ^ suc k)
