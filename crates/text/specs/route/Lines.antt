-- A line of text in six pieces: the route of the code to the texts of Texts.
use Rattle.std.specs.Prelude.{ℕ, ◌≡◌, List, [], ◌++◌, eqb}
use Rattle.bits.specs.Choice.{pick}
use Rattle.ascii.specs.Ascii.{asc}
use Rattle.text.specs.Hints.{hint_kind, hint_level, hint_policy, unnamed, hint_text}
use Rattle.text.specs.Texts.{register_text, extend_name, amount_text}
use Rattle.mnemonic.specs.declared.Mnemonic.{Mnemonic}
use Rattle.mnemonic.specs.route.Named.{known}
use Rattle.text.specs.declared.piece.Front.{Front}
use Rattle.text.specs.declared.piece.Pieces.{Pieces}
use Rattle.text.specs.route.Pieces.{text_in}

abbrev pub whole : Pieces → List ℕ
whole p = text_in p.name ++ text_in p.first ++ text_in p.second ++ text_in p.third ++ text_in p.fourth ++ text_in p.last

abbrev pub ahead : Front → List ℕ
ahead f = text_in f.name ++ text_in f.first

pub record Made (t : List ℕ) (p : Pieces) : Type 0 where
  pub text : whole p ≡ t

-- the first operand in two pieces, by its letter, w, x or #; only the name of a hint has the second
abbrev pub hint_front : ℕ → List ℕ
hint_front r = pick (unnamed r) (hint_text r ++ asc ", ") (hint_kind r ++ hint_level r)

abbrev pub hint_rest : ℕ → List ℕ
hint_rest r = pick (unnamed r) [] (hint_policy r ++ asc ", ")

unfoldable pub first_part : ℕ → ℕ → List ℕ
first_part letter r = pick (eqb letter 35) (hint_front r) (register_text letter r ++ asc ", ")

unfoldable pub rest_part : ℕ → ℕ → List ℕ
rest_part letter r = pick (eqb letter 35) (hint_rest r) []

-- a mnemonic and the first piece of the first operand
unfoldable pub front_in : Mnemonic → ℕ → List ℕ
front_in m r = (known m).letters ++ asc " " ++ first_part (known m).letter r

-- the extension of an index, and its amount with the bracket
unfoldable pub extend_part : ℕ → ℕ → List ℕ
extend_part option scaled = pick (eqb option 0b011) (pick (eqb scaled 1) (asc ", lsl") []) (asc ", " ++ extend_name option)

unfoldable pub amount_part : ℕ → ℕ → List ℕ
amount_part scaled amount = amount_text scaled amount ++ asc "]"
