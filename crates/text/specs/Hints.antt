-- The hint of a prefetch: 02, CR 7. Three fields of Rt have a name each.
use Rattle.std.specs.Prelude.{ℕ, Bool, ◌||◌, List, [], ◌∷◌, ◌++◌, eqb}
use Rattle.bits.specs.Choice.{pick, lookup}
use Rattle.bits.specs.Fields.{field}
use Rattle.ascii.specs.Ascii.{asc, dec}

-- "Rt bits 4..3 give pld, pli, pst for 0, 1, 2"
abbrev pub hint_kind : ℕ → List ℕ
hint_kind r = lookup [] ((0, asc "pld") ∷ (1, asc "pli") ∷ (2, asc "pst") ∷ []) (field 4 3 r)

-- "bits 2..1 give l1, l2, l3"
abbrev pub hint_level : ℕ → List ℕ
hint_level r = lookup [] ((0, asc "l1") ∷ (1, asc "l2") ∷ (2, asc "l3") ∷ []) (field 2 1 r)

-- "bit 0 gives keep or strm"
abbrev pub hint_policy : ℕ → List ℕ
hint_policy r = pick (eqb (field 0 0 r) 0) (asc "keep") (asc "strm")

-- "Where either pair of bits is 3, `#` and decimal stay"
abbrev pub unnamed : ℕ → Bool
unnamed r = eqb (field 4 3 r) 3 || eqb (field 2 1 r) 3

unfoldable pub hint_text : ℕ → List ℕ
hint_text r = pick (unnamed r) (asc "#" ++ dec r) (hint_kind r ++ hint_level r ++ hint_policy r)
