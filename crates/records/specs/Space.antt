-- Which words touch memory, of the set or not, by the word alone: what a host asks before it computes a word itself.
use Rattle.std.specs.Prelude.{ℕ, Bool, ◌&&◌, ◌||◌, [], ◌∷◌, eqb}
use Rattle.bits.specs.Choice.{any}
use Rattle.bits.specs.Fields.{field, bits, has}

-- Arm's top-level table of A64: op1, bits 28..25, is x1x0 for "Loads and Stores"
unfoldable pub load_or_store : ℕ → Bool
load_or_store w = has w (bits 27 27 1 ∷ bits 25 25 0 ∷ [])

-- `dc zva`, `dc gva` and `dc gzva`, which set a block of memory or its tags: `sys #3, c7, c4` with op2 1, 3 and 4, and any Xt
unfoldable pub sets_block : ℕ → Bool
sets_block w = eqb (field 31 8 w) 0xd50b74 && any (eqb (field 7 5 w)) (1 ∷ 3 ∷ 4 ∷ [])

unfoldable pub touches_memory : ℕ → Bool
touches_memory w = load_or_store w || sets_block w
