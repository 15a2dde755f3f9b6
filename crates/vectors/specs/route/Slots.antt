-- The slots of a machine that hold no vector register.
use Rattle.std.specs.Prelude.{ℕ, ◌≡◌, false}
use Rattle.vectors.specs.File.{vector_slot}

-- a slot that is general, or none
abbrev pub Plain : ℕ → Type 0
Plain slot = vector_slot slot ≡ false
