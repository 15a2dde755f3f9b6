-- What became of blocks that were handed on one after the other. Which bytes they have is the system's to say.
use Rattle.std.specs.Prelude.{ℕ, ◌<◌, ◌≤◌, ◌≡◌, ◌⊎◌, List, length, Result, Ok}
use Prim.{Unit}
use denote.Ref.{Bor}
use Rattle.std.specs.List.{FoldsTo}

-- a full block was handled
abbrev pub FullStep : {F E : Type 0} → ℕ → (F → Bor (List ℕ) → Result (Unit {0}) E → F → Type 0) → F → Bor (List ℕ) → F → Type 0
FullStep size step f block g = (length block.now ≡ size) × step f block (Ok tt) g

-- a last block gave a result: it may be shorter, and isn't empty
abbrev pub LastStep : {F E : Type 0} → ℕ → (F → Bor (List ℕ) → Result (Unit {0}) E → F → Type 0) → F → Result (Unit {0}) E → F → Type 0
LastStep size step f result g = (block : Bor (List ℕ)) × (0 < length block.now) × (length block.now ≤ size) × step f block result g

-- so full blocks gave a result, or a last one behind them
abbrev pub Handled : {F E : Type 0} → ℕ → (F → Bor (List ℕ) → Result (Unit {0}) E → F → Type 0) → F → Result (Unit {0}) E → F → Type 0
Handled size step first result last =
    (full : List (Bor (List ℕ))) × (f : _) × FoldsTo (FullStep size step) first full f × (((result ≡ Ok tt) × (f ≡ last)) ⊎ LastStep size step f result last)
