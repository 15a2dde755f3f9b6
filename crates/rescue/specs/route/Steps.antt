-- What the steps of the code return and leave.
use Rattle.std.specs.Prelude.{ℕ, ◌+◌, ◌-◌, ◌≤◌, ◌≡◌, Bool, not, ◌||◌, List, ◌∷◌, ltb, length, take, drop}
use Rattle.ascii.specs.route.Puts.{Puts}
use Rattle.listing.specs.Listing.{hex8, line_text}
use Rattle.rescue.specs.Lines.{lines_of, fields_of}
use Rattle.rescue.specs.route.Search.{until}
use Rattle.rescue.specs.Rescue.{Digits, FateOf, Fates, output_of, report_of}
use Rattle.rescue.specs.declared.Fate.{Fate}
use Rattle.rescue.specs.declared.Fate.TheVariants.{Kept, Restored, Dropped}

-- whether both texts have room
pub record FitsAs (input : List ℕ) (room reportRoom : ℕ) (r : Bool) : Type 0 where
  pub fates : List Fate
  pub each : Fates (lines_of input) fates
  pub is : r ≡ not (ltb room (length (output_of fates)) || ltb reportRoom (length (report_of fates)))

-- both texts are put
pub record PutAs (input output report after reportAfter : List ℕ) (end reportEnd : ℕ) : Type 0 where
  pub fates : List Fate
  pub each : Fates (lines_of input) fates
  pub lines : Puts output 0 (output_of fates) after end
  pub rows : Puts report 0 (report_of fates) reportAfter reportEnd

-- the line at an index: where it ends, before its newline, and its fate
pub record LineAt (input : List ℕ) (at end : ℕ) (fate : Fate) : Type 0 where
  pub ends : end ≡ at + until 10 (drop at input)
  pub most : end ≤ length input
  pub is : FateOf (take (end - at) (drop at input)) fate

-- the line of a word stands at an index, with its newline
pub record Stands (input : List ℕ) (at w long : ℕ) : Type 0 where
  pub all : long ≡ length (line_text w)
  pub is : take long (drop at input) ≡ line_text w

-- a line whose first field is the digits of a word
pub record WordFirst (line : List ℕ) (w : ℕ) : Type 0 where
  pub rest : List (List ℕ)
  pub fields : fields_of line ≡ hex8 w ∷ rest

-- a line whose first field is other, and ends at an index
pub record OtherFirst (line : List ℕ) (first : ℕ) : Type 0 where
  pub ends : first ≡ until 9 line
  pub other : ¬ Digits (take first line)

-- a line of so many bytes, where it is kept
abbrev pub LongAs : ℕ → Fate → Type 0
LongAs n (Kept w) = n + 1 ≡ length (line_text w)
LongAs n (Restored w) = Unit {0}
LongAs n Dropped = Unit {0}
