-- When a word of a row gives answer 4: 01, "Answer numbers", and 02, CR 3 and CR 12. Which of these is a row's stands in the table.
use Rattle.std.specs.Prelude.{ℕ, Bool, ◌&&◌, ◌||◌, not, eqb}
use Rattle.bits.specs.Fields.{field}

-- Rn is not 31 and is register r
unfoldable pub base_is : ℕ → ℕ → Bool
base_is r w = not (eqb (field 9 5 w) 31) && eqb (field 9 5 w) r

-- "A vector register never collides with a base": writeback over register r is of general registers alone
unfoldable pub over_base : ℕ → ℕ → Bool
over_base r w = eqb (field 26 26 w) 0 && base_is r w

-- writeback over Rt
abbrev pub unpredictable_base : ℕ → Bool
unpredictable_base w = over_base (field 4 0 w) w

-- writeback, in the modes 01 and 11, over Rt or Rt2; or L is 1 and Rt is Rt2
unfoldable pub unpredictable_pair : ℕ → Bool
unpredictable_pair w =
    (eqb (field 23 23 w) 1 && (over_base (field 4 0 w) w || over_base (field 14 10 w) w))
    || (eqb (field 22 22 w) 1 && eqb (field 4 0 w) (field 14 10 w))

-- "status register equal to the data register, or to a base other than 31": Rs and Rt, Rs and Rn
unfoldable pub unpredictable_status : ℕ → Bool
unpredictable_status w = eqb (field 20 16 w) (field 4 0 w) || base_is (field 20 16 w) w
