-- What is wrong with a line, in 02's words, and which line is answered: for the page of promises. The tests stand in `Import`.
use Rattle.std.specs.Prelude.{ℕ, zero, suc, ◌+◌, ◌*◌, ◌%◌, ◌^◌, ◌≤◌, ◌<◌, ◌≡◌, Bool, true, List, [], ◌∷◌, ◌++◌, ◌⊎◌, length}
use Rattle.bits.specs.Choice.{pick}
use Rattle.instruction.specs.Answers.{answer_number}
use Rattle.plan.specs.Refusals.{answer_in}
use Rattle.image.specs.Lines.{digit_of, bytes_in, count_in}
use Rattle.image.specs.Records.{type_in, offset_in, total, is_end, upper_after}
use Rattle.image.specs.Import.{faults_of}

abbrev pub AllDigits : List ℕ → Type 0
AllDigits [] = Unit {0}
AllDigits (c ∷ cs) = (digit_of c < 16) × AllDigits cs

-- "a colon and just the digit pairs its count asks, then the newline"
pub record Shape (l : List ℕ) : Type 0 where
  pub digits : List ℕ
  pub is : l ≡ 58 ∷ (digits ++ (10 ∷ []))
  pub all : AllDigits digits
  pub pairs : length digits ≡ 2 * (5 + count_in l)

-- "a count not 2 in type 04 or not 0 in 01"
abbrev pub WrongCount : List ℕ → Type 0
WrongCount l = ((type_in l ≡ 4) × ¬ (count_in l ≡ 2)) ⊎ ((type_in l ≡ 1) × ¬ (count_in l ≡ 0))

-- 13, of a line behind the end or not
abbrev pub IsMalformed : Bool → List ℕ → Type 0
IsMalformed ended l = (ended ≡ true) ⊎ ((¬ Shape l) ⊎ WrongCount l)

-- 14
abbrev pub WrongSum : List ℕ → Type 0
WrongSum l = ¬ (total (bytes_in l 0 (5 + count_in l)) % 256 ≡ 0)

-- 15
abbrev pub WrongType : List ℕ → Type 0
WrongType l = ¬ (type_in l ≡ 0) × ¬ (type_in l ≡ 1) × ¬ (type_in l ≡ 4)

-- "upper half (0 at first), offset and index added modulo 2^32"
abbrev pub address_in : ℕ → List ℕ → ℕ → ℕ
address_in upper l i = (upper * 65536 + offset_in l + i) % 2 ^ 32

-- 7: a byte of it is outside the window
pub record Outside (origin len upper : ℕ) (l : List ℕ) : Type 0 where
  pub index : ℕ
  pub type : type_in l ≡ 0
  pub counted : index < count_in l
  pub address : (address_in upper l index < origin) ⊎ (origin + len ≤ address_in upper l index)

-- the number of a line's first fault, and 0 where it has none
abbrev pub fault_of : ℕ → ℕ → Bool → ℕ → List ℕ → ℕ
fault_of origin len ended upper l = answer_number (answer_in (faults_of origin len ended upper l))

-- that of the line with k lines before it. Behind the last stands one line more, with a fault if the end is missing
abbrev pub fault_at : ℕ → ℕ → Bool → ℕ → List (List ℕ) → ℕ → ℕ
fault_at origin len ended upper [] zero = pick ended 0 13
fault_at origin len ended upper [] (suc k) = 0
fault_at origin len ended upper (l ∷ ls) zero = fault_of origin len ended upper l
fault_at origin len ended upper (l ∷ ls) (suc k) = fault_at origin len (is_end l) (upper_after upper l) ls k

-- the line with k lines before it is the lowest that has a fault, and n is the number of its first
pub record Lowest (origin len : ℕ) (ended : Bool) (upper : ℕ) (ls : List (List ℕ)) (k n : ℕ) : Type 0 where
  pub fault : fault_at origin len ended upper ls k ≡ n
  pub before : (j : ℕ) → j < k → fault_at origin len ended upper ls j ≡ 0

-- "one type 01 line last"
abbrev pub NoEnd : List (List ℕ) → Type 0
NoEnd [] = Unit {0}
NoEnd (l ∷ ls) = (¬ (type_in l ≡ 1)) × NoEnd ls

pub record OneEnd (ls : List (List ℕ)) : Type 0 where
  pub before : List (List ℕ)
  pub last : List ℕ
  pub is : ls ≡ before ++ (last ∷ [])
  pub type : type_in last ≡ 1
  pub others : NoEnd before
