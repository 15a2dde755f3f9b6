-- Lines of an Intel HEX text, and the bytes of a line: 02, CR 10. A newline is 10, a colon 58.
use Rattle.std.specs.Prelude.{ℕ, zero, suc, ◌+◌, ◌*◌, ◌%◌, Bool, true, false, List, [], ◌∷◌, eqb, ltb, length, get_or}
use Rattle.bits.specs.Choice.{pick, lookup}

abbrev pub grown : ℕ → List (List ℕ) → List (List ℕ)
grown c [] = (c ∷ []) ∷ []
grown c (l ∷ ls) = (c ∷ l) ∷ ls

-- the lines of a text, each with its newline, which only the last may lack
abbrev pub lines_of : List ℕ → List (List ℕ)
lines_of [] = []
lines_of (c ∷ cs) = pick (eqb c 10) ((c ∷ []) ∷ lines_of cs) (grown c (lines_of cs))

-- the digits, upper and lower case, with their values
abbrev pub digit_table : List (ℕ × ℕ)
digit_table =
    (48, 0) ∷ (49, 1) ∷ (50, 2) ∷ (51, 3) ∷ (52, 4) ∷ (53, 5) ∷ (54, 6) ∷ (55, 7) ∷ (56, 8) ∷ (57, 9)
    ∷ (65, 10) ∷ (66, 11) ∷ (67, 12) ∷ (68, 13) ∷ (69, 14) ∷ (70, 15)
    ∷ (97, 10) ∷ (98, 11) ∷ (99, 12) ∷ (100, 13) ∷ (101, 14) ∷ (102, 15)
    ∷ []

-- the value of a digit, and 16 of any other byte
unfoldable pub digit_of : ℕ → ℕ
digit_of c = lookup 16 digit_table c

-- n digits from an index on
abbrev pub digits_in : List ℕ → ℕ → ℕ → Bool
digits_in l at zero = true
digits_in l at (suc n) = pick (ltb (digit_of (get_or l at 0)) 16) (digits_in l (suc at) n) false

-- byte i of a line: the pair of digits behind the colon and i pairs. The remainders only make the definition total
unfoldable pub byte_in : List ℕ → ℕ → ℕ
byte_in l i = digit_of (get_or l (2 * i + 1) 0) % 16 * 16 + digit_of (get_or l (2 * i + 2) 0) % 16

abbrev pub bytes_in : List ℕ → ℕ → ℕ → List ℕ
bytes_in l i zero = []
bytes_in l i (suc n) = byte_in l i ∷ bytes_in l (suc i) n

abbrev pub count_in : List ℕ → ℕ
count_in l = byte_in l 0

-- a colon, the pairs of digits that the count asks, the newline, and nothing else
unfoldable pub shaped : List ℕ → Bool
shaped l =
    pick (eqb (get_or l 0 0) 58)
    (pick (digits_in l 1 (2 * (5 + count_in l)))
    (pick (eqb (get_or l (2 * count_in l + 11) 0) 10)
    (eqb (length l) (2 * count_in l + 12))
    false)
    false)
    false
