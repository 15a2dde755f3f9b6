-- A text by what is left of it: code reads a line at the start of the rest, without a search for its newline.
use Rattle.std.specs.Prelude.{ℕ, zero, suc, ◌+◌, ◌*◌, ◌%◌, ◌≡◌, Bool, false, ⊤, Result, Ok, Err, List, [], ◌∷◌, eqb, ltb, length, get_or, drop}
use Rattle.bits.specs.Choice.{pick}
use Rattle.instruction.specs.declared.answer.Answer.TheVariants.{Done}
use Rattle.instruction.specs.Answers.{answer_number}
use Rattle.image.specs.declared.Reply.{Reply}
use Rattle.image.specs.declared.text.Fault.{Fault}
use Rattle.image.specs.Lines.{digit_of, digits_in, byte_in, count_in}
use Rattle.image.specs.Records.{placed}
use Rattle.image.specs.Import.{reply, any_beyond}

-- the length of the first line
abbrev pub line_end : List ℕ → ℕ
line_end [] = 0
line_end (c ∷ cs) = pick (eqb c 10) 1 (suc (line_end cs))

-- a line that has its shape, and whatever is behind it
unfoldable pub begins : List ℕ → Bool
begins t = pick (eqb (get_or t 0 0) 58) (pick (digits_in t 1 (2 * (5 + count_in t))) (eqb (get_or t (2 * count_in t + 11) 0) 10) false) false

-- n bytes from byte i on added to a sum, modulo 256, and 256 where one of their digits is none
abbrev pub summed : List ℕ → ℕ → ℕ → ℕ → ℕ
summed t i zero sum = sum % 256
summed t i (suc n) sum =
    pick (ltb (digit_of (get_or t (2 * i + 1) 0)) 16)
    (pick (ltb (digit_of (get_or t (2 * i + 2) 0)) 16) (summed t (suc i) n (sum + byte_in t i)) 256)
    256

-- r is that of n bytes from the first on
pub record Sums (t : List ℕ) (n r : ℕ) : Type 0 where
  pub is : r ≡ summed t 0 n 0

-- r says whether one of n bytes from an address on is outside the window, whatever the bytes are
pub record SomeBeyond (origin len a n : ℕ) (r : Bool) : Type 0 where
  pub is : (bs : List ℕ) → length bs ≡ n → r ≡ any_beyond origin len (placed a bs)

-- what is behind a line that has its shape
abbrev pub behind : List ℕ → List ℕ
behind t = drop (2 * count_in t + 12) t

-- what is returned stands for a reply: an error is never answer 0
abbrev pub Replies : Result ⊤ Fault → Reply → Type 0
Replies (Ok u) r = r ≡ reply Done 0
Replies (Err e) r = (r ≡ reply e.answer e.line) × (answer_number e.answer ≡ 0 → ⊥)
