-- What is said of rescued listings.
use Rattle.std.specs.Prelude.{ℕ, ◌+◌, ◌^◌, ◌≤◌, ◌<◌, ◌≡◌, true, false, List, [], ◌∷◌, ◌++◌, ◌⊎◌, length, get_or}
use Rattle.ascii.specs.Ascii.{asc, dec}
use Rattle.instruction.specs.declared.answer.Answer.TheVariants.{Done}
use Rattle.instruction.specs.Answers.{answer_number}
use Rattle.instruction.specs.Table.{allocated}
use Rattle.decoder.specs.Decoding.{class_of}
use Rattle.text.specs.Texts.{word_text}
use Rattle.reader.specs.Reading.{Reading, ReadOf}
use Rattle.listing.specs.Listing.{hex8, line_text}
use Rattle.rescue.specs.Lines.{fields_of}

-- none of the bytes is s
abbrev pub Without : ℕ → List ℕ → Type 0
Without s t = (i : ℕ) → i < length t → ¬ (get_or t i 0 ≡ s)

-- 0 to 9, or a to f
abbrev pub LowerDigit : ℕ → Type 0
LowerDigit b = ((48 ≤ b) × (b ≤ 57)) ⊎ ((97 ≤ b) × (b ≤ 102))

-- eight such bytes
abbrev pub EightDigits : List ℕ → Type 0
EightDigits t = (length t ≡ 8) × ((i : ℕ) → i < 8 → LowerDigit (get_or t i 0))

-- a line of exactly two tabs, with the text of an allocated word between them and no eight digits before them
pub record TextLine (line : List ℕ) (w : ℕ) : Type 0 where
  pub before : List ℕ
  pub behind : List ℕ
  pub whole : line ≡ before ++ (9 ∷ (word_text w ++ (9 ∷ behind)))
  pub no_tab : Without 9 before × Without 9 behind
  pub other : ¬ EightDigits before
  pub below : w < 2 ^ 32
  pub defined : allocated w ≡ true

-- lines, each with its newline
abbrev pub ended : List (List ℕ) → List ℕ
ended [] = []
ended (l ∷ ls) = l ++ (10 ∷ []) ++ ended ls

-- the line of the report of the i-th line, counted from 0, where it is kept
abbrev pub kept_row : ℕ → List ℕ
kept_row i = dec (1 + i) ++ (9 ∷ []) ++ asc "kept"

-- a line that is the line of a word, and whose text, if it has one, is read as that word
pub record WordLine (line : List ℕ) : Type 0 where
  pub word : ℕ
  pub below : word < 2 ^ 32
  pub whole : line ++ (10 ∷ []) ≡ line_text word
  pub text : List ℕ
  pub fields : fields_of line ≡ hex8 word ∷ text ∷ ((48 + answer_number (class_of word)) ∷ []) ∷ []
  pub reads : allocated word ≡ true → (text ≡ word_text word) × ((r : Reading) → ReadOf text r → r ≡ record { answer = Done; word = word })
  pub dash : allocated word ≡ false → text ≡ asc "-"
