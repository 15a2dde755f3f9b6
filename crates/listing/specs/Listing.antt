-- The listing of a run of bytes: 01, "Lines of text". Fields are parted by tabs, byte 9, and lines end in a newline, byte 10.
use Rattle.std.specs.Prelude.{ℕ, ◌+◌, ◌*◌, ◌/◌, ◌%◌, ◌≤◌, ◌≡◌, List, [], ◌∷◌, ◌++◌, eqb, Result, Ok, Err}
use Rattle.std.proofs.Math.ListN
use Rattle.bits.specs.Choice.{pick}
use Rattle.instruction.specs.Answers.{answer_number}
use Rattle.instruction.specs.declared.answer.Answer.{Answer}
use Rattle.instruction.specs.declared.answer.Answer.TheVariants.{Done}
use Rattle.instruction.specs.Table.{allocated}
use Rattle.decoder.specs.Decoding.{class_of}
use Rattle.ascii.specs.Ascii.{asc}
use Rattle.text.specs.Texts.{word_text, text_most}
use Rattle.printer.specs.Writing.{Outcome, copied}

-- a digit in lower case
unfoldable pub hex_digit : ℕ → ℕ
hex_digit n = ListN.get_or (asc "0123456789abcdef") n 0

-- the four digits of a number of 16 bits
unfoldable pub hex4 : ℕ → List ℕ
hex4 n = hex_digit (n / 4096 % 16) ∷ hex_digit (n / 256 % 16) ∷ hex_digit (n / 16 % 16) ∷ hex_digit (n / 1 % 16) ∷ []

unfoldable pub hex8 : ℕ → List ℕ
hex8 w = hex4 (w / 65536) ++ hex4 (w / 1 % 65536)

-- the text of an allocated word, or a dash
unfoldable pub content_text : ℕ → List ℕ
content_text w = pick (allocated w) (word_text w) (asc "-")

-- the answer 0, 2, 3 or 4 of a word, and the end of its line
unfoldable pub answer_text : ℕ → List ℕ
answer_text w = (48 + answer_number (class_of w)) ∷ 10 ∷ []

unfoldable pub line_text : ℕ → List ℕ
line_text w = hex8 w ++ (9 ∷ []) ++ content_text w ++ (9 ∷ []) ++ answer_text w

-- the line of n bytes that are left over, none for no bytes
unfoldable pub short_text : ℕ → List ℕ
short_text n = pick (eqb n 0) [] (asc "short" ++ (9 ∷ 45 ∷ 9 ∷ []) ++ ((48 + n) ∷ 10 ∷ []))

-- the most bytes that a line has without its newline: eight digits, a text, an answer, and two tabs between them (02, CR 4)
abbrev pub line_most : ℕ
line_most = text_most + 11

-- a line of at most so many bytes, and its newline
pub record Within (most : ℕ) (t : List ℕ) : Type 0 where
  pub line : List ℕ
  pub ended : t ≡ line ++ (10 ∷ [])
  pub short : ListN.length line ≤ most

-- four bytes as a little-endian word
unfoldable pub word_of : ℕ → ℕ → ℕ → ℕ → ℕ
word_of a b c d = a + b * 0x100 + c * 0x1_0000 + d * 0x100_0000

abbrev pub listing_of : List ℕ → List ℕ
listing_of [] = short_text 0
listing_of (a ∷ []) = short_text 1
listing_of (a ∷ b ∷ []) = short_text 2
listing_of (a ∷ b ∷ c ∷ []) = short_text 3
listing_of (a ∷ b ∷ c ∷ d ∷ rest) = line_text (word_of a b c d) ++ listing_of rest

-- what is returned, and what the output holds after it: the length is 0 where it is refused
abbrev pub outcome : Result ℕ Answer → List ℕ → Outcome
outcome (Ok n) output = record { answer = Done; length = n; buffer = output }
outcome (Err answer) output = record { answer = answer; length = 0; buffer = output }

-- the listing at the start of an output, or answer 10 where the output is shorter
unfoldable pub list_of : List ℕ → List ℕ → Outcome
list_of bytes output = copied (listing_of bytes) output
