-- Rescue of damaged listings: 02, CR 14, sentence by sentence. A call is what is handed in and lent, and any reply and buffers that the
-- contract of `milestarling_rescue` allows.
use Rattle.std.specs.Prelude.{ℕ, ◌+◌, ◌*◌, ◌%◌, ◌^◌, ◌≤◌, ◌<◌, ◌≡◌, true, List, [], ◌∷◌, ◌++◌, ◌↔◌, ◌⊎◌, length, take, get_or}
use Rattle.std.proofs.lemmas.List.Edits.{sets}
use Rattle.ascii.specs.Ascii.{asc, dec}
use Rattle.instruction.specs.Answers.{answer_number}
use Rattle.decoder.specs.Decoding.{class_of}
use Rattle.text.specs.Texts.{word_text}
use Rattle.listing.specs.Listing.{line_text, short_text, listing_of}
use Rattle.rescue.specs.declared.Fate.{Fate}
use Rattle.rescue.specs.declared.Fate.TheVariants.{Kept, Restored, Dropped}
use Rattle.rescue.specs.declared.Reply.{Reply}
use Rattle.rescue.specs.Lines.{lines_of, fields_of}
use Rattle.rescue.specs.Rescue.{Digits, FateOf, Fates, line_out, output_of, report_line, report_of, outcome, RescueOf}
use Rattle.rescue.specs.Whole.{Without, EightDigits, TextLine, ended, kept_row, WordLine}
use Rattle.promises.specs.Answered.{one_of}

pub record RescueCall : Type 0 where
  pub input : List ℕ
  -- the lent buffers, before and after
  pub output : List ℕ
  pub report : List ℕ
  pub output' : List ℕ
  pub report' : List ℕ
  pub reply : Reply
  pub allowed : RescueOf input output report (outcome reply output' report')

-- what a call puts out, and its report
abbrev pub rescued : RescueCall → List ℕ
rescued c = take c.reply.length c.output'

abbrev pub reported : RescueCall → List ℕ
reported c = take c.reply.report_length c.report'

-- "kept" is said of every line
abbrev pub SaysKept : RescueCall → Type 0
SaysKept c = (length (lines_of (reported c)) ≡ length (lines_of c.input)) × ((i : ℕ) → i < length (lines_of c.input) → get_or (lines_of (reported c)) i [] ≡ kept_row i)

pub record Rescue : Type 0 where
  -- "Go line by line; the last may lack its newline": lines part at newlines only, and no bytes are no line
  pub no_line : lines_of [] ≡ []
  pub first_line : (t rest : List ℕ) → Without 10 t → lines_of (t ++ (10 ∷ rest)) ≡ t ∷ lines_of rest
  pub last_line : (t : List ℕ) → Without 10 t → 0 < length t → lines_of t ≡ t ∷ []
  -- each line has a fate of its own
  pub fates : (lines : List (List ℕ)) (fs : List Fate) → Fates lines fs
      → (length fs ≡ length lines) × ((i : ℕ) → i < length lines → FateOf (get_or lines i []) (get_or fs i Dropped))
  -- "Keep a line that is exactly what its eight lower-case hex digits give", "Drop any other": every line has just one fate
  pub one_fate : (line : List ℕ) → (f : Fate) × FateOf line f × ((g : Fate) → FateOf line g → g ≡ f)
  pub kept : (line : List ℕ) (w : ℕ) → FateOf line (Kept w) ↔ ((w < 2 ^ 32) × (line ++ (10 ∷ []) ≡ line_text w))
  -- "In a line of exactly two tabs, if the first field isn't such digits but the second is an allocated word's text, restore the line from
  -- that text", whatever the third field, a word of answer 4 included. A first field of eight digits is kept or dropped
  pub restored : (line : List ℕ) (w : ℕ) → FateOf line (Restored w) ↔ TextLine line w
  pub digits : (t : List ℕ) → Digits t ↔ EightDigits t
  pub two_tabs : (a t b : List ℕ) → Without 9 a → Without 9 t → Without 9 b → fields_of (a ++ (9 ∷ (t ++ (9 ∷ b)))) ≡ a ∷ t ∷ b ∷ []
  pub answer_4 : (a b : List ℕ) (w : ℕ) → Without 9 a → Without 9 b → ¬ Digits a → w < 2 ^ 32 → answer_number (class_of w) ≡ 4
      → (f : Fate) → FateOf (a ++ (9 ∷ (word_text w ++ (9 ∷ b)))) f → line_out f ≡ line_text w
  pub not_restored : (line a : List ℕ) (rest : List (List ℕ)) → fields_of line ≡ a ∷ rest → Digits a → (w : ℕ) → ¬ FateOf line (Restored w)
  -- "`short` lines included"
  pub short : (line : List ℕ) (n : ℕ) → 0 < n → line ++ (10 ∷ []) ≡ short_text n → (f : Fate) → FateOf line f → f ≡ Dropped
  -- what is put out for a line, in the order of the lines
  pub put_out : (w : ℕ) → (line_out (Kept w) ≡ line_text w) × (line_out (Restored w) ≡ line_text w) × (line_out Dropped ≡ [])
  pub in_order : (f : Fate) (fs : List Fate) → (output_of [] ≡ []) × (output_of (f ∷ fs) ≡ line_out f ++ output_of fs)
  -- it answers, "10 if output or report lacks room", and exactly then, "both unchanged" and both lengths 0
  pub answers : (c : RescueCall) → one_of (0 ∷ 10 ∷ []) c.reply.answer ≡ true
  pub exactly : (c : RescueCall) (fs : List Fate) → Fates (lines_of c.input) fs
      → (c.reply.answer ≡ 10) ↔ ((length c.output < length (output_of fs)) ⊎ (length c.report < length (report_of fs)))
  pub refused : (c : RescueCall) → c.reply.answer ≡ 10
      → (c.reply.length ≡ 0) × (c.reply.report_length ≡ 0) × (c.output' ≡ c.output) × (c.report' ≡ c.report)
  -- what is put out, and the report, from the buffers' starts; the rest stays
  pub done : (c : RescueCall) (fs : List Fate) → Fates (lines_of c.input) fs → c.reply.answer ≡ 0
      → (rescued c ≡ output_of fs) × (reported c ≡ report_of fs) × (c.output' ≡ sets c.output 0 (output_of fs)) × (c.report' ≡ sets c.report 0 (report_of fs))
  -- "Report each line's number from 1 and kept, restored or dropped, parted by a tab": one line for each of the input
  pub rows : (c : RescueCall) (fs : List Fate) → Fates (lines_of c.input) fs → c.reply.answer ≡ 0
      → (length (lines_of (reported c)) ≡ length (lines_of c.input))
      × ((i : ℕ) → i < length (lines_of c.input) → get_or (lines_of (reported c)) i [] ≡ report_line (1 + i) (get_or fs i Dropped))
  pub names : (n w : ℕ)
      → (report_line n (Kept w) ≡ dec n ++ (9 ∷ []) ++ asc "kept") × (report_line n (Restored w) ≡ dec n ++ (9 ∷ []) ++ asc "restored")
      × (report_line n Dropped ≡ dec n ++ (9 ∷ []) ++ asc "dropped")
  -- "Lines put out, the report's too, end in a newline"
  pub newlines : (c : RescueCall) → c.reply.answer ≡ 0 → (rescued c ≡ ended (lines_of (rescued c))) × (reported c ≡ ended (lines_of (reported c)))
  -- "A listing correct by today's rules, without a `short` line, comes back unchanged"
  pub correct : (c : RescueCall) (bytes : List ℕ) → ((i : ℕ) → get_or bytes i 0 < 256) → length bytes % 4 ≡ 0 → c.input ≡ listing_of bytes → c.reply.answer ≡ 0
      → (rescued c ≡ c.input) × SaysKept c
  -- "and a second pass changes nothing"
  pub second : (c d : RescueCall) → c.reply.answer ≡ 0 → d.input ≡ rescued c → d.reply.answer ≡ 0 → (rescued d ≡ d.input) × SaysKept d
  -- each line put out is the line of a word, and says the word of its text, so that a rescued listing assembles
  pub whole : (c : RescueCall) → c.reply.answer ≡ 0 → (i : ℕ) → i < length (lines_of (rescued c)) → WordLine (get_or (lines_of (rescued c)) i [])
  -- rooms that always suffice, by the bytes of the input and its lines, of which there are no more
  pub room : (c : RescueCall) → length c.input + length (lines_of c.input) * 10 ≤ length c.output → length (lines_of c.input) * 30 ≤ length c.report → c.reply.answer ≡ 0
  pub few_lines : (c : RescueCall) → length (lines_of c.input) ≤ length c.input
