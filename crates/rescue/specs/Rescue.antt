-- Rescue of damaged listings: 02, CR 14.
use Rattle.std.specs.Prelude.{ℕ, suc, ◌^◌, ◌<◌, ◌≡◌, Bool, ◌||◌, List, [], ◌∷◌, ◌++◌, ltb}
use Rattle.std.proofs.Math.ListN
use Rattle.std.proofs.lemmas.List.Edits.{sets}
use Rattle.bits.specs.Choice.{pick}
use Rattle.ascii.specs.Ascii.{asc, dec}
use Rattle.instruction.specs.declared.answer.Answer.TheVariants.{Done, NoRoom}
use Rattle.instruction.specs.Answers.{answer_number}
use Rattle.reader.specs.Reading.{LineOf}
use Rattle.listing.specs.Listing.{hex8, line_text}
use Rattle.rescue.specs.Lines.{lines_of, fields_of}
use Rattle.rescue.specs.declared.Fate.{Fate}
use Rattle.rescue.specs.declared.Fate.TheVariants.{Kept, Restored, Dropped}
use Rattle.rescue.specs.declared.Reply.{Reply}

-- ---- a line

-- "eight lower-case hex digits": those of some word
abbrev pub Digits : List ℕ → Type 0
Digits t = (w : ℕ) × (w < 2 ^ 32) × (hex8 w ≡ t)

-- "exactly what its eight lower-case hex digits give": with its newline, the line of a word
pub record KeptAs (line : List ℕ) (w : ℕ) : Type 0 where
  pub below : w < 2 ^ 32
  pub whole : line ++ (10 ∷ []) ≡ line_text w

-- "a line of exactly two tabs, if the first field isn't such digits but the second is an allocated word's text"
pub record RestoredAs (line : List ℕ) (w : ℕ) : Type 0 where
  pub first : List ℕ
  pub second : List ℕ
  pub third : List ℕ
  pub fields : fields_of line ≡ first ∷ second ∷ third ∷ []
  pub other : ¬ Digits first
  pub text : LineOf w second

-- "Drop any other"
abbrev pub FateOf : List ℕ → Fate → Type 0
FateOf line (Kept w) = KeptAs line w
FateOf line (Restored w) = RestoredAs line w
FateOf line Dropped = (w : ℕ) → (¬ KeptAs line w) × (¬ RestoredAs line w)

-- ---- the lines of an input

-- a fate for each line
pub data Fates : List (List ℕ) → List Fate → Type 0 where
  none : Fates [] []
  next : {line : List ℕ} {lines : List (List ℕ)} {fate : Fate} {fates : List Fate} → FateOf line fate → Fates lines fates
      → Fates (line ∷ lines) (fate ∷ fates)

-- what is put out for a line
abbrev pub line_out : Fate → List ℕ
line_out (Kept w) = line_text w
line_out (Restored w) = line_text w
line_out Dropped = []

abbrev pub output_of : List Fate → List ℕ
output_of [] = []
output_of (f ∷ fs) = line_out f ++ output_of fs

abbrev pub fate_name : Fate → List ℕ
fate_name (Kept w) = asc "kept"
fate_name (Restored w) = asc "restored"
fate_name Dropped = asc "dropped"

-- a line of the report, without its newline
unfoldable pub report_line : ℕ → Fate → List ℕ
report_line n f = dec n ++ (9 ∷ []) ++ fate_name f

-- the report of lines that are numbered from n
abbrev pub report_from : ℕ → List Fate → List ℕ
report_from n [] = []
report_from n (f ∷ fs) = report_line n f ++ (10 ∷ []) ++ report_from (suc n) fs

abbrev pub report_of : List Fate → List ℕ
report_of fs = report_from 1 fs

-- ---- two lent buffers

-- what is returned, and what the buffers hold after it
pub record Outcome : Type 0 where
  pub answer : ℕ
  pub length : ℕ
  pub report_length : ℕ
  pub output : List ℕ
  pub report : List ℕ

abbrev pub outcome : Reply → List ℕ → List ℕ → Outcome
outcome r output report =
    record { answer = r.answer; length = r.length; report_length = r.report_length; output = output; report = report }

-- "output or report lacks room"
abbrev pub lacks : List ℕ → List ℕ → List ℕ → List ℕ → Bool
lacks text rows output report = ltb (ListN.length output) (ListN.length text) || ltb (ListN.length report) (ListN.length rows)

-- two texts, each at the start of its buffer, or answer 10, "both unchanged"
unfoldable pub both_put : List ℕ → List ℕ → List ℕ → List ℕ → Outcome
both_put text rows output report =
    record {
      answer = pick (lacks text rows output report) (answer_number NoRoom) (answer_number Done);
      length = pick (lacks text rows output report) 0 (ListN.length text);
      report_length = pick (lacks text rows output report) 0 (ListN.length rows);
      output = pick (lacks text rows output report) output (sets output 0 text);
      report = pick (lacks text rows output report) report (sets report 0 rows);
    }

-- what rescue leaves
pub record RescueOf (input output report : List ℕ) (left : Outcome) : Type 0 where
  pub fates : List Fate
  pub each : Fates (lines_of input) fates
  pub put : left ≡ both_put (output_of fates) (report_of fates) output report
