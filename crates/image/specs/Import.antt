-- The import of a HEX text into memory: 02, CR 10.
use Rattle.std.specs.Prelude.{ℕ, suc, ◌+◌, ◌-◌, Bool, true, false, not, List, [], ◌∷◌, eqb, ltb, leb, length, set}
use Rattle.bits.specs.Choice.{pick}
use Rattle.instruction.specs.declared.answer.Answer.{Answer}
use Rattle.instruction.specs.declared.answer.Answer.TheVariants.{Done, BadWindow, OutOfWindow, Malformed, BadChecksum, BadRecordType}
use Rattle.instruction.specs.Answers.{answer_number}
use Rattle.plan.specs.declared.window.Window.{Window}
use Rattle.plan.specs.Window.{bad_window}
use Rattle.plan.specs.Refusals.{Refusal, refusal, first_of}
use Rattle.image.specs.declared.Reply.{Reply}
use Rattle.image.specs.Lines.{lines_of, shaped}
use Rattle.image.specs.Records.{type_in, sum_in, bad_count, bad_type, is_end, upper_after, places_in, places_of}

abbrev pub reply : Answer → ℕ → Reply
reply answer line = record { answer = answer_number answer; line = line }

unfoldable pub beyond : ℕ → ℕ → ℕ → Bool
beyond origin len a = pick (ltb a origin) true (leb (origin + len) a)

abbrev pub any_beyond : ℕ → ℕ → List (ℕ × ℕ) → Bool
any_beyond origin len [] = false
any_beyond origin len (p ∷ ps) = pick (beyond origin len p.0) true (any_beyond origin len ps)

-- the faults of a line in their order, where it has its shape or not, and the end came before it or not
unfoldable pub faults_in : ℕ → ℕ → Bool → Bool → ℕ → List ℕ → List Refusal
faults_in origin len shape ended upper l =
    refusal Malformed (pick ended true (pick shape (bad_count l) true)) 0
    ∷ refusal BadChecksum (not (eqb (sum_in l) 0)) 0
    ∷ refusal BadRecordType (bad_type (type_in l)) 0
    ∷ refusal OutOfWindow (any_beyond origin len (places_in upper l)) 0
    ∷ []

abbrev pub faults_of : ℕ → ℕ → Bool → ℕ → List ℕ → List Refusal
faults_of origin len ended upper l = faults_in origin len (shaped l) ended upper l

-- the lowest line's first fault; a missing end is one line more
abbrev pub checked : ℕ → ℕ → ℕ → Bool → ℕ → List (List ℕ) → Reply
checked origin len n ended upper [] = pick ended (reply Done 0) (reply Malformed n)
checked origin len n ended upper (l ∷ ls) =
    first_of (λ answer address. reply answer n)
    (checked origin len (suc n) (is_end l) (upper_after upper l) ls)
    (faults_of origin len ended upper l)

-- the read-only part may be filled, and there is no program counter
unfoldable pub reply_of : Window → ℕ → ℕ → List ℕ → Reply
reply_of w len taints text = pick (bad_window w len taints 0) (reply BadWindow 0) (checked w.origin len 1 false 0 (lines_of text))

unfoldable pub put : ℕ → ℕ → ℕ → List ℕ → List ℕ
put origin a b xs = pick (ltb a origin) xs (set xs (a - origin) b)

-- each byte is written, and a later one replaces an earlier one
abbrev pub puts : ℕ → List (ℕ × ℕ) → List ℕ → List ℕ
puts origin [] xs = xs
puts origin (p ∷ ps) xs = puts origin ps (put origin p.0 p.1 xs)

-- "marks of written bytes become 0"
abbrev pub clears : ℕ → List (ℕ × ℕ) → List ℕ → List ℕ
clears origin [] xs = xs
clears origin (p ∷ ps) xs = clears origin ps (put origin p.0 0 xs)

pub record Outcome : Type 0 where
  pub reply : Reply
  pub memory : List ℕ
  pub taint : List ℕ

abbrev pub outcome : Reply → List ℕ → List ℕ → Outcome
outcome r memory taint = record { reply = r; memory = memory; taint = taint }

abbrev pub is_done : Reply → Bool
is_done r = eqb r.answer 0

abbrev pub settled : Reply → ℕ → List (ℕ × ℕ) → List ℕ → List ℕ → Outcome
settled r origin ps memory taint =
    outcome r (pick (is_done r) (puts origin ps memory) memory) (pick (is_done r) (clears origin ps taint) taint)

unfoldable pub import_of : Window → List ℕ → List ℕ → List ℕ → Outcome
import_of w text memory taint =
    settled (reply_of w (length memory) (length taint) text) w.origin (places_of 0 (lines_of text)) memory taint
