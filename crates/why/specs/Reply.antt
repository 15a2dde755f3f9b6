-- What the tool says: 02, CR 8, its refusals "in that order, output unchanged".
use Rattle.std.specs.Prelude.{ℕ, ◌+◌, ◌-◌, ◌*◌, Bool, true, false, List, [], ◌∷◌, ◌++◌, length, ◌==◌, nat_lt}
use Rattle.std.proofs.lemmas.List.Edits.{sets}
use Rattle.bits.specs.Choice.{pick}
use Rattle.instruction.specs.declared.answer.Answer.TheVariants.{BadWindow, OutOfWindow, NoRoom, NoSuchInstruction, BadTrace, AfterEnd}
use Rattle.instruction.specs.Answers.{answer_number}
use Rattle.plan.specs.declared.window.Window.{Window}
use Rattle.plan.specs.Window.{bad_window}
use Rattle.plan.specs.Admission.{outside}
use Rattle.plan.specs.Refusals.{Refusal, refusal, answer_in}
use Rattle.machine.specs.Origins.{Place, of_register, of_memory}
use Rattle.why.specs.declared.Question.{Question}
use Rattle.why.specs.declared.Reply.{Reply}
use Rattle.why.specs.Trail.{Past, Link, numbers_of, trail_of, told}
use Rattle.why.specs.Trace.{wrong_trace}

-- the slot of a register, or of a vector register
abbrev pub slot_of : Question → ℕ
slot_of q = pick (q.kind == 0) q.number (32 + q.number)

-- the place of a question that is not refused
abbrev pub place_of : ℕ → Question → Place
place_of origin q = pick (q.kind == 1) (of_memory (q.number - origin)) (of_register (slot_of q) q.byte)

-- 7: "a byte outside the window"
abbrev pub no_byte : Window → ℕ → Question → Bool
no_byte w len q = pick (q.kind == 1) (outside 1 q.number w.origin len) false

abbrev pub no_part : ℕ → Question → Bool
no_part last q = pick (nat_lt 31 q.number) true (nat_lt last q.byte)

-- 11: "a register above 31", "a byte past the register's last"; and a kind that is none
abbrev pub no_register : Question → Bool
no_register q =
    pick (q.kind == 1) false
    (pick (q.kind == 0) (no_part 7 q)
    (pick (q.kind == 2) (no_part 15 q)
    true))

abbrev pub links_of : Past → ℕ → ℕ → Question → List Link
links_of g origin step q = told (trail_of g step (place_of origin q))

-- 1, 7, 11, 17 and 18; no address is told
abbrev pub early_refusals : Window → ℕ → Past → ℕ → ℕ → Question → List Refusal
early_refusals w len g steps step q =
    refusal BadWindow (bad_window w len (length g.start.bytes) 0) 0
    ∷ refusal OutOfWindow (no_byte w len q) 0
    ∷ refusal NoSuchInstruction (no_register q) 0
    ∷ refusal BadTrace (wrong_trace w len g.words g.log steps) 0
    ∷ refusal AfterEnd (nat_lt steps step) 0
    ∷ []

-- and 10: the list of links has room for fewer
abbrev pub why_refusals : Window → ℕ → Past → ℕ → ℕ → Question → ℕ → List Refusal
why_refusals w len g steps step q room =
    early_refusals w len g steps step q ++ (refusal NoRoom (nat_lt room (length (links_of g w.origin step q) * 3)) 0 ∷ [])

unfoldable pub flat : ℕ → List Link → List ℕ
flat origin [] = []
flat origin (l ∷ ls) = numbers_of origin l ++ flat origin ls

-- all that the tool returns and leaves
pub record Said : Type 0 where
  pub answer : ℕ
  pub count : ℕ
  pub links : List ℕ

abbrev pub said : Reply → List ℕ → Said
said r links = record { answer = r.answer; count = r.links; links = links }

abbrev pub said_from : ℕ → ℕ → List Link → List ℕ → Said
said_from origin answer ls before =
    record {
      answer = answer;
      count = pick (answer == 0) (length ls) 0;
      links = pick (answer == 0) (sets before 0 (flat origin ls)) before;
    }

unfoldable pub said_of : Window → ℕ → Past → ℕ → ℕ → Question → List ℕ → Said
said_of w len g steps step q before =
    said_from w.origin (answer_number (answer_in (why_refusals w len g steps step q (length before)))) (links_of g w.origin step q) before
