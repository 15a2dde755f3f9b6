-- Why a byte is marked: 02, CR 8, with the vector registers of CR 12 and by byte as CR 13 has it, sentence by sentence. A call is what is
-- handed in and lent, and any reply and list of links that the contract of `milestarling_why` allows.
use Rattle.std.specs.Prelude.{ℕ, suc, ◌+◌, ◌-◌, ◌*◌, ◌%◌, ◌^◌, ◌≤◌, ◌<◌, ◌≡◌, true, false, List, [], ◌∷◌, ◌++◌, ◌↔◌, ◌⊎◌, length, get_or}
use Rattle.std.proofs.lemmas.List.Edits.{sets}
use Rattle.instruction.specs.Answers.{answer_number}
use Rattle.decoder.specs.Decoding.{class_of}
use Rattle.access.specs.declared.Access.{Access}
use Rattle.access.specs.declared.Access.TheVariants.{Nothing, Moves}
use Rattle.access.specs.Accesses.{word_access}
use Rattle.plan.specs.declared.window.Window.{Window}
use Rattle.plan.specs.Refusals.{answer_in}
use Rattle.plan.specs.Admission.{admit_of}
use Rattle.machine.specs.Machine.{code_of}
use Rattle.machine.specs.Origins.{Place, of_register, of_memory, taint_of}
use Rattle.execution.specs.Ends.{alone}
use Rattle.arm.specs.Choices.{arm_step}
use Rattle.why.specs.declared.Question.{Question}
use Rattle.why.specs.declared.Reply.{Reply}
use Rattle.why.specs.Trail.{Past, lent, taints_at, Link, link, numbers_of}
use Rattle.why.specs.Reply.{place_of, links_of, flat, said, said_of}
use Rattle.why.specs.Links.{Explains}
use Rattle.promises.specs.Answered.{one_of, First, WrongLent}
use Rattle.promises.specs.Library.{RunCall, run_start}

pub record WhyCall : Type 0 where
  pub window : Window
  pub memory_length : ℕ
  -- what a run left: its words, trace and statuses, and how many steps it did
  pub words : List ℕ
  pub trace : List ℕ
  pub statuses : List ℕ
  pub steps : ℕ
  -- the marks that it started with; of the registers as many as their types say
  pub register_taint : List ℕ
  pub vector_taint : List (List ℕ)
  pub taint : List ℕ
  pub registers_held : length register_taint ≡ 32
  pub vectors_held : length vector_taint ≡ 32
  -- the place asked about, just before a step
  pub step : ℕ
  pub question : Question
  -- the lent list, before and after
  pub links : List ℕ
  pub links' : List ℕ
  pub reply : Reply
  pub allowed : said reply links' ≡ said_of window memory_length (lent words trace statuses window.origin register_taint vector_taint taint) steps step question links

abbrev pub past_of : WhyCall → Past
past_of c = lent c.words c.trace c.statuses c.window.origin c.register_taint c.vector_taint c.taint

abbrev pub asked : WhyCall → Place
asked c = place_of c.window.origin c.question

abbrev pub links_for : WhyCall → List Link
links_for c = links_of (past_of c) c.window.origin c.step c.question

-- ---- what is refused, in 02's words

-- 7 "for a byte outside the window"
abbrev pub ByteOutside : WhyCall → Type 0
ByteOutside c = (c.question.kind ≡ 1) × ((c.question.number < c.window.origin) ⊎ (c.window.origin + c.memory_length ≤ c.question.number))

-- 11 "for a register above 31", and "for a byte past the register's last"; and for a kind that there isn't
abbrev pub NoSuchByte : WhyCall → Type 0
NoSuchByte c =
    ((c.question.kind ≡ 0) × ((31 < c.question.number) ⊎ (7 < c.question.byte)))
    ⊎ (((c.question.kind ≡ 2) × ((31 < c.question.number) ⊎ (15 < c.question.byte))) ⊎ (2 < c.question.kind))

-- "words, statuses or trace fall short of the steps"
abbrev pub FallsShort : WhyCall → Type 0
FallsShort c = (length c.words < c.steps) ⊎ ((length c.trace < c.steps * 2) ⊎ (length c.statuses < c.steps))

-- "a code not the word's", "a prefetch address not 0, or another address that would be 6 (SP's test aside), 7 or 8"
abbrev pub WrongAccess : Window → ℕ → Access → ℕ → ℕ → Type 0
WrongAccess w len Nothing code address = (¬ (code ≡ 0)) ⊎ (¬ (address ≡ 0))
WrongAccess w len (Moves t a) code address = (¬ (code ≡ code_of t)) ⊎ (one_of (6 ∷ 7 ∷ 8 ∷ []) (answer_number (answer_in (admit_of w len t address))) ≡ true)

-- "a word of answer 2, 3 or 4", "a status not 0 or 1"
abbrev pub WrongStep : Window → ℕ → ℕ → ℕ → ℕ → ℕ → Type 0
WrongStep w len word code address status =
    (one_of (2 ∷ 3 ∷ 4 ∷ []) (answer_number (class_of word)) ≡ true) ⊎ (((¬ (status ≡ 0)) × (¬ (status ≡ 1))) ⊎ WrongAccess w len (word_access word) code address)

-- "or some step has", also one after the one asked about
pub record SomeWrong (c : WhyCall) : Type 0 where
  pub at : ℕ
  pub done : at < c.steps
  pub wrong : WrongStep c.window c.memory_length (get_or c.words at 0) (get_or c.trace (at * 2) 0) (get_or c.trace (at * 2 + 1) 0) (get_or c.statuses at 0)

-- a question about what a run of the library left, from its own start
pub record OfRun (r : RunCall) (c : WhyCall) : Type 0 where
  pub window : c.window ≡ r.window
  pub memory : c.memory_length ≡ length r.before.memory
  pub words : c.words ≡ r.words
  pub trace : c.trace ≡ r.after.trace
  pub statuses : c.statuses ≡ r.after.statuses
  pub steps : c.steps ≡ r.reply.steps
  pub registers : c.register_taint ≡ r.session.registers.taint
  pub vectors : c.vector_taint ≡ r.before.vector_taint
  pub taint : c.taint ≡ r.before.taint

pub record Why : Type 0 where
  -- which place is asked about: a byte of a register (31 is SP), a byte of memory by its address, a byte of a vector register. The
  -- machine's registers are one list, the vector registers behind the general ones
  pub register : (c : WhyCall) → c.question.kind ≡ 0 → asked c ≡ of_register c.question.number c.question.byte
  pub memory : (c : WhyCall) → c.question.kind ≡ 1 → asked c ≡ of_memory (c.question.number - c.window.origin)
  pub vector : (c : WhyCall) → c.question.kind ≡ 2 → asked c ≡ of_register (32 + c.question.number) c.question.byte
  -- it answers
  pub answers : (c : WhyCall) → one_of (0 ∷ 1 ∷ 7 ∷ 10 ∷ 11 ∷ 17 ∷ 18 ∷ []) c.reply.answer ≡ true
  -- "Refusals: .. In that order": each number exactly if its words hold and none before them. 18 "if the step lies after the end; 10 if the
  -- list is too short"
  pub exactly : (c : WhyCall) (n : ℕ) → ¬ (n ≡ 0) → (c.reply.answer ≡ n)
      ↔ First n 1 (WrongLent c.window c.memory_length (length c.taint))
      (First n 7 (ByteOutside c)
      (First n 11 (NoSuchByte c)
      (First n 17 (FallsShort c ⊎ SomeWrong c)
      (First n 18 (c.steps < c.step)
      (First n 10 (length c.links < 3 * length (links_for c))
      ⊥)))))
  -- "output unchanged"
  pub refused : (c : WhyCall) → ¬ (c.reply.answer ≡ 0) → (c.reply.links ≡ 0) × (c.links' ≡ c.links)
  -- "'Not marked', with no links, is said exactly if the mark rule over the lent words, addresses and statuses says so"
  pub not_marked : (c : WhyCall) → c.reply.answer ≡ 0 → (c.reply.links ≡ 0) ↔ (taint_of (taints_at (past_of c) c.step) (asked c) ≡ false)
  pub none_listed : (c : WhyCall) → c.reply.links ≡ 0 → c.links' ≡ c.links
  -- "explained by its last load and" the byte copied, "a byte by its last real store and the register stored", "each time at an earlier
  -- step, until a starting mark": each link's place was marked just after its step by a copy from the next link's place, and kept since.
  -- "The tool lists the links, latest first", from the list's start, and the rest stays
  pub explained : (c : WhyCall) → (c.reply.answer ≡ 0) ⊎ (c.reply.answer ≡ 10) → ¬ (links_for c ≡ []) → Explains (past_of c) c.step (asked c) (links_for c)
  pub unexplained : (c : WhyCall) → (c.reply.answer ≡ 0) ⊎ (c.reply.answer ≡ 10) → (links_for c ≡ []) ↔ (taint_of (taints_at (past_of c) c.step) (asked c) ≡ false)
  pub told : (c : WhyCall) → c.reply.answer ≡ 0 → (c.reply.links ≡ length (links_for c)) × (c.links' ≡ sets c.links 0 (flat c.window.origin (links_for c)))
  -- "each three 64-bit numbers: 0 for a register or 1 for a byte", 2 for a vector register; "16 times the register plus the byte", or
  -- "address, and the step that marked it plus 1, or 0 for the start"
  pub register_link : (origin n i step : ℕ) → n < 32 → numbers_of origin (link (of_register n i) step) ≡ 0 ∷ (16 * n + i) ∷ step ∷ []
  pub vector_link : (origin n i step : ℕ) → n < 32 → numbers_of origin (link (of_register (32 + n) i) step) ≡ 2 ∷ (16 * n + i) ∷ step ∷ []
  pub memory_link : (origin j step : ℕ) → numbers_of origin (link (of_memory j) step) ≡ 1 ∷ ((origin + j) % 2 ^ 64) ∷ step ∷ []
  pub listed : (origin : ℕ) (l : Link) (ls : List Link) → flat origin (l ∷ ls) ≡ numbers_of origin l ++ flat origin ls
  -- "There are never more links than steps before the one asked about, plus one"
  pub few : (c : WhyCall) → c.reply.links ≤ suc c.step
  -- of what a run left no question about its steps is refused with 17 or 18, and "not marked" is said exactly if the machine's own mark
  -- just before that step is 0
  pub run_asked : (r : RunCall) (c : WhyCall) → OfRun r c → c.step ≤ r.reply.steps → ¬ (c.reply.answer ≡ 17) × ¬ (c.reply.answer ≡ 18)
  pub run_told : (r : RunCall) (c : WhyCall) → OfRun r c → c.step ≤ r.reply.steps → c.reply.answer ≡ 0
      → (c.reply.links ≡ 0) ↔ (taint_of (alone (arm_step r.window) r.words (run_start r) c.step).machine.taints (asked c) ≡ false)
