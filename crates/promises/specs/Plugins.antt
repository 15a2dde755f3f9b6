-- Two plugins, one memory: 02, CR 11, with the vector registers of CR 12 and by byte as CR 13 has it, sentence by sentence. `arm_turn` is
-- all that a turn of Arm's steps returns and leaves, of origin, ranges, words, the machine of the plugin whose turn it is and the lent
-- trace and statuses. `play_of` is a sequence of turns, as one of the two sees it: ours are its own. What a host is given of a turn is said
-- below, field by field.
use Rattle.std.specs.Prelude.{ℕ, ◌+◌, ◌*◌, ◌%◌, ◌<◌, ◌≡◌, true, false, List, [], ◌∷◌, map, ◌↔◌, ◌⊎◌, leb, length, take}
use Rattle.instruction.specs.Answers.{answer_number}
use Rattle.plan.specs.declared.ranges.Range.{Range}
use Rattle.plan.specs.declared.ranges.Ranges.{Ranges}
use Rattle.plan.specs.declared.ranges.Reach.TheVariants.{Ranged}
use Rattle.plan.specs.Refusals.{answer_in, Given}
use Rattle.plan.specs.Ranges.{bad_ranges}
use Rattle.machine.specs.declared.State.{State}
use Rattle.machine.specs.declared.Shown.{Shown}
use Rattle.machine.specs.Machine.{Machine, machine_of}
use Rattle.machine.specs.Real.{Real}
use Rattle.machine.specs.Step.{moved, performed}
use Rattle.session.specs.Lent.{Holding}
use Rattle.execution.specs.Walk.{Log, log, Result, short, after_steps}
use Rattle.execution.specs.Ends.{Kept, Ends, last_of, Early}
use Rattle.execution.specs.Run.{plain_window}
use Rattle.arm.specs.Choices.{arm_refusals_in, bad_turn_start, arm_turn_step, arm_turn, mark_rule}
use Rattle.host.specs.declared.RunReply.{RunReply}
use Rattle.host.specs.Hosting.{hosted, hosted_of}
use Rattle.turns.specs.Sight.{In, Allowed, Sees, Framed}
use Rattle.turns.specs.Turns.{World, own_machine, other_machine, swapped, Turn, ours, theirs, after_ours, after_theirs, Report, play_of, swap_turn, swap_world, SameOrder, ShowsPlay}
use Rattle.turns.specs.Views.{Unchanged, SameOver, FilledOver}
use Rattle.promises.specs.Answered.{one_of, Answered, Is}
use Rattle.promises.specs.Demands.{NotBegun}
use Rattle.promises.specs.Library.{Slices, Gives}

-- the answer of a step in a turn
abbrev pub turn_step_answer : ℕ → Ranges → ℕ → Machine → ℕ
turn_step_answer origin r word m = answer_number (performed m (arm_turn_step origin r word m)).answer

-- ---- milestarling_turn

pub record TurnCall : Type 0 where
  pub origin : ℕ
  pub ranges : Ranges
  pub words : List ℕ
  pub session : State
  pub before : Slices
  pub after : Slices
  pub reply : RunReply
  pub held : Holding session before.vectors before.vector_taint
  pub held' : Holding reply.session after.vectors after.vector_taint
  pub real : Real (machine_of session before.vectors before.vector_taint before.memory before.taint)
  pub allowed : hosted reply after.vectors after.vector_taint after.memory after.taint after.trace after.statuses
      ≡ hosted_of (arm_turn origin ranges words (machine_of session before.vectors before.vector_taint before.memory before.taint) (log before.trace before.statuses))

-- the machine that is handed in, and the one that is left
abbrev pub turn_start : TurnCall → Machine
turn_start c = machine_of c.session c.before.vectors c.before.vector_taint c.before.memory c.before.taint

abbrev pub turn_end : TurnCall → Machine
turn_end c = machine_of c.reply.session c.after.vectors c.after.vector_taint c.after.memory c.after.taint

abbrev pub turn_log : TurnCall → Log
turn_log c = log c.before.trace c.before.statuses

abbrev pub called : TurnCall → Result Machine
called c = arm_turn c.origin c.ranges c.words (turn_start c) (turn_log c)

-- the calls of a host for both plugins, in their order: each hands in what the plugin's own last call left, with the memory and marks
-- that the last call of either left. Listed are ours
pub data Calls (origin : ℕ) (r : Ranges) : World → List Turn → List TurnCall → Type 0 where
  none : {w : World} → Calls origin r w [] []
  mine : {w : World} {ts : List Turn} {cs : List TurnCall} → (c : TurnCall) → c.origin ≡ origin → c.ranges ≡ r → turn_start c ≡ own_machine w
      → Calls origin r (after_ours w (turn_end c)) ts cs → Calls origin r w (ours c.words (turn_log c) ∷ ts) (c ∷ cs)
  another : {w : World} {ts : List Turn} {cs : List TurnCall} → (c : TurnCall) → c.origin ≡ origin → c.ranges ≡ swapped r → turn_start c ≡ other_machine w
      → Calls origin r (after_theirs w (turn_end c)) ts cs → Calls origin r w (theirs c.words (turn_log c) ∷ ts) cs

-- each of our calls gives what the definition reports of that turn
pub data Gave : List TurnCall → List Report → Type 0 where
  nothing : Gave [] []
  more : {cs : List TurnCall} {ps : List Report} → (c : TurnCall) (p : Report) → turn_log c ≡ p.lent → turn_end c ≡ p.result.machine → Gives c.reply c.after p.result → Gave cs ps
      → Gave (c ∷ cs) (p ∷ ps)

-- two calls that show the same, with the two numbers of the trace and the status for each step done, and leave machines in a relation;
-- and all of trace and statuses, where the same were lent
pub record TurnsShow (R : Machine → Machine → Type 0) (c d : TurnCall) : Type 0 where
  pub answer : c.reply.answer ≡ d.reply.answer
  pub code : c.reply.code ≡ d.reply.code
  pub address : c.reply.address ≡ d.reply.address
  pub steps : c.reply.steps ≡ d.reply.steps
  pub trace : take (c.reply.steps * 2) c.after.trace ≡ take (d.reply.steps * 2) d.after.trace
  pub statuses : take c.reply.steps c.after.statuses ≡ take d.reply.steps d.after.statuses
  pub machine : R (turn_end c) (turn_end d)
  pub logs : turn_log c ≡ turn_log d → log c.after.trace c.after.statuses ≡ log d.after.trace d.after.statuses

pub data AllShow (R : Machine → Machine → Type 0) : List TurnCall → List TurnCall → Type 0 where
  neither : AllShow R [] []
  both : {cs ds : List TurnCall} → (c d : TurnCall) → TurnsShow R c d → AllShow R cs ds → AllShow R (c ∷ cs) (d ∷ ds)

-- for every order of turns and any calls of two hosts, from worlds in which our machines are in a relation, and the other's are such as
-- there are, each of our calls shows the same
abbrev pub CallsShow : ℕ → Ranges → (Machine → Machine → Type 0) → Type 0
CallsShow origin r R =
    (w v : World) (ts us : List Turn) (cs ds : List TurnCall) → SameOrder ts us → Calls origin r w ts cs → Calls origin r v us ds → Real (other_machine w) → Real (other_machine v) → R (own_machine w) (own_machine v) → AllShow R cs ds

-- ---- ranges

-- a byte lies in both
abbrev pub Share : Range → Range → Type 0
Share p q = (b : ℕ) × (In p b × In q b)

abbrev pub Leaves : ℕ → ℕ → Range → Type 0
Leaves origin len r = (r.address < origin) ⊎ (origin + len < r.address + r.length)

-- ---- all of it

pub record Plugins : Type 0 where
  -- "Refusals: 1 if two ranges share a byte or one, empty too, isn't inside the window as 7 counts"
  pub bad_ranges_lem : (r : Ranges) (origin len : ℕ) → (bad_ranges r origin len ≡ true)
      ↔ ((Share r.shared r.own ⊎ (Share r.shared r.other ⊎ Share r.own r.other))
      ⊎ (Leaves origin len r.shared ⊎ (Leaves origin len r.own ⊎ Leaves origin len r.other)))
  -- in every turn, to both, before 10, and then nothing is changed
  pub bad_both : (r : Ranges) (origin len : ℕ) → bad_ranges (swapped r) origin len ≡ bad_ranges r origin len
  pub turn_ranges : (origin : ℕ) (r : Ranges) (words : List ℕ) (m : Machine) (l : Log) → bad_ranges r origin (length m.memory) ≡ true → NotBegun 1 m l (arm_turn origin r words m l)
  pub turn_window : (origin : ℕ) (r : Ranges) (words : List ℕ) (m : Machine) (l : Log) → bad_turn_start origin r m ≡ true → NotBegun 1 m l (arm_turn origin r words m l)
  pub turn_room : (origin : ℕ) (r : Ranges) (words : List ℕ) (m : Machine) (l : Log) → bad_turn_start origin r m ≡ false → short words l ≡ true → NotBegun 10 m l (arm_turn origin r words m l)
  pub turn_early : (origin : ℕ) (r : Ranges) (words : List ℕ) (m : Machine) (l : Log) → Real m → let number = answer_number (arm_turn origin r words m l).answer in
      Early number → NotBegun number m l (arm_turn origin r words m l)
  -- "7 as before; 8 for a store touching the shared range; 12 for any other access not allowed": of a step, the first of 1 to 8 and 12
  -- that holds, and 0 where none does; so that a number is answered exactly if its refusal holds and none before it
  pub step_answers : (origin : ℕ) (r : Ranges) (word : ℕ) (m : Machine) → turn_step_answer origin r word m ≡ answer_number (answer_in (arm_refusals_in (plain_window origin) (Ranged r) word m))
  pub step_given : (origin : ℕ) (r : Ranges) (word : ℕ) (m : Machine) (n : ℕ) → ¬ (n ≡ 0) → (turn_step_answer origin r word m ≡ n) ↔ Given n (arm_refusals_in (plain_window origin) (Ranged r) word m)
  pub turn : (origin : ℕ) (r : Ranges) (words : List ℕ) (m : Machine) (l : Log)
      → Answered (Is (arm_turn origin r words m l)) (λ t. answer_number t.answer) (0 ∷ 1 ∷ 2 ∷ 3 ∷ 4 ∷ 5 ∷ 6 ∷ 7 ∷ 8 ∷ 10 ∷ 12 ∷ [])
  -- "A load must lie wholly in the shared range or in the plugin's own, a store wholly in its own": so does every access that is done
  -- a code of 64 or more is a store's, and what is left of it are the bytes; a prefetch has code 0
  pub allowed : (origin : ℕ) (r : Ranges) (word : ℕ) (m n : Machine) (s : Shown) → Real m → arm_turn_step origin r word m ≡ moved n s → ¬ (s.code ≡ 0) → Allowed r (leb 64 s.code) s.address (s.code % 64)
  -- "A refused run ends that turn only": it leaves what the steps done leave, run alone and not refused, and one that is begun ends with
  -- every word done or at the one that is refused
  pub kept : (origin : ℕ) (r : Ranges) (words : List ℕ) (m : Machine) (l : Log) → Kept (arm_turn_step origin r) words m l (arm_turn origin r words m l)
  pub ends : (origin : ℕ) (r : Ranges) (words : List ℕ) (m : Machine) (l : Log) → Real m → bad_turn_start origin r m ≡ false → short words l ≡ false
      → let t = arm_turn origin r words m l in
      ¬ Early (answer_number t.answer) × Ends (arm_turn_step origin r) words m t.steps (last_of t)
  -- the bytes and marks that a turn changes lie in its own range
  pub own_range : (origin : ℕ) (r : Ranges) (words : List ℕ) (m : Machine) (l : Log) → Real m → Framed (λ i. ¬ In r.own (origin + i)) m (arm_turn origin r words m l).machine
  -- the marks at the end of a turn are the mark rule's over the steps done
  pub marks : (origin : ℕ) (r : Ranges) (words : List ℕ) (m : Machine) (l : Log) → Real m
      → (arm_turn origin r words m l).machine.taints ≡ after_steps (mark_rule origin) words (arm_turn origin r words m l).log (arm_turn origin r words m l).steps m.taints
  -- both see one sequence, so that what follows holds of the other too
  pub either : (origin : ℕ) (r : Ranges) (ts : List Turn) (w : World) → (play_of (arm_turn origin) (swapped r) (map swap_turn ts) (swap_world w)).world ≡ swap_world (play_of (arm_turn origin) r ts w).world
  -- "For a fixed order of turns, change the other plugin's words, program counter, monitor, trace, registers, register marks,
  -- private bytes and their marks in any way: this plugin's answers, traces, registers, marks and private bytes are unchanged", its
  -- statuses, vector registers and monitor among them, after each of its turns
  pub isolation : (origin : ℕ) (r : Ranges) {ts us : List Turn} → SameOrder ts us → (w v : World) → Real (other_machine w) → Real (other_machine v) → Unchanged (Sees origin r) (own_machine w) (own_machine v)
      → ShowsPlay (Unchanged (Sees origin r)) (play_of (arm_turn origin) r ts w) (play_of (arm_turn origin) r us v)
  -- "Demand 3 holds for each plugin over what it may read: its two runs are then all its turns in order, refused ones included .. What 01
  -- compares at the end is compared after each of its turns"; and its other half (CR 13), likewise
  pub two_sequences : (origin : ℕ) (r : Ranges) {ts us : List Turn} → SameOrder ts us → (w v : World) → Real (other_machine w) → Real (other_machine v) → SameOver (Sees origin r) (own_machine w) (own_machine v)
      → ShowsPlay (SameOver (Sees origin r)) (play_of (arm_turn origin) r ts w) (play_of (arm_turn origin) r us v)
  pub two_fillings : (origin : ℕ) (r : Ranges) {ts us : List Turn} → SameOrder ts us → (w v : World) → Real (other_machine w) → Real (other_machine v) → FilledOver (Sees origin r) (own_machine w) (own_machine v)
      → ShowsPlay (FilledOver (Sees origin r)) (play_of (arm_turn origin) r ts w) (play_of (arm_turn origin) r us v)
  -- the calls of a host are such a sequence, and all three hold of what they return and leave
  pub calls : (origin : ℕ) (r : Ranges) {w : World} {ts : List Turn} {cs : List TurnCall} → Calls origin r w ts cs → Gave cs (play_of (arm_turn origin) r ts w).reports
  pub calls_isolated : (origin : ℕ) (r : Ranges) → CallsShow origin r (Unchanged (Sees origin r))
  pub calls_secret : (origin : ℕ) (r : Ranges) → CallsShow origin r (SameOver (Sees origin r))
  pub calls_filled : (origin : ℕ) (r : Ranges) → CallsShow origin r (FilledOver (Sees origin r))
  -- a turn of the library is such a turn
  pub call : (c : TurnCall) → Gives c.reply c.after (called c)
  -- it answers; with 1 and 10 steps, code and address are 0, and the record and all that is lent are as they were
  pub call_answers : (c : TurnCall) → one_of (0 ∷ 1 ∷ 2 ∷ 3 ∷ 4 ∷ 5 ∷ 6 ∷ 7 ∷ 8 ∷ 10 ∷ 12 ∷ []) c.reply.answer ≡ true
  pub call_early : (c : TurnCall) → Early c.reply.answer
      → (c.reply.steps ≡ 0) × (c.reply.code ≡ 0) × (c.reply.address ≡ 0) × (c.reply.session ≡ c.session) × (c.after ≡ c.before)
  -- what it changes of memory and marks lies in its own range, and the marks at the end are the rule's
  pub call_own_range : (c : TurnCall) → Framed (λ i. ¬ In c.ranges.own (c.origin + i)) (turn_start c) (turn_end c)
  pub call_marks : (c : TurnCall) → (turn_end c).taints ≡ after_steps (mark_rule c.origin) c.words (log c.after.trace c.after.statuses) c.reply.steps (turn_start c).taints
