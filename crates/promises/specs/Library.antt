-- What the library for C and Rust promises: each field of a reply and each slice that a call leaves, by the definitions of the
-- demands, and what of the demands a call carries over. A call is what is handed in and lent, and any reply and slices that
-- the function's contract allows; so that a reply that says less than the machine did is one that no line here is proved of.
use Rattle.std.specs.Prelude.{ℕ, ◌*◌, ◌<◌, ◌≡◌, true, false, List, [], ◌∷◌, ◌++◌, map, ◌↔◌, ◌⊎◌, eqb}
use Rattle.std.proofs.Math.ListN
use Rattle.bits.specs.Choice.{pick, any}
use Rattle.bits.specs.Fields.{field}
use Rattle.instruction.specs.Answers.{answer_number}
use Rattle.instruction.specs.Table.{in_set}
use Rattle.vectors.specs.declared.Halves.{Halves}
use Rattle.vectors.specs.File.{wide, with_vector, Held}
use Rattle.plan.specs.declared.window.Window.{Window}
use Rattle.machine.specs.declared.State.{State}
use Rattle.machine.specs.Machine.{Machine, machine_of}
use Rattle.machine.specs.Step.{Outcome, leaves}
use Rattle.session.specs.declared.StepReply.{StepReply}
use Rattle.session.specs.Vector.{vector_at}
use Rattle.session.specs.Lent.{Holding, lent_outcome, lent_step}
use Rattle.execution.specs.Walk.{Log, log, Result, after_steps}
use Rattle.execution.specs.Ends.{Early}
use Rattle.execution.specs.Secrecy.{Same, Filled, SameRoom}
use Rattle.arm.specs.Choices.{bad_start, arm_step, arm_run, mark_rule}
use Rattle.machine.specs.Real.{Real}
use Rattle.printer.specs.Writing.{write_of}
use Rattle.listing.specs.Listing.{list_of}
use Rattle.reader.specs.Reading.{LineOf}
use Rattle.stream.specs.declared.Lister.{Lister}
use Rattle.stream.specs.Streams.{Call, call_of}
use Rattle.host.specs.declared.RunReply.{RunReply}
use Rattle.host.specs.declared.TextReply.{TextReply}
use Rattle.host.specs.declared.WordReply.{WordReply}
use Rattle.host.specs.declared.ListerReply.{ListerReply}
use Rattle.host.specs.Replies.{text_outcome, numbered, ReadAs, lister_outcome, lister_numbered}
use Rattle.host.specs.Hosting.{hosted, host_run}
use Rattle.records.specs.Replies.{touches_number}
use Rattle.records.specs.Space.{touches_memory}
use Rattle.promises.specs.Answered.{one_of}
use Rattle.promises.specs.Demands.{step_answer}

-- of the machine's registers the thirty-two general ones, and the thirty-two vector registers behind them
abbrev pub general_of : List ℕ → List ℕ
general_of xs = ListN.take 32 xs

abbrev pub vectors_of : List ℕ → List ℕ
vectors_of xs = ListN.drop 32 xs

-- ---- milestarling_step

pub record StepCall : Type 0 where
  pub window : Window
  pub word : ℕ
  -- lent: the record, the vector registers and their marks, memory and marks, before and after; of the registers as many as their
  -- types say, and numbers that fit theirs (`arm::real`)
  pub session : State
  pub vectors : List (List ℕ)
  pub vector_taint : List (List ℕ)
  pub memory : List ℕ
  pub taint : List ℕ
  pub session' : State
  pub vectors' : List (List ℕ)
  pub vector_taint' : List (List ℕ)
  pub memory' : List ℕ
  pub taint' : List ℕ
  pub held : Holding session vectors vector_taint
  pub held' : Holding session' vectors' vector_taint'
  pub real : Real (machine_of session vectors vector_taint memory taint)
  pub reply : StepReply
  pub allowed : lent_outcome session' reply vectors' vector_taint' memory' taint' ≡ lent_step window word session vectors vector_taint memory taint

-- the machine that is handed in, and the one that is left
abbrev pub step_start : StepCall → Machine
step_start c = machine_of c.session c.vectors c.vector_taint c.memory c.taint

abbrev pub step_end : StepCall → Machine
step_end c = machine_of c.session' c.vectors' c.vector_taint' c.memory' c.taint'

-- each field is that of a step's outcome
pub record StepGives (c : StepCall) (o : Outcome Machine) : Type 0 where
  pub answer : c.reply.answer ≡ answer_number o.answer
  pub code : c.reply.code ≡ o.shown.code
  pub address : c.reply.address ≡ o.shown.address
  pub status : c.reply.status ≡ o.shown.status
  pub values : c.session'.registers.value ≡ general_of o.machine.values
  pub marks : c.session'.registers.taint ≡ general_of o.machine.taints.registers
  pub vectors : map wide c.vectors' ≡ vectors_of o.machine.values
  pub vector_marks : map wide c.vector_taint' ≡ vectors_of o.machine.taints.registers
  pub pc : c.session'.pc ≡ o.machine.pc
  pub monitor : c.session'.monitor ≡ o.machine.monitor
  pub memory : c.memory' ≡ o.machine.memory
  pub taint : c.taint' ≡ o.machine.taints.bytes

-- ---- milestarling_run

-- what is lent to a run beside the words
pub record Slices : Type 0 where
  pub vectors : List (List ℕ)
  pub vector_taint : List (List ℕ)
  pub memory : List ℕ
  pub taint : List ℕ
  pub trace : List ℕ
  pub statuses : List ℕ

pub record RunCall : Type 0 where
  pub window : Window
  pub words : List ℕ
  pub session : State
  pub before : Slices
  pub after : Slices
  pub reply : RunReply
  pub held : Holding session before.vectors before.vector_taint
  pub held' : Holding reply.session after.vectors after.vector_taint
  pub real : Real (machine_of session before.vectors before.vector_taint before.memory before.taint)
  pub allowed : hosted reply after.vectors after.vector_taint after.memory after.taint after.trace after.statuses
      ≡ host_run window words (machine_of session before.vectors before.vector_taint before.memory before.taint) (log before.trace before.statuses)

abbrev pub run_start : RunCall → Machine
run_start c = machine_of c.session c.before.vectors c.before.vector_taint c.before.memory c.before.taint

abbrev pub run_end : RunCall → Machine
run_end c = machine_of c.reply.session c.after.vectors c.after.vector_taint c.after.memory c.after.taint

abbrev pub lent_log : RunCall → Log
lent_log c = log c.before.trace c.before.statuses

-- each field is that of a run's result
pub record Gives (reply : RunReply) (after : Slices) (r : Result Machine) : Type 0 where
  pub answer : reply.answer ≡ answer_number r.answer
  pub code : reply.code ≡ r.shown.code
  pub address : reply.address ≡ r.shown.address
  pub steps : reply.steps ≡ r.steps
  pub values : reply.session.registers.value ≡ general_of r.machine.values
  pub marks : reply.session.registers.taint ≡ general_of r.machine.taints.registers
  pub vectors : map wide after.vectors ≡ vectors_of r.machine.values
  pub vector_marks : map wide after.vector_taint ≡ vectors_of r.machine.taints.registers
  pub pc : reply.session.pc ≡ r.machine.pc
  pub monitor : reply.session.monitor ≡ r.machine.monitor
  pub memory : after.memory ≡ r.machine.memory
  pub taint : after.taint ≡ r.machine.taints.bytes
  pub trace : after.trace ≡ r.log.trace
  pub statuses : after.statuses ≡ r.log.statuses

abbrev pub RunGives : RunCall → Result Machine → Type 0
RunGives c r = Gives c.reply c.after r

-- two calls that show the same, with the two numbers of the trace and the status for each step done, and leave machines in a relation
pub record RunsShow (R : Machine → Machine → Type 0) (c d : RunCall) : Type 0 where
  pub answer : c.reply.answer ≡ d.reply.answer
  pub code : c.reply.code ≡ d.reply.code
  pub address : c.reply.address ≡ d.reply.address
  pub steps : c.reply.steps ≡ d.reply.steps
  pub trace : ListN.take (c.reply.steps * 2) c.after.trace ≡ ListN.take (d.reply.steps * 2) d.after.trace
  pub statuses : ListN.take c.reply.steps c.after.statuses ≡ ListN.take d.reply.steps d.after.statuses
  pub machine : R (run_end c) (run_end d)

-- ---- all of it

pub record Library : Type 0 where
  -- a session's record and the lent vector registers, memory and marks are a machine
  pub machine : (s : State) (vectors vector_taint : List (List ℕ)) (memory taint : List ℕ)
      → machine_of s vectors vector_taint memory taint
      ≡ record {
        values = s.registers.value ++ map wide vectors;
        pc = s.pc;
        memory = memory;
        taints = record { registers = s.registers.taint ++ map wide vector_taint; bytes = taint };
        monitor = s.monitor;
      }
  -- a step of the library is Arm's
  pub step : (c : StepCall) → StepGives c (leaves (arm_step c.window c.word) (step_start c))
  -- demand 1: it answers, and a refused one leaves record, vector registers, memory and marks
  pub step_answers : (c : StepCall) → one_of (0 ∷ 1 ∷ 2 ∷ 3 ∷ 4 ∷ 5 ∷ 6 ∷ 7 ∷ 8 ∷ []) c.reply.answer ≡ true
  pub step_refused : (c : StepCall) → ¬ (c.reply.answer ≡ 0)
      → (c.session' ≡ c.session) × (c.vectors' ≡ c.vectors) × (c.vector_taint' ≡ c.vector_taint) × (c.memory' ≡ c.memory) × (c.taint' ≡ c.taint)
  -- demand 3: two that differ only in what is marked reply the same and leave what differs only in what is marked; and the marks
  -- that a done one leaves
  pub two_steps : (c d : StepCall) → c.window ≡ d.window → c.word ≡ d.word → Same (step_start c) (step_start d) → (c.reply ≡ d.reply) × Same (step_end c) (step_end d)
  pub step_marks : (c : StepCall) → c.reply.answer ≡ 0
      → (step_end c).taints ≡ mark_rule c.window.origin c.word (record { code = c.reply.code; address = c.reply.address; status = c.reply.status }) (step_start c).taints
  -- and so is a run
  pub run : (c : RunCall) → RunGives c (arm_run c.window c.words (run_start c) (lent_log c))
  -- it answers; with 1 and 10 steps, code and address are 0, and the record and all that is lent are as they were
  pub run_answers : (c : RunCall) → one_of (0 ∷ 1 ∷ 2 ∷ 3 ∷ 4 ∷ 5 ∷ 6 ∷ 7 ∷ 8 ∷ 10 ∷ []) c.reply.answer ≡ true
  pub run_early : (c : RunCall) → Early c.reply.answer
      → (c.reply.steps ≡ 0) × (c.reply.code ≡ 0) × (c.reply.address ≡ 0) × (c.reply.session ≡ c.session) × (c.after ≡ c.before)
  -- demand 3 of two calls and its other half, and the marks at the end
  pub two_runs : (c d : RunCall) → c.window ≡ d.window → c.words ≡ d.words → Same (run_start c) (run_start d) → SameRoom (lent_log c) (lent_log d) → RunsShow Same c d
  pub two_fillings : (c d : RunCall) → c.window ≡ d.window → c.words ≡ d.words → Filled (run_start c) (run_start d) → SameRoom (lent_log c) (lent_log d) → RunsShow Filled c d
  pub run_marks : (c : RunCall)
      → (run_end c).taints ≡ after_steps (mark_rule c.window.origin) c.words (log c.after.trace c.after.statuses) c.reply.steps (run_start c).taints
  -- one vector register with its marks, read and set: it reads what was set, the others are as they were, and "a vector register above
  -- 31 reads 0, unmarked, and sets nothing"
  pub vector_set : (vectors vector_taint : List (List ℕ)) (n : ℕ) (value marks : Halves) → Held vectors → Held vector_taint → n < 32
      → vector_at (with_vector vectors n value) (with_vector vector_taint n marks) n ≡ record { low = value.low; high = value.high; taint_low = marks.low; taint_high = marks.high }
  pub vector_other : (vectors vector_taint : List (List ℕ)) (n i : ℕ) (value marks : Halves) → ¬ (i ≡ n)
      → vector_at (with_vector vectors n value) (with_vector vector_taint n marks) i ≡ vector_at vectors vector_taint i
  pub vector_above : (vectors vector_taint : List (List ℕ)) (n : ℕ) (value marks : Halves) → Held vectors → Held vector_taint → 31 < n
      → (with_vector vectors n value ≡ vectors) × (with_vector vector_taint n marks ≡ vector_taint)
      × (vector_at vectors vector_taint n ≡ record { low = 0; high = 0; taint_low = 0; taint_high = 0 })
  -- a text and a listing, their length and what the buffer holds; refused or not
  pub text : (word : ℕ) (buffer buffer' : List ℕ) (r : TextReply) → text_outcome r buffer' ≡ numbered (write_of word buffer) → let o = write_of word buffer in
      (r.answer ≡ answer_number o.answer) × (r.length ≡ o.length) × (buffer' ≡ o.buffer)
  pub list : (bytes output output' : List ℕ) (r : TextReply) → text_outcome r output' ≡ numbered (list_of bytes output) → let o = list_of bytes output in
      (r.answer ≡ answer_number o.answer) × (r.length ≡ o.length) × (output' ≡ o.buffer)
  -- a lister's call, a fragment or the closing
  pub lister : (l : Lister) (c : Call) (output' : List ℕ) (r : ListerReply) → lister_outcome r output' ≡ lister_numbered (call_of l c) → let o = call_of l c in
      (r.answer ≡ answer_number o.answer) × (r.length ≡ o.length) × (r.lister ≡ o.lister) × (output' ≡ o.buffer)
  -- the word of a text, or 9 and word 0
  pub word : (t : List ℕ) (r : WordReply) → ReadAs t r
      → (one_of (0 ∷ 9 ∷ []) r.answer ≡ true) × ((r.answer ≡ 0) ↔ LineOf r.word t) × ((r.answer ≡ 9) ↔ ((w : ℕ) → ¬ LineOf w t)) × (r.answer ≡ 9 → r.word ≡ 0)
  pub word_some : (t : List ℕ) → (r : WordReply) × ReadAs t r
  -- whether a word touches memory: bit 27 set and bit 25 clear, or `dc zva`, `dc gva` or `dc gzva`. Every word of the set does, so
  -- that one that doesn't never needs a step: it would get 2, where 1 doesn't come first
  pub touches : (word r : ℕ) → r ≡ touches_number word → (one_of (0 ∷ 1 ∷ []) r ≡ true) × ((r ≡ 1)
      ↔ (((field 27 27 word ≡ 1) × (field 25 25 word ≡ 0)) ⊎ ((field 31 8 word ≡ 0xd50b74) × (any (eqb (field 7 5 word)) (1 ∷ 3 ∷ 4 ∷ []) ≡ true))))
  pub set_touches : (word : ℕ) → in_set word ≡ true → touches_memory word ≡ true
  pub never_stepped : (w : Window) (word : ℕ) (m : Machine) → touches_memory word ≡ false → step_answer w word m ≡ pick (bad_start w m) 1 2
