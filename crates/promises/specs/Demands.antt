-- The three demands on Milestarling, each as one theorem over the definitions, sentence by sentence, and the requests
-- that followed. A reader who trusts the definitions that are named here needs no other page. The contracts of the public
-- functions say that the code returns and leaves what these definitions say, on any input: no function has a condition
-- to meet.
use Rattle.std.specs.Prelude.{ℕ, suc, ◌+◌, ◌/◌, ◌%◌, ◌^◌, ◌≤◌, ◌<◌, ◌≡◌, true, false, not, List, [], ◌∷◌, ◌++◌, ◌↔◌, ◌⊎◌, ltb, eqb}
use Rattle.std.proofs.Math.ListN
use Rattle.std.proofs.lemmas.List.Edits.{sets}
use Rattle.bits.specs.Choice.{pick, how_many}
use Rattle.bits.specs.Fields.{field}
use Rattle.instruction.specs.declared.family.Instruction.{Instruction}
use Rattle.instruction.specs.declared.row.Row.{Row}
use Rattle.instruction.specs.Answers.{answer_number}
use Rattle.instruction.specs.Table.{matches, in_set, undefined, allocated, instruction_of}
use Rattle.decoder.specs.Decoding.{decode_of, class_of, empty}
use Rattle.lookup.specs.Entries.{Allowed, families_in, code_in, names, operation_code, entries}
use Rattle.lookup.specs.Lookup.{decode_in}
use Rattle.encoder.specs.Encoding.{encode_of}
use Rattle.memory.specs.Taints.{byte_at}
use Rattle.vectors.specs.File.{files_after, taints_after}
use Rattle.plan.specs.declared.window.Window.{Window}
use Rattle.plan.specs.Refusals.{answer_in, Given}
use Rattle.registers.specs.declared.Registers.{Registers}
use Rattle.registers.specs.File.{zero_slot, value_at, taints_at, set_at}
use Rattle.machine.specs.declared.monitor.Monitor.{Monitor}
use Rattle.machine.specs.declared.State.{State}
use Rattle.machine.specs.declared.Stepped.{Stepped}
use Rattle.machine.specs.Machine.{Machine, machine_of, opened}
use Rattle.machine.specs.Refusals.{class_refusals}
use Rattle.machine.specs.Step.{shown, Outcome, outcome, performed, leaves}
use Rattle.machine.specs.Exclusives.{StoresExclusive, with_monitor}
use Rattle.session.specs.declared.StepReply.{StepReply}
use Rattle.session.specs.Lent.{Holding, LeftAs, lent_outcome, lent_step, with_register}
use Rattle.session.specs.Watch.{observed, Stored, Watched}
use Rattle.secrecy.specs.Shows.{Shows}
use Rattle.execution.specs.Walk.{Log, Result, short, after_steps}
use Rattle.execution.specs.Ends.{Kept, Ends, last_of, Early}
use Rattle.execution.specs.Secrecy.{Same, Filled, SameRoom, ShowsRun}
use Rattle.arm.specs.Pseudocode.{hint}
use Rattle.arm.specs.Choices.{bad_start, marked, page_moves, word_page, operation_of, arm_refusals, arm_step, arm_run, mark_rule}
use Rattle.machine.specs.Real.{Real}
use Rattle.encoder.specs.Exact.{Word}
use Rattle.ascii.specs.Ascii.{asc, dec}
use Rattle.text.specs.Texts.{text_of, word_text, text_most}
use Rattle.printer.specs.Writing.{write_of}
use Rattle.text.specs.Examples.{Holds, examples}
use Rattle.reader.specs.Examples.{HintsRead}
use Rattle.listing.specs.Listing.{line_text, short_text, line_most, Within, listing_of, list_of}
use Rattle.listing.specs.Examples.{example_bytes, example_lines}
use Rattle.reader.specs.Reading.{Reading, LineOf, ReadOf}
use Rattle.reader.specs.Triangle.{Bijection, Allocated, Encodable, Readable}
use Rattle.stream.specs.declared.Lister.{Lister}
use Rattle.stream.specs.Streams.{holding, refuses, refused, Call, push, close, lent, lines_of, call_of}
use Rattle.stream.specs.Calls.{played}
use Rattle.promises.specs.Answered.{Each, Answered, Is}

-- all that a step returns and leaves, and its answer
abbrev pub stepped : Window → ℕ → Machine → Outcome Machine
stepped w word m = performed m (arm_step w word m)

abbrev pub step_answer : Window → ℕ → Machine → ℕ
step_answer w word m = answer_number (stepped w word m).answer

-- a run that 1 or 10 stops at its start, by the answer's number: steps, code and address are 0, and nothing is changed or written
pub record NotBegun (number : ℕ) (m : Machine) (l : Log) (r : Result Machine) : Type 0 where
  pub answer : answer_number r.answer ≡ number
  pub steps : r.steps ≡ 0
  pub code : r.shown.code ≡ 0
  pub address : r.shown.address ≡ 0
  pub machine : r.machine ≡ m
  pub log : r.log ≡ l

pub record Demand1 : Type 0 where
  -- "Any word, any registers, any memory and any text get an answer, and nobody has to check first"
  pub decoded : (word : ℕ) → Answered (Is (decode_of word)) (λ r. answer_number r.answer) (0 ∷ 2 ∷ 3 ∷ [])
  pub classified : (word : ℕ) → Answered (Is (class_of word)) answer_number (0 ∷ 2 ∷ 3 ∷ 4 ∷ [])
  pub encoded : (i : Instruction) → Answered (Is (encode_of i)) (λ r. answer_number r.answer) (0 ∷ 11 ∷ [])
  pub written : (word : ℕ) (buffer : List ℕ) → Answered (Is (write_of word buffer)) (λ r. answer_number r.answer) (0 ∷ 2 ∷ 3 ∷ 10 ∷ [])
  pub read : (t : List ℕ) → Answered (ReadOf t) (λ r. answer_number r.answer) (0 ∷ 9 ∷ [])
  pub listed : (bytes output : List ℕ) → Answered (Is (list_of bytes output)) (λ r. answer_number r.answer) (0 ∷ 10 ∷ [])
  pub step : (w : Window) (word : ℕ) (m : Machine) → Answered (Is (stepped w word m)) (λ r. answer_number r.answer) (0 ∷ 1 ∷ 2 ∷ 3 ∷ 4 ∷ 5 ∷ 6 ∷ 7 ∷ 8 ∷ [])
  pub run : (w : Window) (words : List ℕ) (m : Machine) (l : Log)
      → Answered (Is (arm_run w words m l)) (λ r. answer_number r.answer) (0 ∷ 1 ∷ 2 ∷ 3 ∷ 4 ∷ 5 ∷ 6 ∷ 7 ∷ 8 ∷ 10 ∷ [])
  -- "Each refusal has its number in document 01 and is given exactly when 01 says": of a step, the first of 1 to 8 that
  -- holds, and 0 where none does; so that a number is answered exactly if its refusal holds and none before it
  pub step_answers : (w : Window) (word : ℕ) (m : Machine) → step_answer w word m ≡ answer_number (answer_in (arm_refusals w word m))
  pub step_given : (w : Window) (word : ℕ) (m : Machine) (n : ℕ) → ¬ (n ≡ 0) → (step_answer w word m ≡ n) ↔ Given n (arm_refusals w word m)
  -- of decoding, 2 and 3, and of a listing's line, 4 too
  pub decode_answers : (word : ℕ) → answer_number (decode_of word).answer ≡ answer_number (answer_in (ListN.take 2 (class_refusals word)))
  pub class_answers : (word : ℕ) → answer_number (class_of word) ≡ answer_number (answer_in (class_refusals word))
  -- of writing a text, 2, 3 and 10 in that order; refused, its length is 0 and the buffer is as it was
  pub write_answers : (word : ℕ) (buffer : List ℕ)
      → answer_number (write_of word buffer).answer ≡ pick (not (in_set word)) 2 (pick (undefined word) 3 (pick (ltb (ListN.length buffer) (ListN.length (word_text word))) 10 0))
  pub write_refused : (word : ℕ) (buffer : List ℕ) → ¬ (answer_number (write_of word buffer).answer ≡ 0) → ((write_of word buffer).length ≡ 0) × ((write_of word buffer).buffer ≡ buffer)
  pub write_done : (word : ℕ) (buffer : List ℕ) → answer_number (write_of word buffer).answer ≡ 0
      → ((write_of word buffer).length ≡ ListN.length (word_text word)) × ((write_of word buffer).buffer ≡ sets buffer 0 (word_text word))
  -- of a listing, 10, likewise
  pub list_answers : (bytes output : List ℕ) → answer_number (list_of bytes output).answer ≡ pick (ltb (ListN.length output) (ListN.length (listing_of bytes))) 10 0
  pub list_refused : (bytes output : List ℕ) → ¬ (answer_number (list_of bytes output).answer ≡ 0) → ((list_of bytes output).length ≡ 0) × ((list_of bytes output).buffer ≡ output)
  pub list_done : (bytes output : List ℕ) → answer_number (list_of bytes output).answer ≡ 0
      → ((list_of bytes output).length ≡ ListN.length (listing_of bytes)) × ((list_of bytes output).buffer ≡ sets output 0 (listing_of bytes))
  -- of reading a text, 9: no allocated word has it for its line; else 0 and the word
  pub read_answers : (t : List ℕ) (r : Reading) → ReadOf t r → ((answer_number r.answer ≡ 9) ↔ ((word : ℕ) → ¬ LineOf word t)) × ((answer_number r.answer ≡ 0) ↔ LineOf r.word t)
  -- of encoding, 11 and word 0: no word decodes to the instruction; else 0 and the one that does. The empty record gets 11
  pub encode_answers : (i : Instruction) → let e = encode_of i in
      ((answer_number e.answer ≡ 0) × Word i e.word) ⊎ ((answer_number e.answer ≡ 11) × (e.word ≡ 0) × ((word : ℕ) → ¬ Word i word))
  pub encode_empty : (answer_number (encode_of empty).answer ≡ 11) × ((encode_of empty).word ≡ 0)
  -- of a run, 1 and then 10 at its start, and only there: steps, code and address are 0, and nothing is written. 10 is for a
  -- trace shorter than two numbers a word, or a list of statuses "shorter than the words" (02, CR 8)
  pub run_window : (w : Window) (words : List ℕ) (m : Machine) (l : Log) → bad_start w m ≡ true → NotBegun 1 m l (arm_run w words m l)
  pub run_room : (w : Window) (words : List ℕ) (m : Machine) (l : Log) → bad_start w m ≡ false → short words l ≡ true → NotBegun 10 m l (arm_run w words m l)
  pub run_early : (w : Window) (words : List ℕ) (m : Machine) (l : Log) → Real m → let number = answer_number (arm_run w words m l).answer in
      Early number → NotBegun number m l (arm_run w words m l)
  -- after that every word is done and the answer is 0, or the word at the number of steps done is the one refused, and
  -- answer, code and address are that step's, from the machine as the steps before left it
  pub run_answers : (w : Window) (words : List ℕ) (m : Machine) (l : Log) → Real m → bad_start w m ≡ false → short words l ≡ false
      → let r = arm_run w words m l in
      ¬ Early (answer_number r.answer) × Ends (arm_step w) words m r.steps (last_of r)
  -- "Setting a register gives back the whole file .. unchanged for register 31 as zero and for a number above 31; reading either of
  -- those gives 0, unmarked": of a file of 32 registers
  pub register_above : (file : Registers) (n value marks : ℕ) → ListN.length file.value ≡ 32 → ListN.length file.taint ≡ 32 → 31 < n
      → (set_at file n value marks ≡ file) × (value_at file n ≡ 0) × (taints_at file n ≡ 0)
  pub register_zero : (file : Registers) (n value marks : ℕ) → ListN.length file.value ≡ 32 → ListN.length file.taint ≡ 32 → 30 < n
      → (set_at file (zero_slot n) value marks ≡ file) × (value_at file (zero_slot n) ≡ 0) × (taints_at file (zero_slot n) ≡ 0)
  -- "A refused step changes no register, byte, mark or program counter", and "keeps the monitor" (02, CR 3)
  pub refused_step : (w : Window) (word : ℕ) (m : Machine) → ¬ (step_answer w word m ≡ 0) → (stepped w word m).machine ≡ m
  -- "a refused run keeps the steps done before and nothing of the refused one": machine, trace, statuses and number of steps
  pub refused_run : (w : Window) (words : List ℕ) (m : Machine) (l : Log) → Kept (arm_step w) words m l (arm_run w words m l)

pub record Demand2 : Type 0 where
  -- "Each step does what Arm's published A64 definition says, with the choices that 01 makes where Arm leaves one": `arm_step` is the first
  -- of 01's refusals that holds, and where none does what the page of the word's row does. The contracts of the step and of the run
  -- say that code returns and leaves just this: answer, code, address, registers, memory, program counter and marks
  pub step_by_page : (w : Window) (word : ℕ) (m : Machine) → step_answer w word m ≡ 0 → arm_step w word m ≡ page_moves w word m (word_page word) (operation_of w word m)
  -- What follows of machines that there are, whose registers have 64 and 128 bits and whose bytes have 8, says `Real`; code holds no others,
  -- and a step leaves one
  pub step_real : (w : Window) (word : ℕ) (m : Machine) → Real m → Real (stepped w word m).machine
  pub some_real : (m : Machine) × Real m
  -- "Every allocated word of the set has one record and one line of text": a word matches at most one row of 01's
  -- table, and is exactly one of not of the set, undefined, and allocated
  pub never_overlap : (word : ℕ) (a b : Row) → matches word a ≡ true → matches word b ≡ true → a ≡ b
  pub one_sort : (word : ℕ) → how_many (not (in_set word) ∷ undefined word ∷ allocated word ∷ []) ≡ 1
  -- "and each of the three leads back to the other two"
  pub line_of_record : (word : ℕ) → word_text word ≡ text_of (instruction_of word)
  pub words_records : Bijection Allocated Encodable instruction_of
  pub records_lines : Bijection Encodable Readable text_of
  pub words_lines : Bijection Allocated Readable word_text
  -- and a text is read as one word only
  pub read_once : (t : List ℕ) (r s : Reading) → ReadOf t r → ReadOf t s → r ≡ s
  -- 01's starred examples, and its example of a listing
  pub starred : Holds examples
  pub listing : listing_of example_bytes ≡ example_lines

pub record Demand3 : Type 0 where
  -- "Registers and bytes may be marked secret. For every list of words, words that a step refuses included, take two
  -- runs of demand 2 over that list. They start with the same marks, window, program counter and trace room, and with
  -- equal values in every unmarked register and byte. Then, whatever the marked ones hold in either run, both take the
  -- same number of steps, write the same trace, end with the same answer, code, address, program counter and marks, and
  -- have equal values in every register and byte unmarked at the end." With 02: they "start and end with equal monitors" (CR
  -- 3), "lend lists of the same length and write the same statuses" (CR 8), and each byte of a register has its own mark (CR 13)
  pub two_runs : (w : Window) (words : List ℕ) (m n : Machine) (l k : Log) → Same m n → SameRoom l k
      → ShowsRun Same (arm_run w words m l) (arm_run w words n k)
  -- its other half (02, CR 13): "fill every marked starting byte with 0 in one run and 255 in another, else alike; after the same steps
  -- every byte marked at the end differs", being 0 in the one and 255 in the other
  pub two_fillings : (w : Window) (words : List ℕ) (m n : Machine) (l k : Log) → Filled m n → SameRoom l k
      → ShowsRun Filled (arm_run w words m l) (arm_run w words n k)
  -- of a single step, likewise
  pub two_steps : (w : Window) (word : ℕ) (m n : Machine) → Same m n → Shows Same (arm_step w word m) (arm_step w word n)
  -- "In each run the marks at the end are exactly those that 01's rule makes of the starting marks over the steps done",
  -- by their words, addresses and statuses: 1 "changes no byte's mark, and either unmarks the status register" (02, CR 3)
  pub marks_at_end : (w : Window) (words : List ℕ) (m : Machine) (l : Log) → Real m
      → (arm_run w words m l).machine.taints ≡ after_steps (mark_rule w.origin) words (arm_run w words m l).log (arm_run w words m l).steps m.taints
  pub marks_of_step : (w : Window) (word : ℕ) (m : Machine) → Real m
      → (stepped w word m).machine.taints ≡ pick (eqb (step_answer w word m) 0) (mark_rule w.origin word (stepped w word m).shown m.taints) m.taints
  -- "A password can't choose an address: a step that would take one from anything marked gets answer 5, unless one of 1
  -- to 4 comes first"
  -- where "anything" is a byte of the base, or of the used part of the index, and the word is no prefetch
  pub marked_address : (w : Window) (word : ℕ) (m : Machine) → ¬ (operation_of w word m ≡ hint) → marked (word_page word) word m ≡ true
      → step_answer w word m ≡ pick (bad_start w m) 1 (pick (eqb (answer_number (class_of word)) 0) 5 (answer_number (class_of word)))

-- The requests of document 02, in its words
pub record Requests : Type 0 where
  -- CR 1: "Every access with SP as its base, prefetches apart, now needs SP itself, before any offset, to be a multiple of
  -- 16": one that is done has it. Else "answer 6, address SP", and code 0, where none of 1 to 5 comes first, whatever the
  -- access itself would be. A literal's base is the program counter
  pub stack_aligned : (w : Window) (word : ℕ) (m : Machine) → ¬ (operation_of w word m ≡ hint) → (word_page word).based ≡ true → field 9 5 word ≡ 31
      → step_answer w word m ≡ 0 → ListN.get_or m.values 31 0 % 16 ≡ 0
  pub stack_refused : (w : Window) (word : ℕ) (m : Machine) → ¬ (operation_of w word m ≡ hint) → (word_page word).based ≡ true → field 9 5 word ≡ 31
      → bad_start w m ≡ false → answer_number (class_of word) ≡ 0 → marked (word_page word) word m ≡ false → ¬ (ListN.get_or m.values 31 0 % 16 ≡ 0)
      → (step_answer w word m ≡ 6) × ((stepped w word m).shown ≡ shown 0 (ListN.get_or m.values 31 0) 0)
  -- CR 2: "The two must give the same record or refusal for every 32-bit word": the decoder that goes by the table, and the
  -- plain one
  pub table_decodes : (word : ℕ) → decode_in entries word ≡ decode_of word
  -- "it is shown once for all entries that each names exactly the families its ten bits allow, none too": a row is named exactly
  -- if some word with these bits matches it
  pub entry_names : (ten : ℕ) → ten < 1024 → (r : Row) → ¬ (r ≡ Row.NoRow) → (names (families_in (ListN.get_or entries ten 0)) r ≡ true) ↔ Allowed ten r
  -- "and their operation code": of each word that matches a row
  pub entry_code : (word : ℕ) (r : Row) → ¬ (r ≡ Row.NoRow) → matches word r ≡ true → code_in (ListN.get_or entries (field 31 22 word) 0) ≡ operation_code r word
  -- CR 3: "A load-exclusive arms it": one that is done leaves the monitor with the address that it shows, and the word's bytes
  pub load_arms : (w : Window) (word : ℕ) (m : Machine) → Real m → matches word Row.LoadExclusiveRow ≡ true → step_answer w word m ≡ 0
      → (stepped w word m).machine.monitor ≡ record { address = (stepped w word m).shown.address; size = 2 ^ field 31 30 word }
  -- "A store-exclusive stores and writes status 0 exactly if the monitor has the same address and size; otherwise it writes status 1
  -- and stores nothing, marks included. Either way the monitor opens": one that is done, with Rs for its status, and Rt
  pub store_exclusive_lem : (w : Window) (word : ℕ) (m : Machine) → Real m → matches word Row.StoreExclusiveRow ≡ true → step_answer w word m ≡ 0
      → StoresExclusive w.origin (2 ^ field 31 30 word) (field 20 16 word) (field 4 0 word) m (stepped w word m)
  -- "Ordinary stores don't touch it", nor does any other word, refused or not, and its status is 0
  pub others_keep : (w : Window) (word : ℕ) (m : Machine) → Real m → matches word Row.LoadExclusiveRow ≡ false → matches word Row.StoreExclusiveRow ≡ false
      → ((stepped w word m).machine.monitor ≡ m.monitor) × ((stepped w word m).shown.status ≡ 0)
  -- "All tests come before the monitor is looked at": with any other the answer is the same, and so are code and address, a refusal's
  -- too; "a refused step keeps the monitor" is demand 1's `refused_step`
  pub tests_first : (w : Window) (word : ℕ) (m : Machine) (r : Monitor) → Real m → let other = stepped w word (with_monitor r m) in
      (answer_number other.answer ≡ step_answer w word m) × (other.shown.code ≡ (stepped w word m).shown.code) × (other.shown.address ≡ (stepped w word m).shown.address)
  -- "and the host can open it": registers and program counter stay, and the monitor is open, of size 0
  pub opens : (s : State) → ((opened s).registers ≡ s.registers) × ((opened s).pc ≡ s.pc) × ((opened s).monitor.size ≡ 0)
  -- from an open one a store-exclusive that is done has status 1, whatever address it holds
  pub open_fails : (w : Window) (word : ℕ) (m : Machine) → Real m → matches word Row.StoreExclusiveRow ≡ true → step_answer w word m ≡ 0 → m.monitor.size ≡ 0
      → (stepped w word m).shown.status ≡ 1
  -- and another's step opens it exactly if it stored a byte that it watches, by the code, address and status that the step showed
  pub observed_opens : (code address status : ℕ) (s : State) (x : ℕ) → Stored code address status x → Watched s.monitor x → observed code address status s ≡ opened s
  pub observed_keeps : (code address status : ℕ) (s : State) → ((x : ℕ) → Stored code address status x → ¬ Watched s.monitor x) → observed code address status s ≡ s
  -- CR 4: "Promise that no allocated word's text is longer than 30 bytes and show a word that reaches it"; CR 7: "CR 4's bound
  -- becomes 35 and a line's becomes 46, both still reached"
  pub text_most_lem : (word : ℕ) → allocated word ≡ true → ListN.length (word_text word) ≤ text_most
  pub text_reached : (allocated 0xf8aa5940 ≡ true) × (ListN.length (word_text 0xf8aa5940) ≡ text_most)
  -- CR 4: "A listing line then needs at most 41 bytes without its newline": a word's, whatever its answer, and a `short` line
  pub line_most_lem : (word : ℕ) → Within line_most (line_text word)
  pub short_most : (n : ℕ) → Within line_most (short_text (suc n))
  -- and the line of that word needs them, with one more for its newline
  pub line_reached : ListN.length (line_text 0xf8aa5940) ≡ suc line_most
  -- CR 5: "However an image is cut, the joined output of all unrefused calls, from a new lister to its closing, is 01's listing of
  -- their joined fragments"
  pub stream_listed : (calls : List Call) → let all = played (holding []) calls in
      eqb all.lister.closed 0 ≡ false → all.output ≡ listing_of all.fragments
  -- "16 for any call after closing, or with a lister of more than three bytes over; then 10 exactly if the lent output can't hold
  -- this call's lines, closing included"
  pub stream_answers : (l : Lister) (c : Call) → answer_number (call_of l c).answer ≡ pick (refuses l) 16 (pick (ltb (ListN.length (lent c)) (ListN.length (lines_of l c))) 10 0)
  -- after a closing that isn't refused that is every call; after a fragment that isn't refused there are "nought to three bytes over"
  pub stream_closed : (l : Lister) (output : List ℕ) → answer_number (call_of l (close output)).answer ≡ 0 → refuses (call_of l (close output)).lister ≡ true
  pub stream_open : (l : Lister) (fragment output : List ℕ) → answer_number (call_of l (push fragment output)).answer ≡ 0
      → refuses (call_of l (push fragment output)).lister ≡ false
  -- "Either way output and lister are unchanged", and "a refusal's length is 0"
  pub stream_unchanged : (l : Lister) (c : Call) → ¬ (answer_number (call_of l c).answer ≡ 0) → call_of l c ≡ refused (call_of l c).answer l (lent c)
  -- "output fills its buffer from the start, the rest stays"
  pub stream_puts : (l : Lister) (c : Call) → answer_number (call_of l c).answer ≡ 0
      → ((call_of l c).length ≡ ListN.length (lines_of l c)) × ((call_of l c).buffer ≡ sets (lent c) 0 (lines_of l c))
  -- CR 7: "The reader takes only the new form, so 01's example becomes `prfum pldl1keep, [x1]` and its old line answer 9"
  pub hints : HintsRead
  -- "Where either pair of bits is 3, `#` and decimal stay": for these fourteen
  pub decimal_hints : Each (λ r. word_text (0xf8800020 + r) ≡ asc "prfum #" ++ dec r ++ asc ", [x1]")
      (6 ∷ 7 ∷ 14 ∷ 15 ∷ 22 ∷ 23 ∷ 24 ∷ 25 ∷ 26 ∷ 27 ∷ 28 ∷ 29 ∷ 30 ∷ 31 ∷ [])
  -- CR 9: "lend it and have it changed in place by a step and by setting one register. By value stays; the lent form leaves exactly
  -- what it returns, refused or not": of a step by value that returns `r` and leaves memory and marks, and of the lent one, from one
  -- record, memory, vector registers and marks, by their contracts, where the records and files at the end are such as code holds
  pub lent_step_lem : (w : Window) (word : ℕ) (before after : State) (vs us vs'' us'' : List (List ℕ)) (m k m' k' m'' k'' : List ℕ) (r : Stepped) (reply : StepReply)
      → Holding after vs'' us'' → Holding r.state (files_after r.vectors vs) (taints_after r.vectors us)
      → outcome r vs us m' k' ≡ leaves (arm_step w word) (machine_of before vs us m k)
      → lent_outcome after reply vs'' us'' m'' k'' ≡ lent_step w word before vs us m k
      → LeftAs after r vs us vs'' us'' m' k' m'' k'' reply
  -- and of setting one register: the file is what setting by value returns, and program counter and monitor stay
  pub lent_register : (n value marks : ℕ) (before after : State) (file : Registers) → file ≡ set_at before.registers n value marks
      → after ≡ with_register n value marks before → (after.registers ≡ file) × (after.pc ≡ before.pc) × (after.monitor ≡ before.monitor)
  -- CR 12: "A vector register never collides with a base; a pair load into one register twice is still 4": where a word of vector
  -- registers is answer 4, it is such a load
  pub vector_four : (word : ℕ) → field 26 26 word ≡ 1 → answer_number (class_of word) ≡ 4
      → (matches word Row.PairRow ≡ true) × (field 22 22 word ≡ 1) × (field 4 0 word ≡ field 14 10 word)
  -- "a load clears what it doesn't fill": after one that is done the bytes of Rt behind those that were loaded are 0, and unmarked. A code
  -- below 64 is a load's, of so many bytes, and of a pair half of them are Rt's; the vector registers stand behind the general ones
  pub load_clears : (w : Window) (word : ℕ) (m : Machine) → Real m → ¬ (operation_of w word m ≡ hint) → (word_page word).vector ≡ true → step_answer w word m ≡ 0 → let o = stepped w word m in
      o.shown.code < 64 → (i : ℕ) → pick (word_page word).paired (o.shown.code / 2) o.shown.code ≤ i
      → let rt = 32 + field 4 0 word in
      (byte_at i (ListN.get_or o.machine.values rt 0) ≡ 0) × (byte_at i (ListN.get_or o.machine.taints.registers rt 0) ≡ 0)
