-- A step by Arm's pages, with what 01 decides where Arm leaves a choice: "Answer numbers", 1 to 8 in one list, in their order and in
-- 01's words, with 02's CR 1, CR 3 and CR 11. Where a page says UNDEFINED, 3 is given, and where it says CONSTRAINED UNPREDICTABLE, which leaves
-- a choice to a processor, 4. Which words there are pages for is 01's table (instruction/specs/Table).
use Rattle.std.specs.Prelude.{ℕ, ◌+◌, ◌-◌, ◌/◌, ◌%◌, ◌^◌, Bool, true, false, ◌&&◌, ◌||◌, not, List, [], ◌∷◌, eqb, ltb, leb, length, get_or}
use Rattle.bits.specs.Choice.{pick}
use Rattle.bits.specs.Fields.{field}
use Rattle.instruction.specs.declared.answer.Answer.TheVariants.{BadWindow, NotInSet, Undefined, Unpredictable, TaintedAddress, Misaligned, OutOfWindow, ReadOnly, NotAllowed}
use Rattle.instruction.specs.Table.{in_set, row_of}
use Rattle.plan.specs.declared.window.Window.{Window}
use Rattle.plan.specs.declared.ranges.Range.{Range}
use Rattle.plan.specs.declared.ranges.Ranges.{Ranges}
use Rattle.plan.specs.declared.ranges.Reach.{Reach}
use Rattle.plan.specs.declared.ranges.Reach.TheVariants.{Alone, Ranged}
use Rattle.plan.specs.Refusals.{Refusal, refusal, first_of}
use Rattle.plan.specs.Ranges.{range, share, bad_ranges}
use Rattle.machine.specs.declared.Shown.{Shown}
use Rattle.machine.specs.Rule.{Taints}
use Rattle.machine.specs.Machine.{Machine}
use Rattle.machine.specs.Step.{shown, Step, stopped, moved}
use Rattle.execution.specs.Walk.{Log, Result, run_of}
use Rattle.execution.specs.Run.{plain_window}
use Rattle.arm.specs.Pseudocode.{Arm, Operation, hint, sp_fault, access, Align}
use Rattle.arm.specs.Pages.{Alignment, anywhere, one_block, multiple, Page, page_of}
use Rattle.arm.specs.Marks.{any_marked, marks_at, used_bytes, marks_of}

-- 1: origin + len above 2^64, r above len, mark length not len, or PC not a multiple of 4
unfoldable pub bad_start : Window → Machine → Bool
bad_start w m =
    ltb (2 ^ 64) (w.origin + length m.memory)
    || ltb (length m.memory) w.readonly
    || not (eqb (length m.taints.bytes) (length m.memory))
    || not (eqb (m.pc % 4) 0)

-- 5: "a marked byte in the base or in the used part of the index" (02, CR 13; not for prefetch or literal)
abbrev pub marked : Page → ℕ → Machine → Bool
marked page word m =
    (page.based && any_marked 8 (get_or m.taints.registers (field 9 5 word) 0))
    || (page.indexed && any_marked (used_bytes (field 15 13 word)) (marks_at (field 20 16 word) m.taints.registers))

-- 6: ordered access not wholly inside one 16-byte aligned block: its first and its last byte are in two; "an exclusive's address
-- not a multiple of the size", where Arm has an alignment fault
abbrev pub misplaced : Alignment → ℕ → ℕ → Bool
misplaced anywhere address size = false
misplaced one_block address size = not (eqb (address / 16) ((address + size - 1) / 16))
misplaced multiple address size = not (eqb address (Align address size))

-- 7: access, as whole numbers, not inside origin to origin + len
abbrev pub out_of : Window → Machine → ℕ → ℕ → Bool
out_of w m address size = not (leb w.origin address && leb (address + size) (w.origin + length m.memory))

-- 8: store touching the first r bytes: its first byte is one of them
abbrev pub shut : Window → Bool → ℕ → Bool
shut w store address = store && ltb (address - w.origin) w.readonly

-- so many bytes at an address lie wholly in a range
abbrev pub lies_in : Range → ℕ → ℕ → Bool
lies_in r address size = leb r.address address && leb (address + size) (r.address + r.length)

-- 8 of a plugin alone. With ranges (02, CR 11), 8 "for a store touching the shared range", and "12 for any other access not allowed":
-- "A load must lie wholly in the shared range or in the plugin's own, a store wholly in its own"
abbrev pub reach_refusals : Window → Reach → Bool → ℕ → ℕ → List Refusal
reach_refusals w Alone store address size = refusal ReadOnly (shut w store address) address ∷ []
reach_refusals w (Ranged r) store address size =
    refusal ReadOnly (store && share (range address size) r.shared) address
    ∷ refusal NotAllowed (not (lies_in r.own address size || (not store && lies_in r.shared address size))) address
    ∷ []

-- 5 to 8, and 12, of what a page does: a hint passes them all. The fault of SP's alignment is 6 with SP's address, "after 5 and before
-- the ordered test" (02, CR 1)
abbrev pub page_refusals : Window → Reach → ℕ → Machine → Page → Operation → List Refusal
page_refusals w reach word m page hint = []
page_refusals w reach word m page (sp_fault sp) = refusal TaintedAddress (marked page word m) 0 ∷ refusal Misaligned true sp ∷ []
page_refusals w reach word m page (access store address size status s) =
    refusal TaintedAddress (marked page word m) 0
    ∷ refusal Misaligned (misplaced page.alignment address size) address
    ∷ refusal OutOfWindow (out_of w m address size) address
    ∷ reach_refusals w reach store address size

-- "A successful step sets PC to PC + 4 modulo 2^64"
abbrev pub after : ℕ → ℕ
after pc = (pc + 4) % 2 ^ 64

-- what a page leaves, with the marks of the rule
abbrev pub after_page : Window → ℕ → Machine → Page → Bool → ℕ → ℕ → ℕ → Arm → Machine
after_page w word m page store address size status s =
    record {
      values = s.registers;
      pc = after m.pc;
      memory = s.memory;
      taints = marks_of page store status w.origin word address size m.taints;
      monitor = s.monitor;
    }

-- what a page comes to that nothing refuses: a prefetch changes nothing but PC, with code and address 0; an access shows the bytes touched,
-- plus 64 for a store, and "the trace shows a failed store like a successful one" (02, CR 3). SP's fault is always refused
abbrev pub page_moves : Window → ℕ → Machine → Page → Operation → Step Machine
page_moves w word m page hint = moved (record { values = m.values; pc = after m.pc; memory = m.memory; taints = m.taints; monitor = m.monitor }) (shown 0 0 0)
page_moves w word m page (sp_fault sp) = moved m (shown 0 0 0)
page_moves w word m page (access store address size status s) =
    moved (after_page w word m page store address size status s) (shown (size + pick store 64 0) address status)

abbrev pub arm_of : Window → Machine → Arm
arm_of w m = record { registers = m.values; pc = m.pc; origin = w.origin; memory = m.memory; monitor = m.monitor }

-- the page of the word's row, of vector registers where bit 26 is 1, and what it does
abbrev pub word_page : ℕ → Page
word_page word = page_of (eqb (field 26 26 word) 1) (row_of word) word

abbrev pub operation_of : Window → ℕ → Machine → Operation
operation_of w word m = (word_page word).operation word (arm_of w m)

-- every refusal of a step in the order of its test, with the address that it reports: 1 to 8, and 12 by what may be reached
abbrev pub arm_refusals_in : Window → Reach → ℕ → Machine → List Refusal
arm_refusals_in w reach word m =
    refusal BadWindow (bad_start w m) 0
    ∷ refusal NotInSet (not (in_set word)) 0
    ∷ refusal Undefined (word_page word).undefined 0
    ∷ refusal Unpredictable (word_page word).unpredictable 0
    ∷ page_refusals w reach word m (word_page word) (operation_of w word m)

-- the first that holds is given. What the page leaves counts where none does: so "a refused step keeps the monitor"
unfoldable pub arm_step_in : Window → Reach → ℕ → Machine → Step Machine
arm_step_in w reach word m = first_of stopped (page_moves w word m (word_page word) (operation_of w word m)) (arm_refusals_in w reach word m)

-- of a plugin alone
abbrev pub arm_refusals : Window → ℕ → Machine → List Refusal
arm_refusals w = arm_refusals_in w Alone

abbrev pub arm_step : Window → ℕ → Machine → Step Machine
arm_step w = arm_step_in w Alone

abbrev pub arm_run : Window → List ℕ → Machine → Log → Result Machine
arm_run w = run_of (bad_start w) (arm_step w)

-- 1 of a turn: of the window, which has no read-only beginning, or "if two ranges share a byte or one, empty too, isn't inside the
-- window as 7 counts"
abbrev pub bad_turn_start : ℕ → Ranges → Machine → Bool
bad_turn_start origin r m = bad_start (plain_window origin) m || bad_ranges r origin (length m.memory)

abbrev pub arm_turn_step : ℕ → Ranges → ℕ → Machine → Step Machine
arm_turn_step origin r = arm_step_in (plain_window origin) (Ranged r)

-- a run that reaches what ranges allow
abbrev pub arm_turn : ℕ → Ranges → List ℕ → Machine → Log → Result Machine
arm_turn origin r = run_of (bad_turn_start origin r) (arm_turn_step origin r)

-- the rule of marks for a word and what its step shows: none is moved where no byte is touched
unfoldable pub mark_rule : ℕ → ℕ → Shown → Taints → Taints
mark_rule origin word shown p =
    pick (eqb shown.code 0) p (marks_of (word_page word) (leb 64 shown.code) shown.status origin word shown.address (shown.code % 64) p)
