-- 01's examples on the pages themselves: what the three loads of its byte 128 give, and refusals of each kind, with those of a
-- stack pointer that is not aligned (02, CR 1); and statuses (CR 3). Assumes nothing.
use Prim.Native.Nat.{ℕ, ◌-◌, ◌^◌}
use mathlib.Core.Path.{◌≡◌, refl}
use mathlib.Core.List.{List, [], ◌∷◌, ◌++◌, map}
use lib.ListN.{get_or, set, replicate}
use Rattle.bits.specs.Fields.{part}
use Rattle.instruction.specs.Answers.{answer_number}
use Rattle.instruction.specs.Table.{in_set, row_of}
use Rattle.plan.specs.declared.window.Window.{Window}
use Rattle.machine.specs.Monitor.{open_monitor}
use Rattle.machine.specs.Machine.{Machine}
use Rattle.machine.specs.Step.{performed}
use Rattle.arm.specs.Pseudocode.{first_vector, ExtendReg, SignExtend, ZeroExtend, Add, X, set_x, set_vec, base, set_base, Mem, set_mem}
use Rattle.arm.specs.VectorImmediate.{vector_immediate}
use Rattle.arm.specs.VectorUnscaled.{vector_unscaled}
use Rattle.arm.specs.Unscaled.{unscaled}
use Rattle.arm.specs.Immediate.{immediate}
use Rattle.arm.specs.Indexed.{indexed}
use Rattle.arm.specs.Exclusive.{load_exclusive, store_exclusive}
use Rattle.arm.specs.AcquireRelease.{acquire_release}
use Rattle.arm.specs.Marks.{any_marked, load_marks, repeated, store_marks, marks_of}
use Rattle.arm.specs.Choices.{bad_start, arm_step_in, arm_step}

abbrev window : Window
window = record { origin = 4096; readonly = 4 }

-- X1 is 4101, and the byte at 4100 is 128
abbrev start : Machine
start =
    record {
      values = 0 ∷ 4101 ∷ replicate 62 0;
      pc = 8;
      memory = replicate 4 0 ++ (128 ∷ replicate 11 0);
      taints = record { registers = replicate 64 0; bytes = replicate 16 0 };
      monitor = open_monitor;
    }

abbrev loaded : ℕ → ℕ
loaded word = get_or (performed start (arm_step window word start)).machine.values 0 0

abbrev answer : ℕ → ℕ
answer word = answer_number (performed start (arm_step window word start)).answer

-- with this SP
abbrev stack : ℕ → Machine
stack sp = record { values = set start.values 31 sp; pc = 8; memory = start.memory; taints = start.taints; monitor = start.monitor }

abbrev stacked : ℕ → ℕ → ℕ × ℕ
stacked word sp =
    let o = performed (stack sp) (arm_step window word (stack sp)) in
    (answer_number o.answer, o.shown.address)

-- ldurb, and ldursb to 32 and to 64 bits, at 4100
loads : map loaded (0x385ff020 ∷ 0x38dff020 ∷ 0x389ff020 ∷ []) ≡ (128 ∷ 4294967168 ∷ (2 ^ 64 - 128) ∷ [])
unfolding arm_step_in bad_start row_of in_set part unscaled SignExtend ZeroExtend Add X set_x base Mem any_marked marks_of load_marks repeated
loads = refl

-- with V0 all ones
abbrev full : Machine
full = record { values = set start.values first_vector (2 ^ 128 - 1); pc = 8; memory = start.memory; taints = start.taints; monitor = open_monitor }

abbrev filled : ℕ → ℕ
filled word = get_or (performed full (arm_step window word full)).machine.values first_vector 0

-- ldur b0, h0, s0 and d0 at 4100, and q0 at 4096: zeros above
vectors : map filled (0x3c5ff020 ∷ 0x7c5ff020 ∷ 0xbc5ff020 ∷ 0xfc5ff020 ∷ 0x3cdfb020 ∷ []) ≡ (128 ∷ 128 ∷ 128 ∷ 128 ∷ 2 ^ 39 ∷ [])
unfolding arm_step_in bad_start row_of in_set part vector_unscaled SignExtend ZeroExtend Add X set_vec base Mem any_marked marks_of load_marks repeated
vectors = refl

-- ldur h0 with opc 10, which is undefined; `ldp q0, q0, [x1]`; `ldr d1, [x1], #8`, which is no collision; `ldur q0, [x1]`
vector_answers : map answer (0x7c9ff020 ∷ 0xad400020 ∷ 0xfc408421 ∷ 0x3cc00020 ∷ []) ≡ (3 ∷ 4 ∷ 0 ∷ 7 ∷ [])
unfolding arm_step_in bad_start row_of in_set part vector_unscaled vector_immediate SignExtend ZeroExtend Add X set_x set_vec set_base base Mem any_marked marks_of load_marks repeated
vector_answers = refl

-- not of the set; two undefined words; an unpredictable pair
-- 8 bytes at 4104, which are inside, and at 4105; a byte stored at 4099, among the first r, and at 4100
-- 8 bytes at 4101, exclusive and acquired
answers : map answer (0x91000000 ∷ 0xb8c00020 ∷ 0x38e00862 ∷ 0xa9400020 ∷ 0xf8403020 ∷ 0xf8404020 ∷ 0x381fe020 ∷ 0x381ff020 ∷ 0xc85f7c20 ∷ 0xc8dffc20 ∷ [])
    ≡ (2 ∷ 3 ∷ 3 ∷ 4 ∷ 0 ∷ 7 ∷ 8 ∷ 0 ∷ 6 ∷ 0 ∷ [])
unfolding arm_step_in bad_start row_of in_set part unscaled load_exclusive acquire_release SignExtend Add X base any_marked
answers = refl

-- ---- marks

-- marked are the byte at 4100, byte 5 of X0, and byte 1 of X2, some not by 1
abbrev secret : Machine
secret =
    record {
      values = start.values;
      pc = 8;
      memory = start.memory;
      taints = record { registers = 0x30000000000 ∷ 0 ∷ 0x200 ∷ replicate 61 0; bytes = replicate 4 0 ++ (2 ∷ replicate 11 0) };
      monitor = open_monitor;
    }

abbrev marked : ℕ → ℕ
marked word = get_or (performed secret (arm_step window word secret)).machine.taints.registers 0 0

-- ldurb, and ldursb to 32 and to 64 bits, at 4100; ldurh and ldursh at 4099; ldur of 4 bytes at 4100
marks_loaded : map marked (0x385ff020 ∷ 0x38dff020 ∷ 0x389ff020 ∷ 0x785fe020 ∷ 0x789fe020 ∷ 0xb85ff020 ∷ [])
    ≡ (0x1 ∷ 0x1010101 ∷ 0x101010101010101 ∷ 0x100 ∷ 0x101010101010100 ∷ 0x1 ∷ [])
unfolding arm_step_in bad_start row_of in_set part unscaled SignExtend ZeroExtend Add X set_x base Mem any_marked marks_of load_marks repeated
marks_loaded = refl

-- stur of 4 bytes of X2 at 4100
marks_stored : (performed secret (arm_step window 0xb81ff022 secret)).machine.taints.bytes ≡ replicate 5 0 ++ (1 ∷ replicate 10 0)
unfolding arm_step_in bad_start row_of in_set part unscaled SignExtend Add X base set_mem any_marked marks_of store_marks
marks_stored = refl

-- ldrb by the index X0, as uxtw, lsl, sxtw and sxtx
marks_refused : map (λ word. answer_number (performed secret (arm_step window word secret)).answer) (0x38604822 ∷ 0x38606822 ∷ 0x3860c822 ∷ 0x3860e822 ∷ []) ≡ (0 ∷ 5 ∷ 0 ∷ 5 ∷ [])
unfolding arm_step_in bad_start row_of in_set part indexed ExtendReg SignExtend ZeroExtend Add X base any_marked
marks_refused = refl

-- ---- the stack

-- `ldr x0, [sp], #16`, and a prefetch by SP: only SP itself is looked at, and only of an access
stacks : (map (stacked 0xf84107e0) (4096 ∷ 4100 ∷ 4104 ∷ []) ≡ ((0, 4096) ∷ (6, 4100) ∷ (6, 4104) ∷ [])) × (stacked 0xf8bf6be0 4100 ≡ (0, 0))
unfolding arm_step_in bad_start row_of in_set part immediate indexed SignExtend ZeroExtend Add X set_x set_base base Mem any_marked marks_of load_marks repeated
stacks = (refl, refl)

-- ---- the monitor

-- X1 is 4104, and X2 7, which is neither status
abbrev idle : Machine
idle = record { values = 0 ∷ 4104 ∷ 7 ∷ replicate 61 0; pc = 8; memory = start.memory; taints = start.taints; monitor = open_monitor }

-- X2 after some words
abbrev status : Machine → List ℕ → ℕ
status m [] = get_or m.values 2 0
status m (word ∷ words) = status (performed m (arm_step window word m)).machine words

-- `stxr w2, x0, [x1]` by itself, after `ldxr x0, [x1]`, twice after it, and after `ldxr w0, [x1]`
statuses : map (status idle) ((0xc8027c20 ∷ []) ∷ (0xc85f7c20 ∷ 0xc8027c20 ∷ []) ∷ (0xc85f7c20 ∷ 0xc8027c20 ∷ 0xc8027c20 ∷ []) ∷ (0x885f7c20 ∷ 0xc8027c20 ∷ []) ∷ [])
    ≡ (1 ∷ 0 ∷ 1 ∷ 1 ∷ [])
unfolding arm_step_in bad_start row_of in_set part load_exclusive store_exclusive ZeroExtend Add X set_x base Mem set_mem any_marked marks_of load_marks repeated store_marks
statuses = refl
