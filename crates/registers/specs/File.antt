-- The register file by slot: 0 to 30, 31 for SP, and none from 32 on, where reading gives 0, untainted, and
-- setting changes nothing: 01, "What a word says". 01's marks are taints: a number for each register, with a byte for each
-- byte of its value (02, CR 13), tainted where it is not 0.
use Rattle.std.specs.Prelude.{ℕ, Bool, List, eqb, get_or, set}
use Rattle.bits.specs.Choice.{pick}
use Rattle.memory.specs.Taints.{tainted, byte_at}
use Rattle.registers.specs.declared.Registers.{Registers}

-- the slot of a register that is the zero register for 31
abbrev pub zero_slot : ℕ → ℕ
zero_slot n = pick (eqb n 31) 64 n

abbrev pub value_at : Registers → ℕ → ℕ
value_at file slot = get_or file.value slot 0

abbrev pub taints_at : Registers → ℕ → ℕ
taints_at file slot = get_or file.taint slot 0

-- by the taints of a file: whether a byte of the register is tainted, and a given one
abbrev pub taint_in : List ℕ → ℕ → Bool
taint_in taint slot = tainted (get_or taint slot 0)

abbrev pub byte_taint_in : List ℕ → ℕ → ℕ → Bool
byte_taint_in taint slot i = tainted (byte_at i (get_or taint slot 0))

abbrev pub set_at : Registers → ℕ → ℕ → ℕ → Registers
set_at file slot value taints = record { value = set file.value slot value; taint = set file.taint slot taints }
