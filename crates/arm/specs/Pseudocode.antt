-- The notions that Arm's pages share, written from their meaning (DDI 0602, "Shared Pseudocode"). The names with capitals
-- are Arm's. Bits of a given width are a number, whose width is said where it matters; bits hi to lo of x are `field hi lo x`.
use Rattle.std.specs.Prelude.{ℕ, zero, suc, ◌+◌, ◌-◌, ◌*◌, ◌/◌, ◌^◌, Bool, true, false, ◌&&◌, not, List, eqb, ltb, get_or, set}
use Rattle.bits.specs.Choice.{pick}
use Rattle.bits.specs.Fields.{field}
use Rattle.machine.specs.declared.monitor.Monitor.{Monitor}

-- ---- bits

-- n copies of one bit
abbrev pub Replicate : ℕ → ℕ → ℕ
Replicate bit zero = 0
Replicate bit (suc n) = bit + Replicate bit n * 2

-- x above the n bits of y
abbrev pub Concat : ℕ → ℕ → ℕ → ℕ
Concat x n y = x * 2 ^ n + y

-- the low `from` bits of x, with `to` bits: above them stand copies of their top bit, or zeros
unfoldable pub SignExtend : ℕ → ℕ → ℕ → ℕ
SignExtend from to x = Concat (Replicate (field (from - 1) (from - 1) x) (to - from)) from (field (from - 1) 0 x)

unfoldable pub ZeroExtend : ℕ → ℕ → ℕ → ℕ
ZeroExtend from to x = Concat (Replicate 0 (to - from)) from (field (from - 1) 0 x)

abbrev pub Extend : Bool → ℕ → ℕ → ℕ → ℕ
Extend signed from to x = pick signed (SignExtend from to x) (ZeroExtend from to x)

-- 64 bits shifted left, and the sum of 64 bits
unfoldable pub LSL : ℕ → ℕ → ℕ
LSL x n = field 63 0 (x * 2 ^ n)

unfoldable pub Add : ℕ → ℕ → ℕ
Add x y = field 63 0 (x + y)

-- ---- registers and memory

-- what the pages read and write: X0 to X30, then SP, and behind it the vector registers; the program counter; bytes, the first at
-- address `origin`; and the exclusives monitor
pub record Arm : Type 0 where
  pub registers : List ℕ
  pub pc : ℕ
  pub origin : ℕ
  pub memory : List ℕ
  pub monitor : Monitor

-- a state with another of what pages change
abbrev pub with_registers : List ℕ → Arm → Arm
with_registers r s = record { registers = r; pc = s.pc; origin = s.origin; memory = s.memory; monitor = s.monitor }

abbrev pub with_memory : List ℕ → Arm → Arm
with_memory b s = record { registers = s.registers; pc = s.pc; origin = s.origin; memory = b; monitor = s.monitor }

abbrev pub with_monitor : Monitor → Arm → Arm
with_monitor r s = record { registers = s.registers; pc = s.pc; origin = s.origin; memory = s.memory; monitor = r }

-- the low bits of X0 to X30, and zeros for 31
unfoldable pub X : ℕ → ℕ → Arm → ℕ
X n width s = pick (eqb n 31) 0 (field (width - 1) 0 (get_or s.registers n 0))

-- the low bits of what is written, with zeros above them; what is written to 31 is dropped
unfoldable pub set_x : ℕ → ℕ → ℕ → Arm → Arm
set_x n width v s = with_registers (pick (eqb n 31) s.registers (set s.registers n (ZeroExtend width 64 v))) s

-- V0 stands behind SP
abbrev pub first_vector : ℕ
first_vector = 32

-- V[n] of Arm: the low bits of V0 to V31
unfoldable pub Vec : ℕ → ℕ → Arm → ℕ
Vec n width s = field (width - 1) 0 (get_or s.registers (first_vector + n) 0)

-- likewise, with zeros up to 128 bits
unfoldable pub set_vec : ℕ → ℕ → ℕ → Arm → Arm
set_vec n width v s = with_registers (set s.registers (first_vector + n) (ZeroExtend width 128 v)) s

abbrev pub SP : Arm → ℕ
SP s = get_or s.registers 31 0

abbrev pub set_sp : ℕ → Arm → Arm
set_sp v s = with_registers (set s.registers 31 v) s

-- register n as a base, where 31 is SP
unfoldable pub base : ℕ → Arm → ℕ
base n s = pick (eqb n 31) (SP s) (X n 64 s)

unfoldable pub set_base : ℕ → ℕ → Arm → Arm
set_base n v s = pick (eqb n 31) (set_sp v s) (set_x n 64 v s)

-- the bytes from an address on, the lowest at the lowest address
unfoldable pub Mem : ℕ → ℕ → Arm → ℕ
Mem address zero s = 0
Mem address (suc n) s = Concat (Mem (Add address 1) n s) 8 (get_or s.memory (address - s.origin) 0)

abbrev pub set_byte : ℕ → ℕ → Arm → Arm
set_byte address b s = with_memory (set s.memory (address - s.origin) b) s

unfoldable pub set_mem : ℕ → ℕ → ℕ → Arm → Arm
set_mem address zero v s = s
set_mem address (suc n) v s = set_mem (Add address 1) n (v / 2 ^ 8) (set_byte address (field 7 0 v) s)

-- an index: the low bits of Xm, of which `option` gives the number and the sign, above `shift` zeros. They are never more
-- than have room
unfoldable pub ExtendReg : ℕ → ℕ → ℕ → Arm → ℕ
ExtendReg m option shift s =
    let length = 8 * 2 ^ field 1 0 option in
    let len = pick (ltb (64 - shift) length) (64 - shift) length in
    Extend (eqb (field 2 2 option) 1) (len + shift) 64 (Concat (field (len - 1) 0 (X m 64 s)) shift 0)

-- ---- the exclusives monitor. Arm leaves to an implementation which bytes around an address it covers, and what else clears it.
-- 02's CR 3 takes "an address and a size", no bytes where it is open, and only exclusive accesses touch it

abbrev pub SetExclusiveMonitors : ℕ → ℕ → Arm → Arm
SetExclusiveMonitors address size s = with_monitor (record { address = address; size = size }) s

abbrev pub ClearExclusiveLocal : Arm → Arm
ClearExclusiveLocal s = SetExclusiveMonitors 0 0 s

-- "exactly if the monitor has the same address and size"
abbrev pub ExclusiveMonitorsPass : ℕ → ℕ → Arm → Bool
ExclusiveMonitorsPass address size s = eqb s.monitor.address address && eqb s.monitor.size size

-- after a write that was let through: it is always made here
abbrev pub ExclusiveMonitorsStatus : ℕ
ExclusiveMonitorsStatus = 0

-- ---- what a page does

pub data MemOp : Type 0 where
  LOAD : MemOp
  STORE : MemOp
  PREFETCH : MemOp

-- of the shared decode of one general register, by size and opc: the bits of the register that a load writes
abbrev pub regsize_of : ℕ → ℕ → ℕ
regsize_of size opc = pick (eqb (field 1 1 opc) 1) (pick (eqb (field 0 0 opc) 1) 32 64) (pick (eqb size 0b11) 64 32)

-- a hint, which changes nothing; an SP alignment fault, with SP; or one access, a store or not, by the address of its first
-- byte, its bytes, its status, and the state that it leaves
pub data Operation : Type 0 where
  hint : Operation
  sp_fault : ℕ → Operation
  access : Bool → ℕ → ℕ → ℕ → Arm → Operation

-- the largest multiple of y that is not above x
abbrev pub Align : ℕ → ℕ → ℕ
Align x y = y * (x / y)

-- what comes before an access by base n: "if n == 31 then CheckSPAlignment()". 02's CR 1 takes the system's switch for it as on
abbrev pub CheckSPAlignment : ℕ → Arm → Operation → Operation
CheckSPAlignment n s o = pick (eqb n 31 && not (eqb (SP s) (Align (SP s) 16))) (sp_fault (SP s)) o

abbrev pub stores : ℕ → ℕ → Arm → Operation
stores address size s = access true address size 0 s

abbrev pub loads : ℕ → ℕ → Arm → Operation
loads address size s = access false address size 0 s

-- only a store-exclusive has a status
abbrev pub stores_exclusive : ℕ → ℕ → ℕ → Arm → Operation
stores_exclusive address size status s = access true address size status s

abbrev pub case : MemOp → Operation → Operation → Operation → Operation
case STORE store load prefetch = store
case LOAD store load prefetch = load
case PREFETCH store load prefetch = prefetch
