-- STURB to LDUR and PRFUM: sources 000 (without its capability lines) and 004.
--     size 111 0 00 opc 0 imm9 00 Rn Rt
use Rattle.std.specs.Prelude.{ℕ, ◌*◌, ◌/◌, ◌^◌, Bool, false, ◌&&◌, eqb}
use Rattle.bits.specs.Choice.{pick}
use Rattle.bits.specs.Fields.{field}
use Rattle.arm.specs.Pseudocode.{Arm, MemOp, LOAD, STORE, PREFETCH, SignExtend, Extend, Add, X, set_x, base, Mem, set_mem, Operation, hint, CheckSPAlignment, stores, loads, case, regsize_of}

-- where the shared decode says UNDEFINED
abbrev pub unscaled_undefined : ℕ → ℕ → Bool
unscaled_undefined size opc =
    pick (eqb (field 1 1 opc) 0) false
    (pick (eqb size 0b11) (eqb (field 0 0 opc) 1)
    (eqb size 0b10 && eqb (field 0 0 opc) 1))

unfoldable pub unscaled : ℕ → Arm → Operation
unscaled word s =
    let size = field 31 30 word in
    let opc = field 23 22 word in
    -- decode
    let scale = size in
    let offset = SignExtend 9 64 (field 20 12 word) in
    -- shared decode
    let n = field 9 5 word in
    let t = field 4 0 word in
    let signed = eqb (field 1 1 opc) 1 in
    let memop : MemOp = pick signed (pick (eqb size 0b11) PREFETCH LOAD) (pick (eqb (field 0 0 opc) 1) LOAD STORE) in
    let regsize = regsize_of size opc in
    let datasize = 8 * 2 ^ scale in
    -- operation
    let address = Add (base n s) offset in
    case memop
    (CheckSPAlignment n s (stores address (datasize / 8) (set_mem address (datasize / 8) (X t datasize s) s)))
    (CheckSPAlignment n s (loads address (datasize / 8) (set_x t regsize (Extend signed datasize regsize (Mem address (datasize / 8) s)) s)))
    hint
