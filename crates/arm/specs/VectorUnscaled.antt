-- STUR and LDUR of a vector register: DDI 0602, "LDUR (SIMD&FP)".
--     size 111 1 00 opc 0 imm9 00 Rn Rt
use Rattle.std.specs.Prelude.{ℕ, ◌*◌, ◌/◌, ◌^◌, eqb}
use Rattle.bits.specs.Choice.{pick}
use Rattle.bits.specs.Fields.{field}
use Rattle.arm.specs.Pseudocode.{Arm, MemOp, LOAD, STORE, SignExtend, Add, Vec, set_vec, base, Mem, set_mem, Operation, hint, CheckSPAlignment, stores, loads, case}
use Rattle.arm.specs.VectorImmediate.{vector_scale}

unfoldable pub vector_unscaled : ℕ → Arm → Operation
vector_unscaled word s =
    let size = field 31 30 word in
    let opc = field 23 22 word in
    -- decode
    let scale = vector_scale size opc in
    let offset = SignExtend 9 64 (field 20 12 word) in
    -- shared decode
    let n = field 9 5 word in
    let t = field 4 0 word in
    let memop : MemOp = pick (eqb (field 0 0 opc) 1) LOAD STORE in
    let datasize = 8 * 2 ^ scale in
    -- operation
    let address = Add (base n s) offset in
    case memop
    (CheckSPAlignment n s (stores address (datasize / 8) (set_mem address (datasize / 8) (Vec t datasize s) s)))
    (CheckSPAlignment n s (loads address (datasize / 8) (set_vec t datasize (Mem address (datasize / 8) s) s)))
    hint
