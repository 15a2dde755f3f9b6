-- STR and LDR of a vector register, register: DDI 0602, "LDR (register, SIMD&FP)".
--     size 111 1 00 opc 1 Rm option S 10 Rn Rt
use Rattle.std.specs.Prelude.{ℕ, ◌*◌, ◌/◌, ◌^◌, Bool, ◌||◌, eqb}
use Rattle.bits.specs.Choice.{pick}
use Rattle.bits.specs.Fields.{field}
use Rattle.arm.specs.Pseudocode.{Arm, MemOp, LOAD, STORE, ExtendReg, Add, Vec, set_vec, base, Mem, set_mem, Operation, hint, CheckSPAlignment, stores, loads, case}
use Rattle.arm.specs.VectorImmediate.{vector_scale, scale_undefined}

-- "if option<1> == '0' then UNDEFINED; // sub-word index", and by its scale
abbrev pub vector_indexed_undefined : ℕ → ℕ → ℕ → Bool
vector_indexed_undefined option size opc = scale_undefined size opc || eqb (field 1 1 option) 0

unfoldable pub vector_indexed : ℕ → Arm → Operation
vector_indexed word s =
    let size = field 31 30 word in
    let opc = field 23 22 word in
    let option = field 15 13 word in
    -- decode
    let scale = vector_scale size opc in
    let shift = pick (eqb (field 12 12 word) 1) scale 0 in
    -- shared decode
    let n = field 9 5 word in
    let t = field 4 0 word in
    let m = field 20 16 word in
    let memop : MemOp = pick (eqb (field 0 0 opc) 1) LOAD STORE in
    let datasize = 8 * 2 ^ scale in
    -- operation
    let offset = ExtendReg m option shift s in
    let address = Add (base n s) offset in
    case memop
    (CheckSPAlignment n s (stores address (datasize / 8) (set_mem address (datasize / 8) (Vec t datasize s) s)))
    (CheckSPAlignment n s (loads address (datasize / 8) (set_vec t datasize (Mem address (datasize / 8) s) s)))
    hint
