-- STRB to LDR and PRFM, register: source 003, which is of bytes, with a shift of 0; the other sizes by DDI 0602.
--     size 111 0 00 opc 1 Rm option S 10 Rn Rt
use Rattle.std.specs.Prelude.{ℕ, ◌*◌, ◌/◌, ◌^◌, Bool, false, ◌&&◌, ◌||◌, eqb}
use Rattle.bits.specs.Choice.{pick}
use Rattle.bits.specs.Fields.{field}
use Rattle.arm.specs.Pseudocode.{Arm, MemOp, LOAD, STORE, PREFETCH, Extend, ExtendReg, Add, X, set_x, base, Mem, set_mem, Operation, hint, CheckSPAlignment, stores, loads, case, regsize_of}

-- "if option<1> == '0' then UNDEFINED; // sub-word index", and where the shared decode says it
abbrev pub indexed_undefined : ℕ → ℕ → ℕ → Bool
indexed_undefined option size opc =
    eqb (field 1 1 option) 0
    || pick (eqb (field 1 1 opc) 0) false
    (pick (eqb size 0b11) (eqb (field 0 0 opc) 1)
    (eqb size 0b10 && eqb (field 0 0 opc) 1))

unfoldable pub indexed : ℕ → Arm → Operation
indexed word s =
    let size = field 31 30 word in
    let opc = field 23 22 word in
    let option = field 15 13 word in
    -- decode
    let scale = size in
    let shift = pick (eqb (field 12 12 word) 1) scale 0 in
    -- shared decode
    let n = field 9 5 word in
    let t = field 4 0 word in
    let m = field 20 16 word in
    let signed = eqb (field 1 1 opc) 1 in
    let memop : MemOp = pick signed (pick (eqb size 0b11) PREFETCH LOAD) (pick (eqb (field 0 0 opc) 1) LOAD STORE) in
    let regsize = regsize_of size opc in
    let datasize = 8 * 2 ^ scale in
    -- operation
    let offset = ExtendReg m option shift s in
    let address = Add (base n s) offset in
    case memop
    (CheckSPAlignment n s (stores address (datasize / 8) (set_mem address (datasize / 8) (X t datasize s) s)))
    (CheckSPAlignment n s (loads address (datasize / 8) (set_x t regsize (Extend signed datasize regsize (Mem address (datasize / 8) s)) s)))
    hint
