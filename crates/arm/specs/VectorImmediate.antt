-- STR and LDR of a vector register, immediate: DDI 0602, "LDR (immediate, SIMD&FP)".
--     size 111 1 00 opc 0 imm9 01 Rn Rt     post-index
--     size 111 1 00 opc 0 imm9 11 Rn Rt     pre-index
--     size 111 1 01 opc imm12 Rn Rt         unsigned offset
use Rattle.std.specs.Prelude.{ℕ, ◌*◌, ◌/◌, ◌^◌, Bool, true, false, eqb, ltb}
use Rattle.bits.specs.Choice.{pick}
use Rattle.bits.specs.Fields.{field}
use Rattle.arm.specs.Pseudocode.{Arm, MemOp, LOAD, STORE, Concat, SignExtend, ZeroExtend, LSL, Add, Vec, set_vec, base, set_base, Mem, set_mem, Operation, hint, CheckSPAlignment, stores, loads, case}

-- what the three encodings share
unfoldable pub vector_immediate : Bool → Bool → ℕ → ℕ → ℕ → Arm → Operation
vector_immediate wback postindex scale offset word s =
    let opc = field 23 22 word in
    -- shared decode
    let n = field 9 5 word in
    let t = field 4 0 word in
    let memop : MemOp = pick (eqb (field 0 0 opc) 1) LOAD STORE in
    let datasize = 8 * 2 ^ scale in
    -- operation
    let address = pick postindex (base n s) (Add (base n s) offset) in
    let back : Arm → Arm = λ after. pick wback (set_base n (pick postindex (Add address offset) address) after) after in
    case memop
    (CheckSPAlignment n s (stores address (datasize / 8) (back (set_mem address (datasize / 8) (Vec t datasize s) s))))
    (CheckSPAlignment n s (loads address (datasize / 8) (back (set_vec t datasize (Mem address (datasize / 8) s) s))))
    hint

-- opc<1>:size
abbrev pub vector_scale : ℕ → ℕ → ℕ
vector_scale size opc = Concat (field 1 1 opc) 2 size

-- "if scale > 4 then UNDEFINED", of every page with this scale
abbrev pub scale_undefined : ℕ → ℕ → Bool
scale_undefined size opc = ltb 4 (vector_scale size opc)

abbrev pub vector_post_index : ℕ → Arm → Operation
vector_post_index word s =
    let scale = vector_scale (field 31 30 word) (field 23 22 word) in
    let offset = SignExtend 9 64 (field 20 12 word) in
    vector_immediate true true scale offset word s

abbrev pub vector_pre_index : ℕ → Arm → Operation
vector_pre_index word s =
    let scale = vector_scale (field 31 30 word) (field 23 22 word) in
    let offset = SignExtend 9 64 (field 20 12 word) in
    vector_immediate true false scale offset word s

abbrev pub vector_unsigned : ℕ → Arm → Operation
vector_unsigned word s =
    let scale = vector_scale (field 31 30 word) (field 23 22 word) in
    let offset = LSL (ZeroExtend 12 64 (field 21 10 word)) scale in
    vector_immediate false false scale offset word s
