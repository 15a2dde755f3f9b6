-- STP and LDP of vector registers, and STNP and LDNP, which allocate nothing: DDI 0602, "LDP (SIMD&FP)" and "LDNP (SIMD&FP)".
--     opc 101 1 0 mode L imm7 Rt2 Rn Rt
use Rattle.std.specs.Prelude.{ℕ, ◌+◌, ◌*◌, ◌/◌, ◌^◌, Bool, true, false, ◌&&◌, eqb}
use Rattle.bits.specs.Choice.{pick}
use Rattle.bits.specs.Fields.{field}
use Rattle.arm.specs.Pseudocode.{Arm, MemOp, LOAD, STORE, SignExtend, LSL, Add, Vec, set_vec, base, set_base, Mem, set_mem, Operation, hint, CheckSPAlignment, stores, loads, case}

-- "if opc == '11' then UNDEFINED"
abbrev pub vector_pair_undefined : ℕ → Bool
vector_pair_undefined opc = eqb opc 0b11

-- what is CONSTRAINED UNPREDICTABLE: "t == t2" of a load. A base is no vector register
abbrev pub vector_pair_overlaps : ℕ → ℕ → ℕ → Bool
vector_pair_overlaps L t t2 = eqb L 1 && eqb t t2

-- what the four encodings share
unfoldable pub vector_paired : Bool → Bool → ℕ → Arm → Operation
vector_paired wback postindex word s =
    let opc = field 31 30 word in
    -- shared decode
    let n = field 9 5 word in
    let t = field 4 0 word in
    let t2 = field 14 10 word in
    let memop : MemOp = pick (eqb (field 22 22 word) 1) LOAD STORE in
    let scale = 2 + opc in
    let datasize = 8 * 2 ^ scale in
    let offset = LSL (SignExtend 7 64 (field 21 15 word)) scale in
    -- operation
    let dbytes = datasize / 8 in
    let address = pick postindex (base n s) (Add (base n s) offset) in
    let second = Add address dbytes in
    let data1 = Mem address dbytes s in
    let data2 = Mem second dbytes s in
    let back : Arm → Arm = λ after. pick wback (set_base n (pick postindex (Add address offset) address) after) after in
    case memop
    (CheckSPAlignment n s (stores address (2 * dbytes) (back (set_mem second dbytes (Vec t2 datasize s) (set_mem address dbytes (Vec t datasize s) s)))))
    (CheckSPAlignment n s (loads address (2 * dbytes) (back (set_vec t2 datasize data2 (set_vec t datasize data1 s)))))
    hint

-- mode 01 is post-index, 11 pre-index; 10 has an offset alone, and so has 00, without allocation
unfoldable pub vector_pair : ℕ → ℕ → Arm → Operation
vector_pair mode word s =
    pick (eqb mode 0b01) (vector_paired true true word s)
    (pick (eqb mode 0b11) (vector_paired true false word s)
    (vector_paired false false word s))
