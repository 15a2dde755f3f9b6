-- STP, LDP and LDPSW, and STNP and LDNP, which allocate nothing: DDI 0602.
--     opc 101 0 0 mode L imm7 Rt2 Rn Rt
use Rattle.std.specs.Prelude.{ℕ, ◌+◌, ◌*◌, ◌/◌, ◌^◌, Bool, true, false, not, ◌&&◌, ◌||◌, eqb}
use Rattle.bits.specs.Choice.{pick}
use Rattle.bits.specs.Fields.{field}
use Rattle.arm.specs.Pseudocode.{Arm, MemOp, LOAD, STORE, Concat, SignExtend, LSL, Add, X, set_x, base, set_base, Mem, set_mem, Operation, hint, CheckSPAlignment, stores, loads, case}

-- STNP and LDNP: "if opc<0> == '1' then UNDEFINED"; STP, LDP and LDPSW: "if L:opc<0> == '01' || opc == '11' then UNDEFINED". With
-- memory tagging, which 01 leaves out, Arm has STGP at L:opc 0:01
abbrev pub pair_undefined : ℕ → ℕ → ℕ → Bool
pair_undefined mode opc L = pick (eqb mode 0b00) (eqb (field 0 0 opc) 1) (eqb (Concat L 1 (field 0 0 opc)) 0b01 || eqb opc 0b11)

-- the two modes that write back have bit 23 in common
abbrev pub pair_wback : ℕ → Bool
pair_wback word = eqb (field 23 23 word) 1

-- what is CONSTRAINED UNPREDICTABLE: "wback && (t == n || t2 == n) && n != 31", of a load and of a store, and "t == t2" of a load
abbrev pub pair_overlaps : Bool → ℕ → ℕ → ℕ → ℕ → Bool
pair_overlaps wback L n t t2 = (wback && (eqb t n || eqb t2 n) && not (eqb n 31)) || (eqb L 1 && eqb t t2)

-- what the four encodings share
unfoldable pub paired : Bool → Bool → ℕ → Arm → Operation
paired wback postindex word s =
    let opc = field 31 30 word in
    -- shared decode
    let n = field 9 5 word in
    let t = field 4 0 word in
    let t2 = field 14 10 word in
    let memop : MemOp = pick (eqb (field 22 22 word) 1) LOAD STORE in
    let signed = not (eqb (field 0 0 opc) 0) in
    let scale = 2 + field 1 1 opc in
    let datasize = 8 * 2 ^ scale in
    let offset = LSL (SignExtend 7 64 (field 21 15 word)) scale in
    -- operation
    let dbytes = datasize / 8 in
    let address = pick postindex (base n s) (Add (base n s) offset) in
    let second = Add address dbytes in
    let data1 = Mem address dbytes s in
    let data2 = Mem second dbytes s in
    let back : Arm → Arm = λ after. pick wback (set_base n (pick postindex (Add address offset) address) after) after in
    case memop
    (CheckSPAlignment n s (stores address (2 * dbytes) (back (set_mem second dbytes (X t2 datasize s) (set_mem address dbytes (X t datasize s) s)))))
    (CheckSPAlignment n s (loads address (2 * dbytes)
    (back
    (pick signed (set_x t2 64 (SignExtend datasize 64 data2) (set_x t 64 (SignExtend datasize 64 data1) s))
    (set_x t2 datasize data2 (set_x t datasize data1 s))))))
    hint

-- mode 01 is post-index, 11 pre-index; 10 has an offset alone, and so has 00, without allocation
unfoldable pub pair : ℕ → ℕ → Arm → Operation
pair mode word s =
    pick (eqb mode 0b01) (paired true true word s)
    (pick (eqb mode 0b11) (paired true false word s)
    (paired false false word s))
