-- STRB to LDR, immediate: source 002; PRFM, immediate, by DDI 0602. Of 002's two texts this is the older, whose shared decode has
-- every opc. The newer one is of LDR alone, and says of it what the older does: opc is 01 there, so that memop is LOAD and signed
-- FALSE.
--     size 111 0 00 opc 0 imm9 01 Rn Rt     post-index
--     size 111 0 00 opc 0 imm9 11 Rn Rt     pre-index
--     size 111 0 01 opc imm12 Rn Rt         unsigned offset
use Rattle.std.specs.Prelude.{ℕ, ◌*◌, ◌/◌, ◌^◌, Bool, true, false, not, ◌&&◌, eqb}
use Rattle.bits.specs.Choice.{pick}
use Rattle.bits.specs.Fields.{field}
use Rattle.arm.specs.Pseudocode.{Arm, MemOp, LOAD, STORE, PREFETCH, SignExtend, ZeroExtend, Extend, LSL, Add, X, set_x, base, set_base, Mem, set_mem, Operation, hint, CheckSPAlignment, stores, loads, case, regsize_of}

-- where the shared decode says UNDEFINED
abbrev pub index_undefined : ℕ → ℕ → Bool
index_undefined size opc =
    pick (eqb (field 1 1 opc) 0) false
    (pick (eqb size 0b11) true
    (eqb size 0b10 && eqb (field 0 0 opc) 1))

-- and where it does with an unsigned offset, which alone PRFM has
abbrev pub unsigned_undefined : ℕ → ℕ → Bool
unsigned_undefined size opc =
    pick (eqb (field 1 1 opc) 0) false
    (pick (eqb size 0b11) (eqb (field 0 0 opc) 1)
    (eqb size 0b10 && eqb (field 0 0 opc) 1))

-- what is CONSTRAINED UNPREDICTABLE, of a load and of a store: "if wback && n == t && n != 31"
abbrev pub overlaps : Bool → ℕ → ℕ → Bool
overlaps wback n t = wback && eqb n t && not (eqb n 31)

-- what the three encodings share
unfoldable pub immediate : Bool → Bool → ℕ → ℕ → ℕ → Arm → Operation
immediate wback postindex scale offset word s =
    let size = field 31 30 word in
    let opc = field 23 22 word in
    -- shared decode
    let n = field 9 5 word in
    let t = field 4 0 word in
    let signed = eqb (field 1 1 opc) 1 in
    let memop : MemOp = pick signed (pick (eqb size 0b11) PREFETCH LOAD) (pick (eqb (field 0 0 opc) 1) LOAD STORE) in
    let regsize = regsize_of size opc in
    let datasize = 8 * 2 ^ scale in
    -- operation
    let address = pick postindex (base n s) (Add (base n s) offset) in
    let back : Arm → Arm = λ after. pick wback (set_base n (pick postindex (Add address offset) address) after) after in
    case memop
    (CheckSPAlignment n s (stores address (datasize / 8) (back (set_mem address (datasize / 8) (X t datasize s) s))))
    (CheckSPAlignment n s (loads address (datasize / 8) (back (set_x t regsize (Extend signed datasize regsize (Mem address (datasize / 8) s)) s))))
    hint

abbrev pub post_index : ℕ → Arm → Operation
post_index word s =
    let scale = field 31 30 word in
    let offset = SignExtend 9 64 (field 20 12 word) in
    immediate true true scale offset word s

abbrev pub pre_index : ℕ → Arm → Operation
pre_index word s =
    let scale = field 31 30 word in
    let offset = SignExtend 9 64 (field 20 12 word) in
    immediate true false scale offset word s

abbrev pub unsigned : ℕ → Arm → Operation
unsigned word s =
    let scale = field 31 30 word in
    let offset = LSL (ZeroExtend 12 64 (field 21 10 word)) scale in
    immediate false false scale offset word s
