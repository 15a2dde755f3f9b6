-- LDR, LDRSW and PRFM, literal: DDI 0602.
--     opc 011 0 00 imm19 Rt
use Rattle.std.specs.Prelude.{ℕ, ◌*◌, eqb}
use Rattle.bits.specs.Choice.{pick}
use Rattle.bits.specs.Fields.{field}
use Rattle.arm.specs.Pseudocode.{Arm, MemOp, LOAD, PREFETCH, Concat, SignExtend, Add, set_x, Mem, Operation, hint, loads, case}

unfoldable pub literal : ℕ → Arm → Operation
literal word s =
    let opc = field 31 30 word in
    -- decode
    let t = field 4 0 word in
    let memop : MemOp = pick (eqb opc 0b11) PREFETCH LOAD in
    let size : ℕ = pick (eqb opc 0b01) 8 4 in
    let signed = eqb opc 0b10 in
    let offset = SignExtend 21 64 (Concat (field 23 5 word) 2 0b00) in
    -- operation
    let address = Add s.pc offset in
    let loaded = Mem address size s in
    case memop
    hint
    (loads address size (pick signed (set_x t 64 (SignExtend (size * 8) 64 loaded) s) (set_x t (size * 8) loaded s)))
    hint
