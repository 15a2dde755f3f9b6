-- LDAR and STLR, of bytes, halfwords, words and doublewords: DDI 0602. What is ordered, between processors, is not part of this
-- machine.
--     size 001000 1 L 0 11111 1 11111 Rn Rt
use Rattle.std.specs.Prelude.{ℕ, ◌*◌, ◌/◌, ◌^◌, eqb}
use Rattle.bits.specs.Choice.{pick}
use Rattle.bits.specs.Fields.{field}
use Rattle.arm.specs.Pseudocode.{Arm, MemOp, LOAD, STORE, ZeroExtend, X, set_x, base, Mem, set_mem, Operation, hint, CheckSPAlignment, stores, loads, case}
use Rattle.arm.specs.Exclusive.{element_regsize}

unfoldable pub acquire_release : ℕ → Arm → Operation
acquire_release word s =
    let size = field 31 30 word in
    -- decode
    let n = field 9 5 word in
    let t = field 4 0 word in
    let memop : MemOp = pick (eqb (field 22 22 word) 1) LOAD STORE in
    let elsize = 8 * 2 ^ size in
    let regsize = element_regsize elsize in
    -- operation
    let dbytes = elsize / 8 in
    let address = base n s in
    case memop
    (CheckSPAlignment n s (stores address dbytes (set_mem address dbytes (X t elsize s) s)))
    (CheckSPAlignment n s (loads address dbytes (set_x t regsize (ZeroExtend elsize regsize (Mem address dbytes s)) s)))
    hint
