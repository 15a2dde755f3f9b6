-- LDXR, LDAXR, STXR and STLXR, of bytes, halfwords, words and doublewords: DDI 0602. What is acquired and released, between
-- processors, is not part of this machine: bit 15 changes nothing.
--     size 001000 0 L 0 Rs o0 11111 Rn Rt
use Rattle.std.specs.Prelude.{ℕ, ◌*◌, ◌/◌, ◌^◌, Bool, not, ◌&&◌, ◌||◌, eqb}
use Rattle.bits.specs.Choice.{pick}
use Rattle.bits.specs.Fields.{field}
use Rattle.arm.specs.Pseudocode.{Arm, ZeroExtend, X, set_x, base, Mem, set_mem, Operation, SetExclusiveMonitors, ClearExclusiveLocal, ExclusiveMonitorsPass, ExclusiveMonitorsStatus, CheckSPAlignment, loads, stores_exclusive}

-- a register field that the encoding draws as (1)(1)(1)(1)(1). Arm leaves a choice where it is anything else, and 02's CR 3 decides:
-- "unused register fields not all ones are 3"
abbrev pub not_ones : ℕ → Bool
not_ones r = not (eqb r 0b11111)

-- a load uses neither Rs nor Rt2, and nor do LDAR and STLR
abbrev pub unused_undefined : ℕ → ℕ → Bool
unused_undefined rs t2 = not_ones rs || not_ones t2

-- what is CONSTRAINED UNPREDICTABLE of a store-exclusive: "if s == t" and "if s == n && n != 31"
abbrev pub status_overlaps : ℕ → ℕ → ℕ → Bool
status_overlaps rs n t = eqb rs t || (eqb rs n && not (eqb n 31))

-- the bits of the register that a load of so many writes
abbrev pub element_regsize : ℕ → ℕ
element_regsize elsize = pick (eqb elsize 64) 64 32

-- L = 1
unfoldable pub load_exclusive : ℕ → Arm → Operation
load_exclusive word s =
    let size = field 31 30 word in
    -- decode
    let n = field 9 5 word in
    let t = field 4 0 word in
    let elsize = 8 * 2 ^ size in
    let regsize = element_regsize elsize in
    -- operation
    let dbytes = elsize / 8 in
    let address = base n s in
    let armed = SetExclusiveMonitors address dbytes s in
    let loaded = Mem address dbytes armed in
    CheckSPAlignment n s (loads address dbytes (set_x t regsize (ZeroExtend elsize regsize loaded) armed))

-- L = 0. The monitor is cleared where it is asked, whatever it says
unfoldable pub store_exclusive : ℕ → Arm → Operation
store_exclusive word s =
    let size = field 31 30 word in
    -- decode
    let n = field 9 5 word in
    let t = field 4 0 word in
    let rs = field 20 16 word in
    let elsize = 8 * 2 ^ size in
    -- operation
    let dbytes = elsize / 8 in
    let address = base n s in
    let value = X t elsize s in
    let pass = ExclusiveMonitorsPass address dbytes s in
    let asked = ClearExclusiveLocal s in
    let after = pick pass (set_mem address dbytes value asked) asked in
    let status : ℕ = pick pass ExclusiveMonitorsStatus 0b1 in
    CheckSPAlignment n s (stores_exclusive address dbytes status (set_x rs 32 (ZeroExtend 1 32 status) after))
