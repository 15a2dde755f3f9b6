-- LDR of a vector register, literal: DDI 0602, "LDR (literal, SIMD&FP)".
--     opc 011 1 00 imm19 Rt
use Rattle.std.specs.Prelude.{ℕ, ◌*◌, Bool, eqb}
use Rattle.bits.specs.Choice.{pick}
use Rattle.bits.specs.Fields.{field}
use Rattle.arm.specs.Pseudocode.{Arm, Concat, SignExtend, Add, set_vec, Mem, Operation, loads}

-- "when '11' UNDEFINED"
abbrev pub vector_literal_undefined : ℕ → Bool
vector_literal_undefined opc = eqb opc 0b11

-- the bytes of opc 00, 01 and 10
abbrev pub vector_literal_size : ℕ → ℕ
vector_literal_size opc = pick (eqb opc 0b00) 4 (pick (eqb opc 0b01) 8 16)

unfoldable pub vector_literal : ℕ → Arm → Operation
vector_literal word s =
    let opc = field 31 30 word in
    -- decode
    let t = field 4 0 word in
    let size : ℕ = vector_literal_size opc in
    let offset = SignExtend 21 64 (Concat (field 23 5 word) 2 0b00) in
    -- operation
    let address = Add s.pc offset in
    loads address size (set_vec t (size * 8) (Mem address size s) s)
