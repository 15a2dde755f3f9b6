-- Operands that are registers: all but the hint. Assumes nothing.
use Rattle.std.proofs.Common.{◌≡◌, ℕ, ◌+◌, Bool, true, false, eqb, ltb, refl}
use Rattle.bits.specs.Choice.{pick}
use Rattle.bits.proofs.Choices.{pick_by}
use Rattle.instruction.specs.declared.exclusive.AccessSize.{AccessSize}
use Rattle.instruction.specs.declared.operation.PairOp.{PairOp}
use Rattle.instruction.specs.Operations.{pair_vector, pair_opc, access_scale}
use Rattle.mnemonic.specs.Operands.{Operand, Narrow, Wide, letter_of, vector_operand, pair_operand, access_operand}

abbrev pub Registered : Operand → Type 0
Registered o = eqb (letter_of o) 35 ≡ false

pub narrow_or_wide : (b : Bool) → Registered (pick b Narrow Wide)
narrow_or_wide true = refl
narrow_or_wide false = refl

pub wide_or_narrow : (b : Bool) → Registered (pick b Wide Narrow)
wide_or_narrow true = refl
wide_or_narrow false = refl

pub vector_registered : (k : ℕ) → Registered (vector_operand k)
vector_registered k =
    pick_by Registered (eqb k 0) (λ e. refl)
    (λ e. pick_by Registered (eqb k 1) (λ e. refl) (λ e. pick_by Registered (eqb k 2) (λ e. refl) (λ e. pick_by Registered (eqb k 3) (λ e. refl) (λ e. refl))))

pub pair_registered : (op : PairOp) → Registered (pair_operand op)
pair_registered op =
    pick_by Registered (eqb (pair_vector op) 1) (λ e. vector_registered (2 + pair_opc op)) (λ e. narrow_or_wide (eqb (pair_opc op) 0b00))

pub access_registered : (size : AccessSize) → Registered (access_operand size)
access_registered size = narrow_or_wide (ltb (access_scale size) 0b11)
