-- The plan of an access: its refusals in their order, or where it touches memory. Answer 5 comes first, then 6 for the stack
-- pointer, and then what an admission refuses of the access at its address. An admission sees the transfer and the address
-- alone, so that other ranges are another admission.
use Rattle.std.specs.Prelude.{ℕ, ◌%◌, Bool, false, not, List, ◌∷◌, Result, Ok, Err, ◌==◌}
use Rattle.bits.specs.Choice.{pick}
use Rattle.instruction.specs.declared.answer.Answer.{Answer}
use Rattle.instruction.specs.declared.answer.Answer.TheVariants.{TaintedAddress, Misaligned}
use Rattle.access.specs.declared.transfer.Transfer.{Transfer}
use Rattle.access.specs.declared.addressing.Addressing.{Addressing}
use Rattle.plan.specs.declared.operands.Operands.{Operands}
use Rattle.plan.specs.declared.Touch as returned_touch
use Rattle.plan.specs.declared.Refusal as returned_refusal
use Rattle.plan.specs.Address.{sum_of, address_of}
use Rattle.plan.specs.Refusals.{Refusal, refusal, first_of}

-- a refusal has an answer and the address that it reports; a touch the address of the first byte, and the number that is
-- written back
pub data Plan : Type 0 where
  Refuse : Answer → ℕ → Plan
  Touch : ℕ → ℕ → Plan

-- the plan that a function returns
abbrev pub plan_in : Result returned_touch.Touch returned_refusal.Refusal → Plan
plan_in (Ok t) = Touch t.address t.sum
plan_in (Err r) = Refuse r.answer r.address

-- 02, CR 1: "SP itself, before any offset, to be a multiple of 16". The slot is the base's, and 31 is SP
unfoldable pub misaligned_stack : ℕ → ℕ → Bool
misaligned_stack slot base = pick (slot == 31) (not (base % 16 == 0)) false

abbrev pub refusals_of : (Transfer → ℕ → List Refusal) → Transfer → Addressing → Operands → List Refusal
refusals_of admit t a o =
    refusal TaintedAddress o.tainted 0
    ∷ refusal Misaligned (misaligned_stack a.base o.base) o.base
    ∷ admit t (address_of a o)

unfoldable pub plan_of : (Transfer → ℕ → List Refusal) → Transfer → Addressing → Operands → Plan
plan_of admit t a o = first_of Refuse (Touch (address_of a o) (sum_of a o)) (refusals_of admit t a o)
