-- What decoding gives: answers 2, 3 and 0 in just their cases, and numbers within the bounds of a family. Assumes nothing.
use Prim.Native.Nat.{ℕ}
use mathlib.Core.Path.{◌≡◌, refl}
use mathlib.Core.Bool.{Bool, true, false, ◌&&◌, not}
use mathlib.Core.Logic.{◌↔◌}
use Rattle.bits.specs.Choice.{pick}
use Rattle.instruction.specs.declared.answer.Answer.{Answer}
use Rattle.instruction.specs.declared.row.Row.{Row}
use Rattle.instruction.specs.Table.{columns_of, in_set, row_of, undefined, allocated, instruction_of}
use Rattle.instruction.specs.route.Bounds.{Bounded}
use Rattle.instruction.proofs.Sorts.{inside}
use Rattle.instruction.proofs.Bounds.{bounded_in}
use Rattle.decoder.specs.Decoding.{decode_of, empty}

abbrev Answers : Answer → Bool → Bool → Type 0
Answers a s u = ((a ≡ Answer.NotInSet) ↔ (s ≡ false)) × ((a ≡ Answer.Undefined) ↔ (u ≡ true)) × ((a ≡ Answer.Done) ↔ ((s && not u) ≡ true))

answers : (s u : Bool) → (s ≡ false → u ≡ false) → Answers (pick s (pick u Answer.Undefined Answer.Done) Answer.NotInSet) s u
answers true true n = (((λ e. cc), (λ e. cc)), ((λ e. refl), (λ e. refl)), ((λ e. cc), (λ e. cc)))
answers true false n = (((λ e. cc), (λ e. cc)), ((λ e. cc), (λ e. cc)), ((λ e. refl), (λ e. refl)))
answers false true n = (((λ e. refl), (λ e. refl)), ((λ e. refl), (λ e. cc (n refl))), ((λ e. cc), (λ e. cc)))
answers false false n = (((λ e. refl), (λ e. refl)), ((λ e. cc), (λ e. cc)), ((λ e. cc), (λ e. cc)))

-- decoding answers 2, 3 and 0 in these cases and in no others
pub decode_answers : (w : ℕ)
    → (((decode_of w).answer ≡ Answer.NotInSet) ↔ (in_set w ≡ false)) × (((decode_of w).answer ≡ Answer.Undefined) ↔ (undefined w ≡ true))
    × (((decode_of w).answer ≡ Answer.Done) ↔ (allocated w ≡ true))
unfolding decode_of allocated
decode_answers w = answers (in_set w) (undefined w) (inside w)

by_allocated : (w : ℕ) (b : Bool) (r : Row) → Bounded (pick b (record { family = (columns_of r).family w }) empty).family
by_allocated w true r = bounded_in w r
by_allocated w false r = tt

-- an instruction that is decoded
pub decoded_bounded : (w : ℕ) → Bounded (decode_of w).instruction.family
unfolding decode_of instruction_of
decoded_bounded w = by_allocated w (allocated w) (row_of w)
