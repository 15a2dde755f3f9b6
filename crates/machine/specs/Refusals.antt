-- Every refusal of a step, in the order in which they are tested: 01, "Answer numbers".
use Rattle.std.specs.Prelude.{ℕ, Bool, not, List, [], ◌∷◌, ◌++◌, length}
use Rattle.instruction.specs.declared.answer.Answer.TheVariants.{BadWindow, NotInSet, Undefined, Unpredictable}
use Rattle.instruction.specs.Table.{in_set, undefined, unpredictable}
use Rattle.access.specs.declared.transfer.Transfer.{Transfer}
use Rattle.access.specs.declared.Access.{Access}
use Rattle.access.specs.declared.Access.TheVariants.{Nothing, Moves}
use Rattle.access.specs.Accesses.{word_access}
use Rattle.plan.specs.declared.window.Window.{Window}
use Rattle.plan.specs.Window.{bad_window}
use Rattle.plan.specs.Refusals.{Refusal, refusal}
use Rattle.plan.specs.declared.ranges.Reach.{Reach}
use Rattle.plan.specs.declared.ranges.Reach.TheVariants.{Alone}
use Rattle.plan.specs.Ranges.{admit_in}
use Rattle.plan.specs.Plans.{refusals_of}
use Rattle.machine.specs.Machine.{Machine, operands_of}

-- 1: the window is that of the memory that is lent
abbrev pub bad : Window → Machine → Bool
bad w m = bad_window w (length m.memory) (length m.taints.bytes) m.pc

-- 2, 3 and 4
abbrev pub class_refusals : ℕ → List Refusal
class_refusals word =
    refusal NotInSet (not (in_set word)) 0
    ∷ refusal Undefined (undefined word) 0
    ∷ refusal Unpredictable (unpredictable word) 0
    ∷ []

-- 5 and the further ones, which a prefetch passes
abbrev pub access_refusals : (Transfer → ℕ → List Refusal) → Access → Machine → List Refusal
access_refusals admit Nothing m = []
access_refusals admit (Moves t a) m = refusals_of admit t a (operands_of a m)

abbrev pub word_refusals : (Transfer → ℕ → List Refusal) → ℕ → Machine → List Refusal
word_refusals admit word m = class_refusals word ++ access_refusals admit (word_access word) m

-- 1 to 8, and 12 of ranges, by what may be reached
abbrev pub refusals_in : Window → Reach → ℕ → Machine → List Refusal
refusals_in w reach word m = refusal BadWindow (bad w m) 0 ∷ word_refusals (admit_in w reach (length m.memory)) word m

-- 1 to 8, of a plugin alone
abbrev pub refusals : Window → ℕ → Machine → List Refusal
refusals w word m = refusals_in w Alone word m
