-- The contract of the first half, of a step that begins with what is lent.
use Rattle.std.specs.Prelude.{ℕ, List, Result}
use Rattle.machine.specs.Machine.{Machine}
use Rattle.machine.specs.Step.{Step}
use Rattle.machine.specs.route.Writing.{state_of, Decides}
use Rattle.machine.specs.declared.Effect.{Effect}
use Rattle.plan.specs.declared.Refusal.{Refusal}
use Rattle.machine.specs.declared.files.Start.{Start}

abbrev pub DecidesFrom : (Machine → Step Machine) → Start → List ℕ → List ℕ → Result Effect Refusal → List ℕ → List ℕ → Type 0
DecidesFrom step s memory taint decision memory-left taint-left =
    Decides step (state_of s.files.value.now s.files.tainted.now s.pc s.monitor) s.files.vectors.now s.files.vector_taint.now memory taint decision memory-left taint-left
