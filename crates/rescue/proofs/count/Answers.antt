-- `rescue::count` meets its contract. Assumes nothing.
use mathlib.Core.Path.{◌∙◌, ap}
use Prim.Native.Nat.{ℕ, ◌+◌, ◌-◌}
use native.Mathlib.Omega.{arith}
use lib.ListN.{length}
use Rattle.rescue.proofs.Passed.{lines_before}
use Rattle.rescue.proofs.Rooms.{lines_count}
use Rattle.rescue.proofs.count.Goals as goal

pub overflow_add-result : goal.overflow_add-result
overflow_add-result c =
    let input = c.args.input.now in
    omega (arith, c.newlines.ensures, lines_before (length input - 1) input (omega arith), lines_count 10 input)

pub returns-in-len1-up : goal.returns-in-len1-up
returns-in-len1-up c = ap (λ (n : ℕ). n + 1) c.newlines.ensures ∙ lines_before _ c.args.input.now (omega arith)
