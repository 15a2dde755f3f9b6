-- `rescue::line::is_line` meets its contract: what stands in the buffer before the newline is the word's line. Assumes nothing.
use Prim.Native.Nat.{◌-◌}
use native.Mathlib.Omega.{arith}
use mathlib.Core.Path.{refl}
use Rattle.std.proofs.lemmas.Slice.Eq.{slice_eq-Decides}
use Rattle.std.proofs.lemmas.Bool.Decides.{Decides-eqb}
use Rattle.rescue.proofs.Lined.{put_most, line_told}
use Rattle.rescue.proofs.line.is_line.Goals as goal

pub overflow_sub-body : goal.overflow_sub-body
overflow_sub-body c = omega (arith, put_most _ c.put_line-end.ensures (omega arith))

pub returns : goal.returns
returns c =
    let put = c.put_line-end in
    line_told _ put.ensures (omega arith) _ (put.result - 1) (slice_eq-Decides Decides-eqb _ _ _ c.eq.ensures) refl
