-- `rescue::line::standing` meets its contract: what stands in the buffer is the word's line, newline included. Assumes nothing.
use Prim.Native.Nat.{◌-◌}
use native.Mathlib.Omega.{arith}
use lib.Dec.{eqb}
use mathlib.Core.Path.{refl}
use lib.ListN.{length, take, drop}
use Rattle.std.proofs.lemmas.Slice.Eq.{starts_is}
use Rattle.std.proofs.lemmas.Bool.Decides.{Decides-eqb}
use Rattle.rescue.proofs.Lined.{put_most}
use Rattle.rescue.proofs.Placed.{stands_told, to_end}
use Rattle.rescue.proofs.line.standing.Goals as goal

pub returns-then-starts_with : goal.returns-then-starts_with
returns-then-starts_with c =
    let put = c.put_line-long in
    let input = c.args.input.now in
    let at = c.args.at in
    let begins = starts_is {E = eqb} Decides-eqb (take (length input - at) (drop at input)) (take put.result put.new.output) c.starts_with.result c.starts_with.ensures.value in
    (omega (arith, put_most _ put.ensures (omega arith)), stands_told put.ensures (omega arith) put.result refl (to_end input at) (begins.0 c.if-starts_with.true))
