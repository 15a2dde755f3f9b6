-- `machine::effects::stored_vector` meets its contract. Assumes nothing.
use Rattle.std.proofs.Common.{◌^◌, ◌<◌, map, ap, ◌∙◌, rules}
use lib.Seq.{sets}
use Rattle.bits.specs.Bytes.{bytes_of}
use Rattle.memory.specs.Taints.{normal}
use Rattle.vectors.specs.declared.Halves.{Halves}
use Rattle.vectors.specs.File.{number_of}
use Rattle.vectors.proofs.Wide.{bytes_normal}
use Rattle.machine.proofs.effects.stored_vector.Goals as goal

pub returns : goal.returns
returns c =
    let a = c.args in
    let taints = c.halves_in-taints in
    let low : taints.result.low < 2 ^ 64 = search rules in
    let high : taints.result.high < 2 ^ 64 = search rules in (
      c.store_halves.ensures ∙ ap (λ (h : Halves). sets a.memory.now a.at (bytes_of a.n (number_of h))) c.halves_in-number.ensures,
      c.store_halves-2.ensures ∙ ap (λ (h : Halves). sets a.taint.now a.at (bytes_of a.n (number_of h))) c.normal.ensures
          ∙ ap (sets a.taint.now a.at) (bytes_normal a.n taints.result low high) ∙ ap (λ (h : Halves). sets a.taint.now a.at (map normal (bytes_of a.n (number_of h)))) taints.ensures,
    )
