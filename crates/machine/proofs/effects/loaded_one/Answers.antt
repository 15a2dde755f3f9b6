-- `machine::effects::loaded_one` meets its contract. Assumes nothing.
use Rattle.std.proofs.Common.{◌≡◌, ℕ, min, List, refl, ◌∙◌, arith}
use Rattle.bits.specs.Extension.{largest, extended_of}
use Rattle.bits.specs.Bytes.{joined, span_of}
use Rattle.bits.proofs.Extensions.{extended_exact}
use Rattle.memory.proofs.Sources.{no_source}
use Rattle.memory.proofs.Spans.{span_back}
use Rattle.machine.proofs.Taints.{loaded_taints_lem}
use Rattle.machine.proofs.effects.loaded_one.Goals as goal

nothing_loaded : (m : List ℕ) (at extent : ℕ) → extended_of 0 extent (joined (span_of m at 0)) ≡ 0
unfolding extended_of largest joined span_of
nothing_loaded m at extent = refl

pub returns-then-n-eq0 : goal.returns-then-n-eq0
returns-then-n-eq0 c = rw (c.if-n-eq0.true, nothing_loaded, no_source)

pub returns : goal.returns
returns c =
    let a = c.args in
    let number = c.load-number in
    let taints = c.load_taints-taints in
    let e : min a.n 8 ≡ a.n = omega arith in
    let exact = c.extended.ensures ∙ extended_exact a.n a.extent number.result c.requires.0 c.requires.1 (rw e at number.ensures.1) in
    let loaded = loaded_taints_lem a.bytes.now.taint.now a.at a.n _ (rw (e, span_back a.bytes.now.taint.now a.at a.n) at taints.ensures.0) c.extended_taints.ensures (omega (arith, c.requires.0)) in
    rw (loaded, ← span_back a.bytes.now.memory.now a.at a.n, ← (rw e at number.ensures.0), ← exact) refl
