-- `machine::effects::extended_taints` meets its contract. Assumes nothing.
use Rattle.std.proofs.Common.{ℕ, ◌*◌, ◌/◌, ap, ◌∙◌}
use Rattle.bits.proofs.Extensions.{extended_exact}
use Rattle.machine.proofs.Taints.{extended_none, taints_room}
use Rattle.machine.proofs.effects.extended_taints.Goals as goal

pub returns-then-taints-eq0 : goal.returns-then-taints-eq0
returns-then-taints-eq0 c =
    let a = c.args in
    extended_none a.n a.extent a.taints c.if-taints-eq0.true

pub overflow_mul-taints : goal.overflow_mul-taints
overflow_mul-taints c = record { fits = taints_room c.args.n c.args.extent c.requires.0 c.requires.1 c.requires.2 }

pub returns : goal.returns
returns c =
    let a = c.args in
    ap (λ (x : ℕ). x / 255) (c.extended.ensures ∙ extended_exact a.n a.extent (a.taints * 255) c.requires.0 c.requires.1 c.requires.2)
