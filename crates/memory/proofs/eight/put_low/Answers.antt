-- `memory::eight::put_low` meets its contract. Assumes nothing.
use mathlib.Core.Path.{◌∙◌}
use Rattle.bits.proofs.Joining.{put_under}
use Rattle.memory.proofs.eight.put_low.Goals as goal

pub returns : goal.returns
returns c =
    let old = c.eight_at-old.ensures in
    let merged = c.merged.ensures in
    let put = c.put_eight.ensures in
    put ∙ rw merged (put_under c.args.n c.args.number c.requires.0 old)
