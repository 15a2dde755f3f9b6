-- `machine::effects::stored_one` meets its contract. Assumes nothing.
use Rattle.std.proofs.Common.{◌≡◌, ℕ, List, map, arith}
use lib.Seq.{sets}
use Rattle.bits.specs.Bytes.{bytes_of}
use Rattle.memory.specs.Taints.{normal}
use Rattle.memory.proofs.Spans.{put_back}
use Rattle.machine.proofs.effects.stored_one.Goals as goal

-- no bytes change nothing
no_bytes : (xs : List ℕ) (at n v : ℕ) → n ≡ 0 → xs ≡ sets xs at (bytes_of n v)
unfolding bytes_of
no_bytes xs at n v e = rw e

no_taints : (xs : List ℕ) (at n v : ℕ) → n ≡ 0 → xs ≡ sets xs at (map normal (bytes_of n v))
unfolding bytes_of
no_taints xs at n v e = rw e

pub returns-then-n-eq0 : goal.returns-then-n-eq0
returns-then-n-eq0 c = (no_bytes _ _ _ _ (omega (arith, c.if-n-eq0.true)), no_taints _ _ _ _ (omega (arith, c.if-n-eq0.true)))

pub returns : goal.returns
returns c =
    let a = c.args in
    let number = c.value_in-number in
    let taint = c.value_in-taints in (
      rw number.ensures at (put_back a.memory.now _ (bytes_of _ _) a.at c.store.ensures),
      simp taint.ensures at (put_back a.taint.now _ (map normal (bytes_of _ _)) a.at c.store_taints.ensures),
    )
