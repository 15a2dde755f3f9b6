-- The source of a byte that is loaded, by its number. Assumes nothing.
use Rattle.std.proofs.Common.{◌≡◌, ℕ, zero, suc, ◌+◌, ◌-◌, ◌<◌, ◌≤◌, Bool, true, false, ltb, List, ◌++◌, get_or, replicate, refl, ◌∙◌, arith, ltb-false, ltb-true}
use Rattle.bits.specs.Choice.{pick}
use Rattle.memory.specs.Sources.{Source, cleared, byte, bytes_from, sign_from, sources_of}

bytes_at : (r : List Source) (n at k : ℕ) → k < n → get_or (bytes_from at n ++ r) k cleared ≡ byte (at + k)
unfolding bytes_from
bytes_at r zero at k h = absurd (omega arith)
bytes_at r (suc n) at zero h =
    let e : at + 0 ≡ at = omega arith in
    rw e
bytes_at r (suc n) at (suc k) h =
    let e : suc at + k ≡ at + suc k = omega arith in
    bytes_at r n (suc at) k (omega arith) ∙ rw e

behind : (r : List Source) (n at k : ℕ) → n ≤ k → get_or (bytes_from at n ++ r) k cleared ≡ get_or r (k - n) cleared
unfolding bytes_from
behind r zero at k h =
    let e : k - 0 ≡ k = omega arith in
    rw e
behind r (suc n) at zero h = absurd (omega arith)
behind r (suc n) at (suc k) h =
    let e : suc k - suc n ≡ k - n = omega arith in
    rw e (behind r n (suc at) k (omega arith))

copies_in : (s : Source) (c i : ℕ) → i < c → get_or (replicate c s) i cleared ≡ s
copies_in s zero i h = absurd (omega arith)
copies_in s (suc c) zero h = refl
copies_in s (suc c) (suc i) h = copies_in s c i (omega arith)

copies_out : (s : Source) (c i : ℕ) → c ≤ i → get_or (replicate c s) i cleared ≡ cleared
copies_out s zero i h = refl
copies_out s (suc c) zero h = absurd (omega arith)
copies_out s (suc c) (suc i) h = copies_out s c i (omega arith)

pub source_at : (at n extent k : ℕ) → get_or (sources_of at n extent) k cleared ≡ pick (ltb k n) (byte (at + k)) (pick (ltb k extent) (sign_from at n) cleared)
unfolding sources_of
source_at at n extent k = go (ltb k n) (ltb k extent) refl refl
  where
    go : (p q : Bool) → ltb k n ≡ p → ltb k extent ≡ q → get_or (bytes_from at n ++ replicate (extent - n) (sign_from at n)) k cleared ≡ pick p (byte (at + k)) (pick q (sign_from at n) cleared)
    go true q e f = bytes_at (replicate (extent - n) (sign_from at n)) n at k (ltb-true k n e)
    go false true e f =
        behind (replicate (extent - n) (sign_from at n)) n at k (ltb-false k n e)
        ∙ copies_in (sign_from at n) (extent - n) (k - n) (omega (arith, ltb-false k n e, ltb-true k extent f))
    go false false e f =
        behind (replicate (extent - n) (sign_from at n)) n at k (ltb-false k n e)
        ∙ copies_out (sign_from at n) (extent - n) (k - n) (omega (arith, ltb-false k n e, ltb-false k extent f))
