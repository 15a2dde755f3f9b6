-- What a load leaves in a vector register, byte by byte: 02, CR 12, "a load clears what it doesn't fill", and with CR 13 its marks
-- too; with examples. Assumes nothing.
use Rattle.std.proofs.Common.{◌≡◌, ℕ, zero, suc, ◌+◌, ◌-◌, ◌^◌, ◌≤◌, Bool, true, false, List, [], ◌∷◌, ◌++◌, length, get_or, replicate, refl, ap, ◌∙◌, inl, inr, append-nil, arith}
use lib.ListN.{get_or-eq_default}
use Rattle.bits.specs.Bytes.{bytes_of, joined, span_of}
use Rattle.bits.specs.Extension.{largest, extended_of}
use Rattle.memory.specs.Taints.{byte_at}
use Rattle.memory.specs.Sources.{cleared, bytes_from, sources_of, taint_from, loaded_taint}
use Rattle.memory.specs.route.Values.{value_from}
use Rattle.memory.proofs.Sources.{Small, byte_from, value_small, taint_small, extended_sources}
use Rattle.access.specs.declared.transfer.Transfer.{Transfer}
use Rattle.access.specs.route.Bounds.{Whole}
use Rattle.machine.specs.Monitor.{open_monitor}
use Rattle.machine.specs.Rule.{move_rule}
use Rattle.machine.specs.Machine.{Machine, effect_of}

-- ---- byte by byte

-- byte i of a loaded register is what its source gives
value_byte : (m : List ℕ) → Small m → (at n extent i : ℕ) → n ≤ extent → byte_at i (extended_of n extent (joined (span_of m at n))) ≡ value_from m (get_or (sources_of at n extent) i cleared)
value_byte m h at n extent i l = ap (byte_at i) (extended_sources m at n extent l h) ∙ byte_from (value_from m) (value_small m h) refl (sources_of at n extent) i

taint_byte : (k : List ℕ) (at n extent i : ℕ) → byte_at i (loaded_taint at n extent k) ≡ taint_from k (get_or (sources_of at n extent) i cleared)
unfolding loaded_taint
taint_byte k at n extent i = byte_from (taint_from k) (taint_small k) refl (sources_of at n extent) i

from_length : (at n : ℕ) → length (bytes_from at n) ≡ n
unfolding bytes_from
from_length at zero = refl
from_length at (suc n) = ap suc (from_length (suc at) n)

none_there : (c i : ℕ) → get_or (replicate c cleared) i cleared ≡ cleared
none_there zero i = refl
none_there (suc c) zero = refl
none_there (suc c) (suc i) = none_there c i

-- what is not extended has no sources but its bytes
above_cleared : (at n extent i : ℕ) → Whole n extent → n ≤ i → get_or (sources_of at n extent) i cleared ≡ cleared
unfolding sources_of bytes_from
above_cleared at n extent i (inl e) l = rw e (none_there (extent - 0) i)
above_cleared at n extent i (inr e) l =
    let z : n - n ≡ 0 = omega arith in
    let b : length (bytes_from at n) ≤ i = rw (from_length at n) l in
    rw (← e, z, append-nil) (get_or-eq_default (bytes_from at n) cleared b)

-- "a load clears what it doesn't fill": above its n bytes a vector register is 0, and untainted
pub vector_clears : (m k : List ℕ) → Small m → (at n extent i : ℕ) → n ≤ extent → Whole n extent → n ≤ i
    → (byte_at i (extended_of n extent (joined (span_of m at n))) ≡ 0) × (byte_at i (loaded_taint at n extent k) ≡ 0)
vector_clears m k h at n extent i l w above =
    let e : get_or (sources_of at n extent) i cleared ≡ cleared = above_cleared at n extent i w above in
    (value_byte m h at n extent i l ∙ ap (value_from m) e, taint_byte k at n extent i ∙ ap (taint_from k) e)

-- ---- examples: V1 is all ones and all tainted, and memory has 1 to 16, of which the second byte and the tenth are tainted

abbrev transfer : Bool → ℕ → ℕ → ℕ → ℕ → Transfer
transfer store bytes more target second =
    record { store = store; ordered = false; bytes = bytes; more = more; extent = bytes; target = target; second = second; exclusive = false }

abbrev start : Machine
start =
    record {
      values = replicate 33 0 ++ ((2 ^ 128 - 1) ∷ replicate 30 0);
      pc = 0;
      memory = 1 ∷ 2 ∷ 3 ∷ 4 ∷ 5 ∷ 6 ∷ 7 ∷ 8 ∷ 9 ∷ 10 ∷ 11 ∷ 12 ∷ 13 ∷ 14 ∷ 15 ∷ 16 ∷ [];
      taints = record { registers = replicate 33 0 ++ (joined (replicate 16 1) ∷ replicate 30 0); bytes = 0 ∷ 7 ∷ replicate 7 0 ++ (1 ∷ replicate 6 0) };
      monitor = open_monitor;
    }

-- a register after a step, with its taints
abbrev left : Transfer → ℕ → ℕ → ℕ × ℕ
left t at slot =
    let m = effect_of t 64 at 0 open_monitor start in
    (get_or m.values slot 0, get_or m.taints.registers slot 0)

-- two bytes into V1: the other fourteen are cleared
halfword : left (transfer false 2 0 33 64) 0 33 ≡ (513, 256)
unfolding effect_of move_rule extended_of largest joined span_of loaded_taint sources_of bytes_from
halfword = refl

-- sixteen: the second and the tenth are tainted
quadword : left (transfer false 16 0 33 64) 0 33 ≡ (0x100f0e0d0c0b0a090807060504030201, 256 + 256 ^ 9)
unfolding effect_of move_rule extended_of largest joined span_of loaded_taint sources_of bytes_from
quadword = refl

-- a pair of V31 and V0, of eight each
doublewords : (left (transfer false 8 8 63 32) 0 63 ≡ (0x0807060504030201, 256)) × (left (transfer false 8 8 63 32) 0 32 ≡ (0x100f0e0d0c0b0a09, 256))
unfolding effect_of move_rule extended_of largest joined span_of loaded_taint sources_of bytes_from
doublewords = (refl, refl)

-- four bytes of V1 are stored, with their taints
stored : let m = effect_of (transfer true 4 0 33 64) 64 2 0 open_monitor start in
    (span_of m.memory 0 8 ≡ 1 ∷ 2 ∷ 255 ∷ 255 ∷ 255 ∷ 255 ∷ 7 ∷ 8 ∷ []) × (span_of m.taints.bytes 0 8 ≡ 0 ∷ 7 ∷ 1 ∷ 1 ∷ 1 ∷ 1 ∷ 0 ∷ 0 ∷ [])
unfolding effect_of move_rule bytes_of span_of joined
stored = (refl, refl)
