-- Bytes, registers and memories that are related by their taints, before and after bytes and registers are set. A register that is
-- loaded goes by its sources: byte by byte, value and taints come from the same one (`byte_from`). Assumes nothing.
use Prim.Native.Nat.{ℕ, zero, suc, ◌+◌, ◌-◌, ◌/◌, ◌%◌, ◌^◌, ◌≤◌, ◌<◌}
use mathlib.Core.Path.{◌≡◌, refl, ap, subst}
use mathlib.Core.Bool.{Bool, true, false}
use mathlib.Core.List.{List, [], ◌∷◌, ◌++◌, map}
use native.Mathlib.Decide.{ℕ_discrete, dec_lt}
use native.Mathlib.Omega.{arith}
use lib.Dec.{ltb}
use lib.ListN.{length, set, get_or, replicate, length-set}
use lib.Seq.{sets, set_out, get_or-set_same, get_or-set_other}
use Rattle.bits.specs.Choice.{pick}
use Rattle.bits.specs.Bytes.{bytes_of, joined, span_of}
use Rattle.bits.specs.Extension.{extended_of}
use Rattle.memory.specs.Taints.{tainted, normal, byte_at}
use Rattle.memory.specs.Sources.{Source, cleared, byte, sign, bytes_from, sign_from, sources_of, taint_from, loaded_taint}
use Rattle.memory.specs.route.Values.{value_from}
use Rattle.memory.proofs.Taints.{no_byte, normal_tainted}
use Rattle.memory.proofs.Sources.{Small, byte_from, value_small, taint_small, extended_sources}
use Rattle.secrecy.specs.route.Alike.{View, Copied, Byte, Word, Table}
use Rattle.secrecy.proofs.Numbers.{same_number, byte_cut, zero_is}

-- ---- one element set in each of four lists

module _ (sees : ℕ → Type 0) (P : ℕ → ℕ → ℕ → ℕ → Type 0) (k l x y : List ℕ) (i p q a b : ℕ) (h : Table sees P k l x y) (r : P p q a b) where
  at_each : (j : ℕ) → Dec (j ≡ i) → Dec (i < length k) → sees j → P (get_or (set k i p) j 0) (get_or (set l i q) j 0) (get_or (set x i a) j 0) (get_or (set y i b) j 0)
  at_each j (no n) d s = rw (get_or-set_other k i j p 0 n, get_or-set_other l i j q 0 n, get_or-set_other x i j a 0 n, get_or-set_other y i j b 0 n) (h.each j s)
  at_each j (yes e) (yes in-k) s =
      let in-l : i < length l = omega (arith, h.taints) in
      let in-x : i < length x = omega (arith, h.left) in
      let in-y : i < length y = omega (arith, h.right) in
      rw (e, get_or-set_same k i p 0 in-k, get_or-set_same l i q 0 in-l, get_or-set_same x i a 0 in-x, get_or-set_same y i b 0 in-y) r
  at_each j (yes e) (no n) s =
      let out-k : length k ≤ i = omega arith in
      let out-l : length l ≤ i = omega (arith, h.taints) in
      let out-x : length x ≤ i = omega (arith, h.left) in
      let out-y : length y ≤ i = omega (arith, h.right) in
      rw (set_out k i p out-k, set_out l i q out-l, set_out x i a out-x, set_out y i b out-y) (h.each j s)

  pub table_set : Table sees P (set k i p) (set l i q) (set x i a) (set y i b)
  table_set = record { taints = simp length-set h.taints; left = simp length-set h.left; right = simp length-set h.right; each = λ j s. at_each j (ℕ_discrete j i) (dec_lt i (length k)) s }

-- n bytes from an index on may be looked at
abbrev pub Seen : (ℕ → Type 0) → ℕ → ℕ → Type 0
Seen sees at n = (i : ℕ) → at ≤ i → i < at + n → sees i

-- ---- sources that may be looked at

abbrev SeenSource : (ℕ → Type 0) → Source → Type 0
SeenSource sees cleared = Unit {0}
SeenSource sees (byte i) = sees i
SeenSource sees (sign i) = sees i

abbrev AllSeen : (ℕ → Type 0) → List Source → Type 0
AllSeen sees ss = (i : ℕ) → SeenSource sees (get_or ss i cleared)

seen_append : (sees : ℕ → Type 0) (ss ts : List Source) → AllSeen sees ss → AllSeen sees ts → AllSeen sees (ss ++ ts)
seen_append sees [] ts h g i = g i
seen_append sees (s ∷ ss) ts h g zero = h 0
seen_append sees (s ∷ ss) ts h g (suc i) = seen_append sees ss ts (λ j. h (suc j)) g i

seen_copies : (sees : ℕ → Type 0) (c : ℕ) (s : Source) → SeenSource sees s → AllSeen sees (replicate c s)
seen_copies sees zero s h i = tt
seen_copies sees (suc c) s h zero = h
seen_copies sees (suc c) s h (suc i) = seen_copies sees c s h i

seen_bytes : (sees : ℕ → Type 0) (at n : ℕ) → Seen sees at n → AllSeen sees (bytes_from at n)
unfolding bytes_from
seen_bytes sees at zero s i = tt
seen_bytes sees at (suc n) s zero = s at (omega arith) (omega arith)
seen_bytes sees at (suc n) s (suc i) = seen_bytes sees (suc at) n (λ j a b. s j (omega arith) (omega arith)) i

seen_sign : (sees : ℕ → Type 0) (at n : ℕ) → Seen sees at n → SeenSource sees (sign_from at n)
seen_sign sees at zero s = tt
seen_sign sees at (suc n) s = s (at + n) (omega arith) (omega arith)

seen_sources : (sees : ℕ → Type 0) (at n extent : ℕ) → Seen sees at n → AllSeen sees (sources_of at n extent)
unfolding sources_of
seen_sources sees at n extent s =
    seen_append sees (bytes_from at n) (replicate (extent - n) (sign_from at n)) (seen_bytes sees at n s) (seen_copies sees (extent - n) (sign_from at n) (seen_sign sees at n s))

module _ (view : View) (copied : Copied view) where
  -- ---- registers

  -- what is written that is not tainted
  pub constant : (v : ℕ) → Word view 0 0 v v
  constant v = λ i. (copied.itself (byte_at i 0), rw (no_byte i) (copied.alike (byte_at i v)))

  -- numbers that are not tainted are the same
  pub same_value : (u w a b : ℕ) → Word view u w a b → tainted u ≡ false → a ≡ b
  same_value u w a b h e =
      let z : u ≡ 0 = zero_is u e in
      same_number a b (λ i. copied.equal (byte_at i a) (byte_at i b) (rw (z, no_byte i) at (h i).1))

  -- their low bytes are related as they are
  cut_at : (i u w a b : ℕ) (z : Bool) → Word view u w a b
      → view.mark (pick z (byte_at i u) 0) (pick z (byte_at i w) 0) × view.related (tainted (pick z (byte_at i u) 0)) (pick z (byte_at i a) 0) (pick z (byte_at i b) 0)
  cut_at i u w a b true h = h i
  cut_at i u w a b false h = (copied.itself 0, copied.alike 0)

  pub cut_word : (n u w a b : ℕ) → Word view u w a b → Word view (u % 256 ^ n) (w % 256 ^ n) (a % 256 ^ n) (b % 256 ^ n)
  cut_word n u w a b h = λ i. rw (byte_cut n i u, byte_cut n i w, byte_cut n i a, byte_cut n i b) (cut_at i u w a b (ltb i n) h)

  -- ---- a store

  pub table_store : (sees : ℕ → Type 0) (n at u w a b : ℕ) (k l x y : List ℕ) → Word view u w a b → Table sees (Byte view) k l x y
      → Table sees (Byte view) (sets k at (map normal (bytes_of n u))) (sets l at (map normal (bytes_of n w))) (sets x at (bytes_of n a)) (sets y at (bytes_of n b))
  unfolding bytes_of byte_at
  table_store sees zero at u w a b k l x y h t = t
  table_store sees (suc n) at u w a b k l x y h t =
      let same : normal (u % 256) ≡ normal (w % 256) = ap (λ (q : Bool). pick q 1 0) (copied.sharp (u % 256) (w % 256) (h 0).0) in
      let r : Byte view (normal (u % 256)) (normal (w % 256)) (a % 256) (b % 256) = (same, rw (normal_tainted (u % 256)) (h 0).1) in
      table_store sees n (suc at) (u / 256) (w / 256) (a / 256) (b / 256) (set k at (normal (u % 256))) (set l at (normal (w % 256))) (set x at (a % 256)) (set y at (b % 256)) (λ i. h (suc i))
      (table_set sees (Byte view) k l x y at (normal (u % 256)) (normal (w % 256)) (a % 256) (b % 256) t r)

  -- ---- a load

  module _ (sees : ℕ → Type 0) (k l x y : List ℕ) (t : Table sees (Byte view) k l x y) where
    from : (s : Source) → SeenSource sees s → Byte view (taint_from k s) (taint_from l s) (value_from x s) (value_from y s)
    from cleared g = (refl, copied.alike 0)
    from (byte i) g =
        let h = t.each i g in
        (ap normal h.0, rw (normal_tainted (get_or k i 0)) h.1)
    from (sign i) g =
        let h = t.each i g in
        (ap normal h.0, rw (normal_tainted (get_or k i 0)) (copied.sign (tainted (get_or k i 0)) (get_or x i 0) (get_or y i 0) h.1))

    -- what is loaded of n bytes that may be looked at
    pub loaded : Small x → Small y → (at n extent : ℕ) → n ≤ extent → Seen sees at n
        → Word view (loaded_taint at n extent k) (loaded_taint at n extent l) (extended_of n extent (joined (span_of x at n))) (extended_of n extent (joined (span_of y at n)))
    unfolding loaded_taint
    loaded small-x small-y at n extent h s =
        let ss = sources_of at n extent in
        rw (extended_sources x at n extent h small-x, extended_sources y at n extent h small-y)
        (λ i.
        let r = from (get_or ss i cleared) (seen_sources sees at n extent s i) in
        rw (byte_from (taint_from k) (taint_small k) refl ss i, byte_from (taint_from l) (taint_small l) refl ss i, byte_from (value_from x) (value_small x small-x) refl ss i, byte_from (value_from y) (value_small y small-y) refl ss i)
        (subst (view.mark (taint_from k (get_or ss i cleared))) r.0 (copied.itself (taint_from k (get_or ss i cleared))), r.1))
