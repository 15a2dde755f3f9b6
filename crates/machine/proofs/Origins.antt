-- The taint of a byte after a step is that of its origin before it: of a register by what is set last (`last`), of memory by which
-- bytes are set (`sets_at`). Assumes nothing.
use Rattle.std.proofs.Common.{◌≡◌, ℕ, zero, suc, ◌+◌, ◌-◌, ◌/◌, ◌<◌, Bool, true, false, ◌&&◌, eqb, ltb, leb, List, [], ◌∷◌, map, length, get_or, set, refl, ap, ◌∙◌, inl, inr, arith, length-set, get_or-set_other, get_or-set_same, ltb-false, ltb-true, eq-eqb, ne_eqb, leb-false, leb-true}
use native.Mathlib.Decide.{ℕ_discrete}
use lib.Seq.{sets, length-sets}
use Rattle.bits.specs.Choice.{pick}
use Rattle.bits.specs.Bytes.{bytes_of}
use Rattle.memory.specs.Taints.{tainted, normal, byte_at}
use Rattle.memory.specs.Sources.{Source, cleared, byte, sign, sources_of, taint_from, loaded_taint}
use Rattle.memory.proofs.Taints.{normal_tainted, no_byte, normal_length}
use Rattle.memory.proofs.Sources.{byte_from, taint_small}
use Rattle.access.specs.declared.transfer.Transfer.{Transfer}
use Rattle.access.specs.declared.Access.{Access}
use Rattle.access.specs.declared.Access.TheVariants.{Nothing, Moves}
use Rattle.machine.proofs.Taints.{sets_kept}
use Rattle.machine.specs.Rule.{Taints, move_rule, rule_of}
use Rattle.machine.specs.Monitor.{made_of}
use Rattle.machine.specs.Origins.{Place, of_register, of_memory, Origin, none, from, taint_of, taint_by, origin_in, among, origin_of, origin_at}

-- ---- an element after setting one, and several

set_at : (u : List ℕ) (i x j : ℕ) → j < length u → get_or (set u i x) j 0 ≡ pick (eqb j i) x (get_or u j 0)
set_at u i x j h = go (ℕ_discrete j i)
  where
    go : Dec (j ≡ i) → get_or (set u i x) j 0 ≡ pick (eqb j i) x (get_or u j 0)
    go (yes e) = rw (eq-eqb j i e, e) (get_or-set_same u i x 0 (rw e at h))
    go (no n) = rw (ne_eqb j i n) (get_or-set_other u i j x 0 n)

-- ---- taints that are loaded

source_taint : (p : Taints) (s : Source) → tainted (taint_from p.bytes s) ≡ taint_by p (origin_in s)
source_taint p cleared = refl
source_taint p (byte i) = normal_tainted (get_or p.bytes i 0)
source_taint p (sign i) = normal_tainted (get_or p.bytes i 0)

loaded_taint_lem : (p : Taints) (at n extent i : ℕ) → tainted (byte_at i (loaded_taint at n extent p.bytes)) ≡ taint_by p (origin_in (get_or (sources_of at n extent) i cleared))
unfolding loaded_taint
loaded_taint_lem p at n extent i = ap tainted (byte_from (taint_from p.bytes) (taint_small p.bytes) refl (sources_of at n extent) i) ∙ source_taint p (get_or (sources_of at n extent) i cleared)

-- ---- taints that are stored

stored_at : (n x i : ℕ) → i < n → get_or (map normal (bytes_of n x)) i 0 ≡ normal (byte_at i x)
unfolding bytes_of byte_at
stored_at zero x i h = absurd (omega arith)
stored_at (suc n) x zero h = refl
stored_at (suc n) x (suc i) h = stored_at n (x / 256) i (omega arith)

-- one of the elements that are set, and any
sets_in : (bs k : List ℕ) (at i : ℕ) → i < length bs → at + i < length k → get_or (sets k at bs) (at + i) 0 ≡ get_or bs i 0
sets_in [] k at i h l = absurd (omega arith)
sets_in (b ∷ bs) k at zero h l =
    let e : at + 0 ≡ at = omega arith in
    rw e (sets_kept bs (set k at b) (suc at) at (inl (omega arith)) ∙ get_or-set_same k at b 0 (omega arith))
sets_in (b ∷ bs) k at (suc i) h l =
    let e : at + suc i ≡ suc at + i = omega arith in
    rw e (sets_in bs (set k at b) (suc at) i (omega arith) (rw length-set (omega arith)))

sets_at : (bs k : List ℕ) (at n j : ℕ) → length bs ≡ n → j < length k → get_or (sets k at bs) j 0 ≡ pick (among j at n) (get_or bs (j - at) 0) (get_or k j 0)
sets_at bs k at n j l h = go (leb at j) (ltb j (at + n)) refl refl
  where
    go : (p q : Bool) → leb at j ≡ p → ltb j (at + n) ≡ q → get_or (sets k at bs) j 0 ≡ pick (p && q) (get_or bs (j - at) 0) (get_or k j 0)
    go true true e f =
        let g : j ≡ at + (j - at) = omega (arith, leb-true at j e) in
        let i : j - at < length bs = omega (arith, ltb-true j (at + n) f, leb-true at j e) in
        let x : get_or (sets k at bs) (at + (j - at)) 0 ≡ get_or bs (j - at) 0 = sets_in bs k at (j - at) i (omega arith) in
        ap (λ (y : ℕ). get_or (sets k at bs) y 0) g ∙ x
    go true false e f = sets_kept bs k at j (inr (omega (arith, ltb-false j (at + n) f)))
    go false q e f = sets_kept bs k at j (inl (omega (arith, leb-false at j e)))

-- ---- a byte of a register

module _ (p : Taints) (slot i : ℕ) (there : slot < length p.registers) where
  abbrev kept : ℕ → Origin
  kept written = pick (eqb slot written) none (from (of_register slot i))

  based_at : (written : ℕ) → tainted (byte_at i (get_or (set p.registers written 0) slot 0)) ≡ taint_by p (kept written)
  based_at written = rw (set_at p.registers written 0 slot there) (go (eqb slot written))
    where
      go : (z : Bool) → tainted (byte_at i (pick z 0 (get_or p.registers slot 0))) ≡ taint_by p (pick z none (from (of_register slot i)))
      go true = rw (no_byte i)
      go false = refl

  -- what is set last decides
  last : (a b : Bool) (y x u : ℕ) (o q r : Origin) → tainted (byte_at i y) ≡ taint_by p o → tainted (byte_at i x) ≡ taint_by p q → tainted (byte_at i u) ≡ taint_by p r
      → tainted (byte_at i (pick a y (pick b x u))) ≡ taint_by p (pick a o (pick b q r))
  last true b y x u o q r e f g = e
  last false true y x u o q r e f g = f
  last false false y x u o q r e f g = g

  pub register_origin : (t : Transfer) (written at : ℕ) → taint_of (move_rule t written at p) (of_register slot i) ≡ taint_by p (origin_of t written at (of_register slot i))
  unfolding move_rule origin_of
  register_origin t written at = go t.store
    where
      go : (z : Bool) → tainted (byte_at i (get_or (pick z (set p.registers written 0) (set (set (set p.registers written 0) t.target (loaded_taint at t.bytes t.extent p.bytes)) t.second (loaded_taint (at + t.bytes) t.more t.extent p.bytes))) slot 0))
          ≡ taint_by p (pick z (kept written) (pick (eqb slot t.second) (origin_in (get_or (sources_of (at + t.bytes) t.more t.extent) i cleared)) (pick (eqb slot t.target) (origin_in (get_or (sources_of at t.bytes t.extent) i cleared)) (kept written))))
      go true = based_at written
      go false =
          let based = set p.registers written 0 in
          let first = set based t.target (loaded_taint at t.bytes t.extent p.bytes) in
          let l : slot < length first = simp length-set there in
          let k : slot < length based = simp length-set there in
          rw (set_at first t.second (loaded_taint (at + t.bytes) t.more t.extent p.bytes) slot l, set_at based t.target (loaded_taint at t.bytes t.extent p.bytes) slot k)
          (last (eqb slot t.second) (eqb slot t.target) _ _ _ _ _ _ (loaded_taint_lem p (at + t.bytes) t.more t.extent i) (loaded_taint_lem p at t.bytes t.extent i) (based_at written))

-- ---- a byte of memory

among_in : (j at n : ℕ) → among j at n ≡ true → j - at < n
among_in j at n e = go (leb at j) (ltb j (at + n)) refl refl e
  where
    go : (p q : Bool) → leb at j ≡ p → ltb j (at + n) ≡ q → (p && q) ≡ true → j - at < n
    go true true e f g = omega (arith, leb-true at j e, ltb-true j (at + n) f)
    go true false e f g = absurd (let z : ◌≡◌ {A = ℕ} 0 1 = cc in omega arith)
    go false q e f g = absurd (let z : ◌≡◌ {A = ℕ} 0 1 = cc in omega arith)

module _ (p : Taints) (j : ℕ) (there : j < length p.bytes) where
  -- of one register
  stored_by : (k : List ℕ) (o : Origin) (slot at n : ℕ) → j < length k → tainted (get_or k j 0) ≡ taint_by p o
      → tainted (get_or (sets k at (map normal (bytes_of n (get_or p.registers slot 0)))) j 0) ≡ taint_by p (pick (among j at n) (from (of_register slot (j - at))) o)
  stored_by k o slot at n h e =
      let x = get_or p.registers slot 0 in
      rw (sets_at (map normal (bytes_of n x)) k at n j (normal_length n x) h) (go (among j at n) refl)
    where
      go : (z : Bool) → among j at n ≡ z → tainted (pick z (get_or (map normal (bytes_of n (get_or p.registers slot 0))) (j - at) 0) (get_or k j 0)) ≡ taint_by p (pick z (from (of_register slot (j - at))) o)
      go true f = ap tainted (stored_at n (get_or p.registers slot 0) (j - at) (among_in j at n f)) ∙ normal_tainted (byte_at (j - at) (get_or p.registers slot 0))
      go false f = e

  pub memory_origin : (t : Transfer) (written at : ℕ) → taint_of (move_rule t written at p) (of_memory j) ≡ taint_by p (origin_of t written at (of_memory j))
  unfolding move_rule origin_of
  memory_origin t written at = go t.store
    where
      go : (z : Bool) → tainted (get_or (pick z (sets (sets p.bytes at (map normal (bytes_of t.bytes (get_or p.registers t.target 0)))) (at + t.bytes) (map normal (bytes_of t.more (get_or p.registers t.second 0)))) p.bytes) j 0)
          ≡ taint_by p (pick z (pick (among j (at + t.bytes) t.more) (from (of_register t.second (j - (at + t.bytes)))) (pick (among j at t.bytes) (from (of_register t.target (j - at))) (from (of_memory j)))) (from (of_memory j)))
      go true =
          stored_by (sets p.bytes at (map normal (bytes_of t.bytes (get_or p.registers t.target 0)))) _ t.second (at + t.bytes) t.more (rw length-sets there)
          (stored_by p.bytes (from (of_memory j)) t.target at t.bytes there refl)
      go false = refl

-- ---- a step

-- a place that there is
abbrev pub There : Taints → Place → Type 0
There p (of_register slot i) = slot < length p.registers
There p (of_memory j) = j < length p.bytes

-- the taint of each place after a step is that of its one origin before it
pub taint_by_origin : (x : Access) (status at : ℕ) (p : Taints) (place : Place) → There p place → taint_of (rule_of x status at p) place ≡ taint_by p (origin_at x status at place)
taint_by_origin Nothing status at p place h = refl
taint_by_origin (Moves t a) status at p (of_register slot i) h = register_origin p slot i h (made_of t status) a.written at
taint_by_origin (Moves t a) status at p (of_memory j) h = memory_origin p j h (made_of t status) a.written at
