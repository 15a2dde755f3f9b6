-- What the two halves of a step come to together. Assumes nothing.
use Rattle.std.proofs.Common.{◌≡◌, ℕ, zero, suc, ◌+◌, ◌-◌, ◌/◌, ◌≤◌, Bool, true, false, ◌||◌, eqb, ltb, List, [], ◌∷◌, ◌++◌, map, length, get_or, set, Result, Ok, Err, sym, refl, ap, ◌∙◌, inl, inr, arith, ltb-false}
use lib.Seq.{set_out, sets}
use Rattle.bits.specs.Choice.{pick}
use Rattle.bits.specs.Bytes.{bytes_of, joined, span_of}
use Rattle.bits.specs.Extension.{largest, extended_of}
use Rattle.memory.specs.Taints.{normal}
use Rattle.memory.specs.Sources.{loaded_taint}
use Rattle.memory.proofs.Taints.{span_normal}
use Rattle.memory.proofs.Sources.{no_source, whole_taints}
use Rattle.vectors.specs.File.{wide, number_of, halves_at, with_vector, vector_slot}
use Rattle.vectors.specs.route.Slots.{Plain}
use Rattle.vectors.proofs.Slots.{vector_low, plain_get, plain_set, vector_get, wide_get, read_general, all_plain, then_vectors, wide_set, length_map, files_kept, taints_kept}
use Rattle.vectors.proofs.Wide.{halves_joined}
use Rattle.access.specs.route.Bounds.{Whole, VectorBounds, Bounded, Placed}
use Rattle.access.specs.declared.addressing.Addressing.{Addressing}
use Rattle.plan.specs.Operands.{operands_in}
use Rattle.bits.proofs.Choices.{neither}
use Rattle.instruction.specs.declared.answer.Answer.{Answer}
use Rattle.access.specs.declared.transfer.Transfer.{Transfer}
use Rattle.machine.specs.Monitor.{monitor_after, fails, made_of}
use Rattle.machine.specs.Rule.{move_rule, stored_in, stored_taints}
use Rattle.machine.specs.Machine.{Machine, machine_of, stored_bytes, effect_of}
use Rattle.machine.specs.Step.{Step, stopped, moved, Outcome, outcome, performed}
use Rattle.machine.specs.route.Writing.{Full, based_of, loads_of, halves_in, fills_of, after_store, after_load, completed_of, Ended, ended, ends, told}
use Rattle.machine.specs.declared.monitor.Monitor.{Monitor}
use Rattle.machine.specs.declared.State.{State}
use Rattle.machine.specs.declared.Shown.{Shown}
use Rattle.machine.specs.declared.Effect.{Effect}
use Rattle.machine.specs.declared.Effect.TheVariants.{Passed, Wrote, Vectors}
use Rattle.plan.specs.declared.Refusal.{Refusal}

-- ---- an access

-- setting the same again changes nothing
again : {A : Type 0} (xs : List A) (i : ℕ) (v : A) → set (set xs i v) i v ≡ set xs i v
again [] i v = refl
again (x ∷ xs) zero v = refl
again (x ∷ xs) (suc i) v = ap (λ ys. x ∷ ys) (again xs i v)

-- a store leaves nothing to set: it is not exclusive, and its slot is behind the end of the file
pub sets_none : (exclusive : Bool) (slot : ℕ) → (exclusive || ltb slot 32) ≡ false → (exclusive ≡ false) × (32 ≤ slot)
sets_none exclusive slot e =
    let none = neither exclusive (ltb slot 32) e in
    (none.0, ltb-false slot 32 none.1)

-- a store that fails leaves memory and taints as they were, and any other is made whole
pub nothing_stored : (t : Transfer) (status at : ℕ) (v u m k : List ℕ) → fails t status ≡ true → (m ≡ stored_bytes (made_of t status) at v m) × (k ≡ stored_taints (made_of t status) at u k)
unfolding bytes_of
nothing_stored t status at v u m k e = rw e (refl, refl)

pub all_stored : (t : Transfer) (status : ℕ) → fails t status ≡ false → made_of t status ≡ t
all_stored t status e = rw e

-- an access that is no store is made whole, whatever its status
pub load_made : (t : Transfer) (status : ℕ) → t.store ≡ false → made_of t status ≡ t
unfolding fails
load_made t status e = all_stored t status (at t.exclusive)
  where
    at : (x : Bool) → pick (pick x t.store false) (eqb status 1) false ≡ false
    at true = rw e
    at false = refl

-- only an exclusive access touches the monitor
pub monitor_kept : (t : Transfer) (address : ℕ) (r : Monitor) → t.exclusive ≡ false → monitor_after t address r ≡ r
unfolding monitor_after
monitor_kept t address r e = rw e

-- a number that is not extended
pub not_extended : (n extent : ℕ) (m : List ℕ) (at : ℕ) → Whole n extent → extended_of n extent (joined (span_of m at n)) ≡ joined (span_of m at n)
unfolding extended_of largest joined span_of
not_extended n extent m at (inl e) = rw e
not_extended n extent m at (inr e) = rw (← e) (same (ltb (largest n / 2) (joined (span_of m at n))) (joined (span_of m at n)) (largest n))
  where
    same : (b : Bool) (v l : ℕ) → pick b (v + (l - l)) v ≡ v
    same true v l = omega arith
    same false v l = refl

-- two halves that are loaded are the number
pub halves_are : (n extent : ℕ) (m : List ℕ) (at : ℕ) → Whole n extent → number_of (halves_in m at n) ≡ extended_of n extent (joined (span_of m at n))
halves_are n extent m at h = sym (not_extended n extent m at h ∙ halves_joined m at n)

-- and so are those of its taints
pub whole_taints_are : (n extent : ℕ) (k : List ℕ) (at : ℕ) → Whole n extent → joined (span_of (map normal k) at n) ≡ loaded_taint at n extent k
unfolding joined span_of
whole_taints_are n extent k at (inl e) = rw (e, no_source)
whole_taints_are n extent k at (inr e) = rw (← e, whole_taints, span_normal)

pub taints_are : (n extent : ℕ) (k : List ℕ) (at : ℕ) → Whole n extent → number_of (halves_in (map normal k) at n) ≡ loaded_taint at n extent k
taints_are n extent k at h = sym (halves_joined (map normal k) at n) ∙ whole_taints_are n extent k at h

-- ---- stores: the registers are general, or vector registers

module _ (t : Transfer) (at : ℕ) (v u : List ℕ) (vs ms : List (List ℕ)) (m k : List ℕ) (full : Full v u vs ms) where
  pub general_bytes : Plain t.target → Plain t.second → stored_bytes t at v m ≡ stored_bytes t at (v ++ map wide vs) m
  general_bytes p q = rw (read_general v vs t.target full.values full.vectors p, read_general v vs t.second full.values full.vectors q)

  pub general_taints : Plain t.target → Plain t.second → stored_taints t at u k ≡ stored_taints t at (u ++ map wide ms) k
  general_taints p q = rw (read_general u ms t.target full.taints full.vector_taints p, read_general u ms t.second full.taints full.vector_taints q)

  -- both planes alike
  from_vectors : (write : ℕ → ℕ → List ℕ) (x : List ℕ) (file : List (List ℕ)) (bytes : List ℕ) → length x ≡ 32 → 32 ≤ t.target → 32 ≤ t.second
      → sets (sets bytes at (write t.bytes (number_of (halves_at file (t.target - 32))))) (at + t.bytes) (write t.more (number_of (halves_at file (t.second - 32)))) ≡ stored_in write t at (x ++ map wide file) bytes
  from_vectors write x file bytes h p q = sym (both (number t.target p) (number t.second q))
    where
      number : (slot : ℕ) → 32 ≤ slot → get_or (x ++ map wide file) slot 0 ≡ number_of (halves_at file (slot - 32))
      number slot l = vector_get x (map wide file) h slot l ∙ wide_get file (slot - 32)

      both : {a b c d : ℕ} → a ≡ b → c ≡ d → sets (sets bytes at (write t.bytes a)) (at + t.bytes) (write t.more c) ≡ sets (sets bytes at (write t.bytes b)) (at + t.bytes) (write t.more d)
      both f g = rw (f, g)

  pub vector_bytes : 32 ≤ t.target → 32 ≤ t.second
      → sets (sets m at (bytes_of t.bytes (number_of (halves_at vs (t.target - 32))))) (at + t.bytes) (bytes_of t.more (number_of (halves_at vs (t.second - 32)))) ≡ stored_bytes t at (v ++ map wide vs) m
  vector_bytes p q = from_vectors bytes_of v vs m full.values p q

  pub vector_taints : 32 ≤ t.target → 32 ≤ t.second
      → sets (sets k at (map normal (bytes_of t.bytes (number_of (halves_at ms (t.target - 32)))))) (at + t.bytes) (map normal (bytes_of t.more (number_of (halves_at ms (t.second - 32))))) ≡ stored_taints t at (u ++ map wide ms) k
  vector_taints p q = from_vectors (λ n x. map normal (bytes_of n x)) u ms k full.taints p q

-- what an address reads is general
pub operands_plain : (a : Addressing) (pc : ℕ) (v u w k : List ℕ) → length v ≡ 32 → length u ≡ 32 → length w ≡ 32 → length k ≡ 32 → Placed a → operands_in a pc (v ++ w) (u ++ k) ≡ operands_in a pc v u
operands_plain a pc v u w k h i j l p =
    rw (plain_get v w h j a.base p.base, plain_get v w h j a.index p.index, plain_get u k i l a.base p.base, plain_get u k i l a.index p.index)

module _ (x : Transfer) (written at next : ℕ) (r : Monitor) (shown : Shown) (s : State) (vs ms : List (List ℕ)) (m k : List ℕ)
    (full : Full s.registers.value s.registers.taint vs ms) (plain : Plain written) where
  abbrev made : Ended
  made = ends (λ n. moved (effect_of x written at next r n) shown) (machine_of s vs ms m k)

  abbrev v : List ℕ
  v = s.registers.value

  abbrev u : List ℕ
  u = s.registers.taint

  abbrev w : List ℕ
  w = map wide vs

  -- of the marks
  abbrev q : List ℕ
  q = map wide ms

  long : length w ≡ 32
  long = length_map wide vs ∙ full.vectors

  many : length q ≡ 32
  many = length_map wide ms ∙ full.vector_taints

  based_values_lem : set (v ++ w) written next ≡ set v written next ++ w
  based_values_lem = plain_set v w full.values long written next plain

  based_taints_lem : set (u ++ q) written 0 ≡ set u written 0 ++ q
  based_taints_lem = plain_set u q full.taints many written 0 plain

  pub store_writes : {n l : List ℕ} → x.store ≡ true → n ≡ stored_bytes x at (v ++ w) m → l ≡ stored_taints x at (u ++ q) k
      → told s vs ms (Ok (Wrote shown (based_of written next r))) n l ≡ made
  unfolding effect_of move_rule
  store_writes e f g =
      rw (e, f, g, again (set v written next), again v, again (set u written 0), again u, based_values_lem, based_taints_lem)

  pub store_passes : {n l : List ℕ} → x.store ≡ true → r ≡ s.monitor → 32 ≤ written
      → n ≡ stored_bytes x at (v ++ w) m → l ≡ stored_taints x at (u ++ q) k → told s vs ms (Ok (Passed shown)) n l ≡ made
  unfolding effect_of move_rule
  store_passes e d h f g =
      rw (e, d, f, g, based_values_lem, based_taints_lem, set_out v written next (rw full.values h), set_out u written 0 (rw full.taints h))

  pub load_writes : x.store ≡ false → Plain x.target → Plain x.second → told s vs ms (Ok (Wrote shown (loads_of x written next r at m k))) m k ≡ made
  unfolding effect_of move_rule
  load_writes e p o =
      rw (e, all_plain v w written x.target x.second _ _ _ full.values long plain p o, all_plain u q written x.target x.second _ _ _ full.taints many plain p o)

  pub load_fills : x.store ≡ false → 32 ≤ x.target → VectorBounds x → told s vs ms (Ok (Vectors shown (based_of written next r) (fills_of x at m k))) m k ≡ made
  unfolding effect_of move_rule
  load_fills e p b =
      rw (
        e,
        then_vectors v w written x.target x.second _ _ _ full.values long plain p b.second,
        then_vectors u q written x.target x.second _ _ _ full.taints many plain p b.second,
        again (set v written next),
        again v,
        again (set u written 0),
        again u,
        wide_set (with_vector vs (x.target - 32) (halves_in m at x.bytes)) (x.second - 32) (halves_in m (at + x.bytes) x.more),
        wide_set vs (x.target - 32) (halves_in m at x.bytes),
        wide_set (with_vector ms (x.target - 32) (halves_in (map normal k) at x.bytes)) (x.second - 32) (halves_in (map normal k) (at + x.bytes) x.more),
        wide_set ms (x.target - 32) (halves_in (map normal k) at x.bytes),
        halves_are x.bytes x.extent m at b.whole,
        halves_are x.more x.extent m (at + x.bytes) b.wholes,
        taints_are x.bytes x.extent k at b.whole,
        taints_are x.more x.extent k (at + x.bytes) b.wholes,
      )

  pub store_tells : {n l : List ℕ} (more : Bool) → x.store ≡ true → (more ≡ false → (r ≡ s.monitor) × (32 ≤ written))
      → n ≡ stored_bytes x at (v ++ w) m → l ≡ stored_taints x at (u ++ q) k → told s vs ms (Ok (after_store more written next shown r)) n l ≡ made
  store_tells true e h f g = store_writes e f g
  store_tells false e h f g = let none = h refl in store_passes e none.0 none.1 f g

  pub load_tells : x.store ≡ false → Bounded x → told s vs ms (Ok (after_load x written at next shown r m k)) m k ≡ made
  load_tells e b = by (vector_slot x.target) refl
    where
      by : (z : Bool) → vector_slot x.target ≡ z
          → told s vs ms (Ok (pick z (Vectors shown (based_of written next r) (fills_of x at m k)) (Wrote shown (loads_of x written next r at m k)))) m k ≡ made
      by true z = load_fills e (vector_low x.target z).0 (b.vector z)
      by false z = load_writes e z (b.general z).1

-- ---- what is made of a decision

-- what a step returns and leaves
abbrev pub shown_of : Ended → Outcome Machine
shown_of e = performed e.machine e.step

shown_at_lem : (m : Machine) (s : Step Machine) → shown_of (ended m s) ≡ performed m s
shown_at_lem m (stopped answer address) = refl
shown_at_lem m (moved n shown) = refl

pub shows : (m : Machine) (s : Step Machine) {e : Ended} → e ≡ ended m s → shown_of e ≡ performed m s
shows m s h = ap shown_of h ∙ shown_at_lem m s

-- what is returned of a decision, with the files that were handed in, is what it tells
pub completes : (s : State) (vs ms : List (List ℕ)) (m k : List ℕ) → length vs ≡ 32 → length ms ≡ 32 → (d : Result Effect Refusal)
    → outcome (completed_of s d) vs ms m k ≡ shown_of (told s vs ms d m k)
completes s vs ms m k h i (Err r) = rw (files_kept vs h, taints_kept ms i)
completes s vs ms m k h i (Ok (Passed shown)) = rw (files_kept vs h, taints_kept ms i)
completes s vs ms m k h i (Ok (Wrote shown w)) = rw (files_kept vs h, taints_kept ms i)
completes s vs ms m k h i (Ok (Vectors shown w x)) = refl

step_at_lem : (m : Machine) (s : Step Machine) → (ended m s).step ≡ s
step_at_lem m (stopped answer address) = refl
step_at_lem m (moved n shown) = refl

-- the step that a decision tells
pub steps : (m : Machine) (s : Step Machine) {e : Ended} → e ≡ ended m s → e.step ≡ s
steps m s h = ap (λ (z : Ended). z.step) h ∙ step_at_lem m s

-- a refused step leaves the machine as it was
pub kept : (m : Machine) (s : Step Machine) {answer : Answer} {address : ℕ} {n : Machine} → record { step = stopped answer address; machine = n } ≡ ended m s → n ≡ m
kept m s h = ap (λ (z : Ended). z.machine) h ∙ ap (λ (z : Step Machine). (ended m z).machine) (sym (steps m s h))
