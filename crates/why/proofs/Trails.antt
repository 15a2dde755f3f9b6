-- What a trail says is so: it is marked exactly if the taint rule says so, and its links are what 02 says. Assumes nothing.
use Rattle.std.proofs.Common.{◌≡◌, ℕ, zero, suc, ◌+◌, ◌-◌, ◌<◌, ◌≤◌, Bool, true, false, eqb, ltb, ◌↔◌, List, [], ◌∷◌, length, get_or, sym, refl, ◌∙◌, subst, arith, length-set, ltb-false, ltb-true}
use native.Mathlib.Decide.{ℕ_discrete}
use lib.ListN.{get_or-eq_default}
use lib.Seq.{length-sets}
use Rattle.bits.specs.Choice.{pick}
use Rattle.bits.proofs.Choices.{pick_by}
use Rattle.memory.proofs.Taints.{no_byte}
use Rattle.memory.specs.Sources.{Source, cleared, byte, sign, sign_from, sources_of}
use Rattle.access.specs.declared.transfer.Transfer.{Transfer}
use Rattle.access.specs.declared.Access.{Access}
use Rattle.access.specs.declared.Access.TheVariants.{Nothing, Moves}
use Rattle.access.specs.Accesses.{word_access}
use Rattle.plan.specs.Admission.{total_of}
use Rattle.machine.specs.Monitor.{made_of, fails}
use Rattle.machine.specs.Rule.{Taints, move_rule, rule_of}
use Rattle.machine.specs.Origins.{Place, of_register, of_memory, Origin, none, from, taint_of, taint_by, origin_in, among, origin_of, origin_at}
use Rattle.machine.proofs.Origins.{There, taint_by_origin}
use Rattle.execution.specs.Walk.{shown_at, after_steps}
use Rattle.why.specs.Trail.{Past, taints_at, is_place, origin_before, Link, link, Trail, ahead, copied, follow, trail_of, told}
use Rattle.why.specs.Links.{Marks, Copies, Explains}
use Rattle.why.proofs.Sources.{source_at}

-- ---- sizes

size_at_lem : (t : Transfer) (written at : ℕ) (p : Taints) (y : Bool) → t.store ≡ y → (length (move_rule t written at p).registers ≡ length p.registers) × (length (move_rule t written at p).bytes ≡ length p.bytes)
unfolding move_rule
size_at_lem t written at p true f = (rw f (simp length-set), rw f (simp length-sets))
size_at_lem t written at p false f = (rw f (simp length-set), rw f)

rule_size : (x : Access) (status at : ℕ) (p : Taints) → (length (rule_of x status at p).registers ≡ length p.registers) × (length (rule_of x status at p).bytes ≡ length p.bytes)
rule_size Nothing status at p = (refl, refl)
rule_size (Moves t a) status at p = size_at_lem (made_of t status) a.written at p t.store refl

pub after_size : (g : Past) (j : ℕ) → (length (taints_at g j).registers ≡ length g.start.registers) × (length (taints_at g j).bytes ≡ length g.start.bytes)
unfolding after_steps
after_size g zero = (refl, refl)
after_size g (suc j) =
    let s = after_size g j in
    let r = rule_size (word_access (get_or g.words j 0)) (shown_at g.log j).status ((shown_at g.log j).address - g.origin) (taints_at g j) in
    (r.0 ∙ s.0, r.1 ∙ s.1)

-- ---- a place in memory stays in memory

abbrev pub total_in : Access → ℕ
total_in Nothing = 0
total_in (Moves t a) = total_of t

abbrev pub access_at : Past → ℕ → Access
access_at g j = word_access (get_or g.words j 0)

abbrev pub index_at : Past → ℕ → ℕ
index_at g j = (shown_at g.log j).address - g.origin

-- an access of the first steps lies in memory
abbrev pub Inside : Past → ℕ → Type 0
Inside g steps = (i : ℕ) → i < steps → index_at g i + total_in (access_at g i) ≤ length g.start.bytes

abbrev pub Fine : ℕ → Place → Type 0
Fine len (of_register slot i) = Unit {0}
Fine len (of_memory j) = j < len

abbrev FineFrom : ℕ → Origin → Type 0
FineFrom len none = Unit {0}
FineFrom len (from o) = Fine len o

sign_fine : (len at n : ℕ) → at + n ≤ len → FineFrom len (origin_in (sign_from at n))
sign_fine len at zero h = tt
sign_fine len at (suc n) h = omega arith

loaded_fine : (len at n extent k : ℕ) → at + n ≤ len → FineFrom len (origin_in (get_or (sources_of at n extent) k cleared))
loaded_fine len at n extent k h =
    rw (source_at at n extent k)
    (pick_by (λ (s : Source). FineFrom len (origin_in s)) (ltb k n) (λ e. omega (arith, ltb-true k n e))
    (λ e. pick_by (λ (s : Source). FineFrom len (origin_in s)) (ltb k extent) (λ f. sign_fine len at n h) (λ f. tt)))

module _ (len : ℕ) (t : Transfer) (written at : ℕ) (room : at + total_of t ≤ len) where
  origin_fine : (q : Place) → Fine len q → FineFrom len (origin_of t written at q)
  unfolding origin_of
  origin_fine (of_register slot i) f =
      let P = FineFrom len in
      let based : P (pick (eqb slot written) none (from (of_register slot i))) = pick_by P (eqb slot written) (λ e. tt) (λ e. tt) in
      pick_by P t.store (λ e. based)
      (λ e. pick_by P (eqb slot t.second) (λ d. loaded_fine len (at + t.bytes) t.more t.extent i (omega arith))
      (λ d. pick_by P (eqb slot t.target) (λ c. loaded_fine len at t.bytes t.extent i (omega arith)) (λ c. based)))
  origin_fine (of_memory j) f =
      let P = FineFrom len in
      pick_by P t.store
      (λ e. pick_by P (among j (at + t.bytes) t.more) (λ d. tt) (λ d. pick_by P (among j at t.bytes) (λ c. tt) (λ c. f)))
      (λ e. f)

made_room : (t : Transfer) (status : ℕ) → total_of (made_of t status) ≤ total_of t
made_room t status = go (fails t status)
  where
    go : (b : Bool) → pick b 0 t.bytes + pick b 0 t.more ≤ total_of t
    go true = omega arith
    go false = omega arith

access_fine : (len : ℕ) (x : Access) (status at : ℕ) (q : Place) → at + total_in x ≤ len → Fine len q → FineFrom len (origin_at x status at q)
access_fine len Nothing status at q h f = f
access_fine len (Moves t a) status at q h f = origin_fine len (made_of t status) a.written at (omega (arith, made_room t status)) q f

-- ---- a trail is marked exactly if the rule over the steps says so

module _ (g : Past) (full : length g.start.registers ≡ 64) where
  abbrev len : ℕ
  len = length g.start.bytes

  none_marked : (j slot i : ℕ) → 64 ≤ slot → taint_of (taints_at g j) (of_register slot i) ≡ false
  none_marked j slot i h =
      let l : length (taints_at g j).registers ≤ slot = omega (arith, (after_size g j).0) in
      rw (get_or-eq_default (taints_at g j).registers 0 l, no_byte i)

  there : (j : ℕ) (q : Place) → is_place q ≡ true → Fine len q → There (taints_at g j) q
  there j (of_register slot i) e f = omega (arith, ltb-true slot 64 e, (after_size g j).0)
  there j (of_memory k) e f = omega (arith, f, (after_size g j).1)

  nowhere : (j : ℕ) (q : Place) → is_place q ≡ false → taint_of (taints_at g j) q ≡ false
  nowhere j (of_register slot i) e = none_marked j slot i (ltb-false slot 64 e)
  nowhere j (of_memory k) e = absurd (let z : ◌≡◌ {A = ℕ} 0 1 = cc in omega arith)

  -- the rule takes each place's taint from its origin
  rule_by : (j : ℕ) (q : Place) → Fine len q → taint_of (taints_at g (suc j)) q ≡ taint_by (taints_at g j) (origin_before g j q)
  unfolding after_steps
  rule_by j q f = go (is_place q) refl
    where
      go : (b : Bool) → is_place q ≡ b → taint_of (taints_at g (suc j)) q ≡ taint_by (taints_at g j) (pick b (origin_at (access_at g j) (shown_at g.log j).status (index_at g j) q) none)
      go true e = taint_by_origin (access_at g j) (shown_at g.log j).status (index_at g j) (taints_at g j) q (there j q e f)
      go false e = nowhere (suc j) q e

  before_fine : (j : ℕ) (q : Place) → Inside g (suc j) → Fine len q → FineFrom len (origin_before g j q)
  before_fine j q r f = pick_by (FineFrom len) (is_place q) (λ e. access_fine len (access_at g j) (shown_at g.log j).status (index_at g j) q (r j (omega arith)) f) (λ e. tt)

  followed : (j : ℕ) (q : Place) (o : Origin) → ((p : Place) → Fine len p → (trail_of g j p).marked ≡ taint_of (taints_at g j) p) → FineFrom len o → (follow q j (trail_of g j) o).marked ≡ taint_by (taints_at g j) o
  followed j q none k h = refl
  followed j q (from o) k h = go (copied q o)
    where
      go : (b : Bool) → (pick b (ahead (link q (suc j)) (trail_of g j o)) (trail_of g j o)).marked ≡ taint_of (taints_at g j) o
      go true = k o h
      go false = k o h

  pub trail_exact : (j : ℕ) → Inside g j → (q : Place) → Fine len q → (trail_of g j q).marked ≡ taint_of (taints_at g j) q
  unfolding trail_of after_steps
  trail_exact zero r q f = refl
  trail_exact (suc j) r q f = followed j q (origin_before g j q) (trail_exact j (λ i h. r i (omega arith))) (before_fine j q r f) ∙ sym (rule_by j q f)

-- ---- never more links than steps before the one asked about, plus one

follow_long : (q : Place) (j : ℕ) (earlier : Place → Trail) (o : Origin) → ((p : Place) → length (earlier p).links ≤ suc j) → length (follow q j earlier o).links ≤ suc (suc j)
follow_long q j earlier none h = omega arith
follow_long q j earlier (from o) h = go (copied q o)
  where
    go : (b : Bool) → length (pick b (ahead (link q (suc j)) (earlier o)) (earlier o)).links ≤ suc (suc j)
    go true = omega (arith, h o)
    go false = omega (arith, h o)

pub trail_long : (g : Past) (j : ℕ) (q : Place) → length (trail_of g j q).links ≤ suc j
unfolding trail_of
trail_long g zero q = omega arith
trail_long g (suc j) q = follow_long q j (trail_of g j) (origin_before g j q) (trail_long g j)

-- ---- what is kept comes from its own place

-- an origin of a place's own kind is the place itself
abbrev Own : Place → Origin → Type 0
Own q none = Unit {0}
Own q (from o) = copied q o ≡ false → o ≡ q

loaded_own : (slot i : ℕ) (s : Source) → Own (of_register slot i) (origin_in s)
loaded_own slot i cleared = tt
loaded_own slot i (byte j) = λ e. absurd (let z : ◌≡◌ {A = ℕ} 0 1 = cc in omega arith)
loaded_own slot i (sign j) = λ e. absurd (let z : ◌≡◌ {A = ℕ} 0 1 = cc in omega arith)

stored_own : (j slot i : ℕ) → Own (of_memory j) (from (of_register slot i))
stored_own j slot i e = absurd (let z : ◌≡◌ {A = ℕ} 0 1 = cc in omega arith)

origin_own : (t : Transfer) (written at : ℕ) (q : Place) → Own q (origin_of t written at q)
unfolding origin_of
origin_own t written at (of_register slot i) =
    let q = of_register slot i in
    let based : Own q (pick (eqb slot written) none (from q)) = pick_by (Own q) (eqb slot written) (λ e. tt) (λ e d. refl) in
    pick_by (Own q) t.store (λ e. based)
    (λ e. pick_by (Own q) (eqb slot t.second) (λ d. loaded_own slot i (get_or (sources_of (at + t.bytes) t.more t.extent) i cleared))
    (λ d. pick_by (Own q) (eqb slot t.target) (λ c. loaded_own slot i (get_or (sources_of at t.bytes t.extent) i cleared)) (λ c. based)))
origin_own t written at (of_memory j) =
    let q = of_memory j in
    pick_by (Own q) t.store
    (λ e. pick_by (Own q) (among j (at + t.bytes) t.more) (λ d. stored_own j t.second (j - (at + t.bytes)))
    (λ d. pick_by (Own q) (among j at t.bytes) (λ c. stored_own j t.target (j - at)) (λ c f. refl)))
    (λ e f. refl)

access_own : (x : Access) (status at : ℕ) (q : Place) → Own q (origin_at x status at q)
access_own Nothing status at q = λ e. refl
access_own (Moves t a) status at q = origin_own (made_of t status) a.written at q

before_own : (g : Past) (j : ℕ) (q : Place) → Own q (origin_before g j q)
before_own g j q = pick_by (Own q) (is_place q) (λ e. access_own (access_at g j) (shown_at g.log j).status (index_at g j) q) (λ e. tt)

-- ---- the links are what 02 says

-- a step that keeps the place
longer : (g : Past) (j : ℕ) (q : Place) (l : Link) → origin_before g j q ≡ from q → Marks g j q l → Marks g (suc j) q l
longer g j q l e m = record { place = m.place; earlier = omega (arith, m.earlier); marked = m.marked; since = since }
  where
    since : (n : ℕ) → l.step ≤ n → n < suc j → origin_before g n q ≡ from q
    since n a b = go (ℕ_discrete n j)
      where
        go : Dec (n ≡ j) → origin_before g n q ≡ from q
        go (yes s) = subst (λ (k : ℕ). origin_before g k q ≡ from q) (sym s) e
        go (no d) = m.since n a (omega arith)

extend : (g : Past) (j : ℕ) (q : Place) (ls : List Link) → origin_before g j q ≡ from q → Explains g j q ls → Explains g (suc j) q ls
extend g j q [] e h = h
extend g j q (l ∷ []) e h = (longer g j q l e h.0, h.1)
extend g j q (l ∷ k ∷ ls) e h = (longer g j q l e h.0, h.1, h.2)

new : (g : Past) (j : ℕ) (q : Place) → taint_of (taints_at g (suc j)) q ≡ true → Marks g (suc j) q (link q (suc j))
new g j q e = record { place = refl; earlier = omega arith; marked = e; since = λ n a b. absurd (omega arith) }

copy : (g : Past) (j : ℕ) (q o : Place) (k : Link) → origin_before g j q ≡ from o → copied q o ≡ true → k.place ≡ o → Copies g (link q (suc j)) k
copy g j q o k e c p = record { later = j; step = refl; across = rw p c; source = rw p e }

back : (g : Past) (j : ℕ) (o : Place) (k : Link) (ls : List Link) → k.place ≡ o → Explains g j o (k ∷ ls) → Explains g (suc j - 1) k.place (k ∷ ls)
back g j o k ls p h =
    let d : suc j - 1 ≡ j = omega arith in
    subst (λ (n : ℕ). Explains g n k.place (k ∷ ls)) (sym d) (subst (λ (x : Place). Explains g j x (k ∷ ls)) (sym p) h)

add : (g : Past) (j : ℕ) (q o : Place) (ls : List Link) → taint_of (taints_at g (suc j)) q ≡ true → origin_before g j q ≡ from o → copied q o ≡ true → Explains g j o ls → Explains g (suc j) q (link q (suc j) ∷ ls)
add g j q o [] m e c h = absurd h
add g j q o (k ∷ []) m e c h = (new g j q m, copy g j q o k e c h.0.place, back g j o k [] h.0.place h)
add g j q o (k ∷ l ∷ ls) m e c h = (new g j q m, copy g j q o k e c h.0.place, back g j o k (l ∷ ls) h.0.place h)

module _ (g : Past) (full : length g.start.registers ≡ 64) where
  explained : (j : ℕ) (q : Place) (o : Origin) → origin_before g j q ≡ o → Own q o → ((p : Place) → FineFrom (len g full) o → o ≡ from p → (trail_of g j p).marked ≡ true → Explains g j p (trail_of g j p).links)
      → FineFrom (len g full) o → taint_of (taints_at g (suc j)) q ≡ true → (follow q j (trail_of g j) o).marked ≡ true → Explains g (suc j) q (follow q j (trail_of g j) o).links
  explained j q none e own k f m t = absurd (let z : ◌≡◌ {A = ℕ} 0 1 = cc in omega arith)
  explained j q (from o) e own k f m t = go (copied q o) refl t
    where
      go : (b : Bool) → copied q o ≡ b → (pick b (ahead (link q (suc j)) (trail_of g j o)) (trail_of g j o)).marked ≡ true → Explains g (suc j) q (pick b (ahead (link q (suc j)) (trail_of g j o)) (trail_of g j o)).links
      go true c t = add g j q o (trail_of g j o).links m e c (k o f refl t)
      go false c t =
          let s : o ≡ q = own c in
          extend g j q (trail_of g j o).links (subst (λ (x : Place). origin_before g j q ≡ from x) s e) (subst (λ (x : Place). Explains g j x (trail_of g j o).links) s (k o f refl t))

  -- the links of a place that is marked
  pub trail_explains : (j : ℕ) → Inside g j → (q : Place) → Fine (len g full) q → (trail_of g j q).marked ≡ true → Explains g j q (trail_of g j q).links
  unfolding trail_of after_steps
  trail_explains zero r q f t = (record { place = refl; earlier = omega arith; marked = t; since = λ n a b. absurd (omega arith) }, refl)
  trail_explains (suc j) r q f t =
      explained j q (origin_before g j q) refl (before_own g j q)
      (λ p h e m. trail_explains j (λ i h. r i (omega arith)) p (subst (FineFrom (len g full)) e h) m)
      (before_fine g full j q r f) (sym (trail_exact g full (suc j) r q f) ∙ t) t

  told_some : (j : ℕ) (q : Place) (ls : List Link) → Explains g j q ls → ls ≡ [] → ⊥
  told_some j q [] h e = h
  told_some j q (l ∷ ls) h e = let z : ◌≡◌ {A = ℕ} 0 1 = cc in omega arith

  -- "'Not marked', with no links, is said exactly if the mark rule says so"
  pub not_marked : (j : ℕ) → Inside g j → (q : Place) → Fine (len g full) q → (told (trail_of g j q) ≡ []) ↔ (taint_of (taints_at g j) q ≡ false)
  not_marked j r q f = go (trail_of g j q).marked refl
    where
      go : (b : Bool) → (trail_of g j q).marked ≡ b → (pick b (trail_of g j q).links [] ≡ []) ↔ (taint_of (taints_at g j) q ≡ false)
      go true e = ((λ h. absurd (told_some j q (trail_of g j q).links (trail_explains j r q f e) h)), (λ h. absurd (let w : true ≡ false = sym e ∙ trail_exact g full j r q f ∙ h in let z : ◌≡◌ {A = ℕ} 0 1 = cc in omega arith)))
      go false e = ((λ h. sym (trail_exact g full j r q f) ∙ e), (λ h. refl))

-- ---- every place in memory on a path lies in memory, so that no address of a link wraps

abbrev pub AllFine : ℕ → List Link → Type 0
AllFine n [] = Unit {0}
AllFine n (l ∷ ls) = Fine n l.place × AllFine n ls

follow_fine : (n : ℕ) (q : Place) (j : ℕ) (earlier : Place → Trail) (o : Origin) → Fine n q → FineFrom n o → ((p : Place) → Fine n p → AllFine n (earlier p).links) → AllFine n (follow q j earlier o).links
follow_fine n q j earlier none f h k = tt
follow_fine n q j earlier (from o) f h k = go (copied q o)
  where
    go : (b : Bool) → AllFine n (pick b (ahead (link q (suc j)) (earlier o)) (earlier o)).links
    go true = (f, k o h)
    go false = k o h

pub trail_fine : (g : Past) (full : length g.start.registers ≡ 64) (j : ℕ) → Inside g j → (q : Place) → Fine (length g.start.bytes) q → AllFine (length g.start.bytes) (trail_of g j q).links
unfolding trail_of
trail_fine g full zero r q f = (f, tt)
trail_fine g full (suc j) r q f =
    follow_fine (length g.start.bytes) q j (trail_of g j) (origin_before g j q) f (before_fine g full j q r f) (trail_fine g full j (λ i h. r i (omega arith)))
