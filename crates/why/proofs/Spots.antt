-- The origins as the code has them are those of the definition. Assumes nothing.
use Rattle.std.proofs.Common.{◌≡◌, ℕ, zero, suc, ◌+◌, ◌-◌, ◌*◌, ◌/◌, ◌%◌, ◌^◌, ◌<◌, ◌≤◌, Bool, true, false, not, ◌&&◌, eqb, ltb, leb, List, get_or, sym, refl, ap, ◌∙◌, arith, ltb-false, ltb-true, le-ltb, lt-ltb, ne_eqb, leb-false, leb-true}
use native.Mathlib.Nat.{div-div-eq-div-mul, pow-succ'}
use Rattle.bits.specs.Choice.{pick}
use Rattle.memory.specs.Taints.{byte_at}
use Rattle.memory.proofs.Taints.{no_byte}
use Rattle.memory.specs.Sources.{cleared, byte, sign_from, sources_of}
use Rattle.vectors.specs.File.{vector_slot}
use Rattle.access.specs.declared.transfer.Transfer.{Transfer}
use Rattle.access.specs.declared.Access.{Access}
use Rattle.access.specs.declared.Access.TheVariants.{Nothing, Moves}
use Rattle.access.specs.route.Bounds.{Within, Bounded}
use Rattle.access.proofs.Bounds.{bounded}
use Rattle.machine.specs.Monitor.{fails, made_of}
use Rattle.machine.specs.Origins.{of_register, of_memory, Origin, none, from, origin_in, among, origin_of, origin_at}
use Rattle.execution.specs.Walk.{shown_at}
use Rattle.why.specs.declared.source.Spot.{Spot}
use Rattle.why.specs.declared.source.Spot.TheVariants.{Part, Cell}
use Rattle.why.specs.declared.source.Came.{Came}
use Rattle.why.specs.declared.source.Came.TheVariants.{Kept, Cleared, Copied}
use Rattle.why.specs.Trail.{origin_before}
use Rattle.why.specs.route.Came.{spot_place, origin_by, loaded_from, written_came, part_in, cell_in, came_of, Steps, past_of, came_at, access_at, index_at}
use Rattle.why.proofs.Sources.{source_at}

-- ---- a byte of a number

eight : (n : ℕ) → 2 ^ (8 + n) ≡ 256 * 2 ^ n
eight n =
    let e : 8 + n ≡ suc (suc (suc (suc (suc (suc (suc (suc n))))))) = omega arith in
    rw e
    (omega
    (arith, pow-succ' 2 n, pow-succ' 2 (suc n), pow-succ' 2 (suc (suc n)), pow-succ' 2 (suc (suc (suc n))), pow-succ' 2 (suc (suc (suc (suc n)))), pow-succ' 2 (suc (suc (suc (suc (suc n))))), pow-succ' 2 (suc (suc (suc (suc (suc (suc n)))))), pow-succ' 2 (suc (suc (suc (suc (suc (suc (suc n)))))))))

pub byte_shift : (k v : ℕ) → byte_at k v ≡ v / 2 ^ (8 * k) % 256
unfolding byte_at
byte_shift zero v =
    let e : v / 1 ≡ v = omega arith in
    rw e
byte_shift (suc k) v =
    let e : 8 * suc k ≡ 8 + 8 * k = omega arith in
    byte_shift k (v / 256) ∙ rw (e, eight (8 * k), div-div-eq-div-mul v 256 (2 ^ (8 * k)))

pub byte_above : (n k v : ℕ) → v < 256 ^ n → n ≤ k → byte_at k v ≡ 0
unfolding byte_at
byte_above zero k v h l =
    let z : v ≡ 0 = omega arith in
    rw z (no_byte k)
byte_above (suc n) zero v h l = absurd (omega arith)
byte_above (suc n) (suc k) v h l = byte_above n k (v / 256) (omega arith) (omega arith)

-- ---- a byte of a register

by_pick : (q : Spot) (b : Bool) (x y : Came) → origin_by q (pick b x y) ≡ pick b (origin_by q x) (origin_by q y)
by_pick q true x y = refl
by_pick q false x y = refl

by_two : (q : Spot) (a b : Bool) {o r u : Origin} (x y z : Came) → o ≡ origin_by q x → r ≡ origin_by q y → u ≡ origin_by q z → pick a o (pick b r u) ≡ origin_by q (pick a x (pick b y z))
by_two q true b x y z e f g = e
by_two q false true x y z e f g = f
by_two q false false x y z e f g = g

sign_came : (p at n : ℕ) → origin_in (sign_from at n) ≡ origin_by (Part p) (pick (eqb n 0) Cleared (Copied (at + (n - 1))))
sign_came p at zero = refl
sign_came p at (suc n) =
    let z : suc n ≡ 0 → ⊥ = (λ e. omega arith) in
    let d : suc n - 1 ≡ n = omega arith in
    rw (ne_eqb (suc n) 0 z, d)

loaded_came : (p at n extent k : ℕ) → origin_in (get_or (sources_of at n extent) k cleared) ≡ origin_by (Part p) (loaded_from at n extent k)
loaded_came p at n extent k = rw (source_at at n extent k) (go (ltb k n) (leb extent k) refl)
  where
    go : (a b : Bool) → leb extent k ≡ b → origin_in (pick a (byte (at + k)) (pick (ltb k extent) (sign_from at n) cleared)) ≡ origin_by (Part p) (pick a (Copied (at + k)) (pick b Cleared (pick (eqb n 0) Cleared (Copied (at + (n - 1))))))
    go true b e = refl
    go false true e = rw (le-ltb k extent (leb-true extent k e))
    go false false e = rw (lt-ltb k extent (leb-false extent k e)) (sign_came p at n)

no_fail : (t : Transfer) (status : ℕ) → t.store ≡ false → fails t status ≡ false
unfolding fails
no_fail t status e = rw e (go t.exclusive)
  where
    go : (b : Bool) → pick (pick b false false) (eqb status 1) false ≡ false
    go true = refl
    go false = refl

made_whole : (t : Transfer) (status : ℕ) → fails t status ≡ false → made_of t status ≡ t
made_whole t status e = rw e

module _ (t : Transfer) (written status at n : ℕ) where
  written_by : pick (eqb (n / 16) written) none (from (spot_place (Part n))) ≡ origin_by (Part n) (written_came (n / 16) written)
  written_by = sym (by_pick (Part n) (eqb (n / 16) written) Cleared Kept)

  part_loaded : t.store ≡ false → origin_of t written at (of_register (n / 16) (n % 16)) ≡ origin_by (Part n)
      (pick (eqb (n / 16) t.second) (loaded_from (at + t.bytes) t.more t.extent (n % 16))
      (pick (eqb (n / 16) t.target) (loaded_from at t.bytes t.extent (n % 16)) (written_came (n / 16) written)))
  unfolding origin_of
  part_loaded e =
      rw e (by_two (Part n) (eqb (n / 16) t.second) (eqb (n / 16) t.target) _ _ _ (loaded_came n (at + t.bytes) t.more t.extent (n % 16)) (loaded_came n at t.bytes t.extent (n % 16)) written_by)

  part_kind : (b : Bool) → t.store ≡ b → origin_of (made_of t status) written at (of_register (n / 16) (n % 16)) ≡ origin_by (Part n) (pick b (written_came (n / 16) written)
      (pick (eqb (n / 16) t.second) (loaded_from (at + t.bytes) t.more t.extent (n % 16))
      (pick (eqb (n / 16) t.target) (loaded_from at t.bytes t.extent (n % 16)) (written_came (n / 16) written))))
  unfolding origin_of
  part_kind true e = rw e written_by
  part_kind false e = ap (λ (x : Transfer). origin_of x written at (of_register (n / 16) (n % 16))) (made_whole t status (no_fail t status e)) ∙ part_loaded e

part_at : (x : Access) (status at n : ℕ) (b : Bool) → ltb 1023 n ≡ b → pick (ltb (n / 16) 64) (origin_at x status at (of_register (n / 16) (n % 16))) none ≡ origin_by (Part n) (part_in x at n)
part_at Nothing status at n true e =
    let h : 64 ≤ n / 16 = omega (arith, ltb-true 1023 n e) in
    rw (e, le-ltb (n / 16) 64 h)
part_at Nothing status at n false e =
    let h : n / 16 < 64 = omega (arith, ltb-false 1023 n e) in
    rw (e, lt-ltb (n / 16) 64 h)
part_at (Moves t a) status at n true e =
    let h : 64 ≤ n / 16 = omega (arith, ltb-true 1023 n e) in
    rw (e, le-ltb (n / 16) 64 h)
part_at (Moves t a) status at n false e =
    let h : n / 16 < 64 = omega (arith, ltb-false 1023 n e) in
    rw (e, lt-ltb (n / 16) 64 h) (part_kind t a.written status at n t.store refl)

-- ---- a byte of memory

among_not : (i at : ℕ) → among i at 0 ≡ false
among_not i at = go (leb at i) refl
  where
    go : (b : Bool) → leb at i ≡ b → (b && ltb i (at + 0)) ≡ false
    go true e = le-ltb i (at + 0) (omega (arith, leb-true at i e))
    go false e = refl

among_few : (i at n : ℕ) → among i at n ≡ true → i - at < n
among_few i at n e = go (leb at i) (ltb i (at + n)) refl refl e
  where
    go : (p q : Bool) → leb at i ≡ p → ltb i (at + n) ≡ q → (p && q) ≡ true → i - at < n
    go true true e f g = omega (arith, leb-true at i e, ltb-true i (at + n) f)
    go true false e f g = absurd (let z : ◌≡◌ {A = ℕ} 0 1 = cc in omega arith)
    go false q e f g = absurd (let z : ◌≡◌ {A = ℕ} 0 1 = cc in omega arith)

numbered : (slot k : ℕ) → k < 16 → spot_place (Part (16 * slot + k % 16)) ≡ of_register slot k
numbered slot k h =
    let a : (16 * slot + k % 16) / 16 ≡ slot = omega arith in
    let b : (16 * slot + k % 16) % 16 ≡ k = omega arith in
    rw (a, b)

stored_came : (i slot at n : ℕ) (rest : Origin) (other : Came) → n ≤ 16 → rest ≡ origin_by (Cell i) other → (b : Bool) → among i at n ≡ b
    → pick b (from (of_register slot (i - at))) rest ≡ origin_by (Cell i) (pick b (Copied (16 * slot + (i - at) % 16)) other)
stored_came i slot at n rest other h e true f = ap from (sym (numbered slot (i - at) (omega (arith, among_few i at n f))))
stored_came i slot at n rest other h e false f = e

-- no register has more than 16 bytes
extent_small : (t : Transfer) → Bounded t → (b : Bool) → vector_slot t.target ≡ b → t.extent ≤ 16
extent_small t w true e = (w.vector e).extent
extent_small t w false e = omega (arith, (w.general e).0)

cell_kind : (t : Transfer) (written status at i : ℕ) → Bounded t → (s b : Bool) → t.store ≡ s → fails t status ≡ b → origin_of (made_of t status) written at (of_memory i) ≡ origin_by (Cell i) (pick (not s) Kept
    (pick b Kept
    (pick (among i (at + t.bytes) t.more) (Copied (16 * t.second + (i - (at + t.bytes)) % 16))
    (pick (among i at t.bytes) (Copied (16 * t.target + (i - at) % 16)) Kept))))
unfolding origin_of
cell_kind t written status at i w false b e f = rw e
cell_kind t written status at i w true true e f = rw (f, e, among_not i (at + 0), among_not i at)
cell_kind t written status at i w true false e f =
    let widest : t.extent ≤ 16 = extent_small t w (vector_slot t.target) refl in
    ap (λ (x : Transfer). origin_of x written at (of_memory i)) (made_whole t status f)
    ∙ rw e (stored_came i t.second (at + t.bytes) t.more _ _ (omega (arith, w.wider, widest)) (stored_came i t.target at t.bytes (from (of_memory i)) Kept (omega (arith, w.wide, widest)) refl (among i at t.bytes) refl) (among i (at + t.bytes) t.more) refl)

cell_at : (x : Access) (status at i : ℕ) → Within x → origin_at x status at (of_memory i) ≡ origin_by (Cell i) (cell_in x status at i)
cell_at Nothing status at i w = refl
cell_at (Moves t a) status at i w = cell_kind t a.written status at i w.0 t.store (fails t status) refl refl

-- ---- any place

pub origin_came : (g : Steps) (u k : List ℕ) (j : ℕ) (q : Spot) → origin_before (past_of g u k) j (spot_place q) ≡ origin_by q (came_at g j q)
unfolding came_of
origin_came g u k j (Part n) = part_at (access_at g j) (shown_at g.log j).status (index_at g j) n (ltb 1023 n) refl
origin_came g u k j (Cell i) = cell_at (access_at g j) (shown_at g.log j).status (index_at g j) i (bounded (get_or g.words j 0))
