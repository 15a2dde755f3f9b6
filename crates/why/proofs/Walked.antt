-- Laws of trails, as they are written and by what last set a byte. Assumes nothing.
use Rattle.std.proofs.Common.{◌≡◌, ℕ, zero, suc, ◌+◌, ◌-◌, ◌*◌, ◌/◌, ◌<◌, ◌≤◌, Bool, List, [], ◌∷◌, ◌++◌, map, length, sym, refl, ap, ◌∙◌, subst, arith, lt-ltb}
use lib.Seq.{sets, length-sets}
use Rattle.bits.specs.Choice.{pick}
use Rattle.machine.specs.Origins.{Place, of_register, of_memory, taint_of}
use Rattle.why.specs.declared.source.Spot.{Spot}
use Rattle.why.specs.declared.source.Spot.TheVariants.{Part, Cell}
use Rattle.why.specs.declared.source.Came.{Came}
use Rattle.why.specs.declared.source.Came.TheVariants.{Kept, Cleared, Copied}
use Rattle.why.specs.declared.source.LastSet.{LastSet}
use Rattle.why.specs.declared.source.LastSet.TheVariants.{Never, Clearing, Copying}
use Rattle.vectors.specs.File.{wide}
use Rattle.why.specs.declared.history.History.{History}
use Rattle.why.specs.route.Lent.{past_in, steps_in}
use Rattle.why.specs.Trail.{Past, Link, link, place_numbers, numbers_of, Trail, begun, lost, ahead, follow, trail_of}
use Rattle.why.specs.Reply.{flat}
use Rattle.why.specs.route.Came.{spot_place, across, origin_by, Steps, past_of, came_at, set_by, last_of, InRange, Asks}
use Rattle.why.specs.route.Reached.{put_one, put_all, written_of}
use Rattle.why.proofs.Spots.{origin_came}

-- ---- a trail, by what last set its byte

abbrev followed : Spot → ℕ → (Spot → Trail) → Came → Trail
followed q j earlier Kept = earlier q
followed q j earlier Cleared = lost
followed q j earlier (Copied m) = ahead (link (spot_place q) (suc j)) (earlier (across q m))

follow_came : (earlier : Place → Trail) (j : ℕ) (q : Spot) (s : Came) → follow (spot_place q) j earlier (origin_by q s) ≡ followed q j (λ o. earlier (spot_place o)) s
follow_came earlier j (Part n) Kept = refl
follow_came earlier j (Cell i) Kept = refl
follow_came earlier j q Cleared = refl
follow_came earlier j (Part n) (Copied m) = refl
follow_came earlier j (Cell i) (Copied m) = refl

module _ (g : Steps) (u k : List ℕ) (q : Spot) where
  abbrev P : Past
  P = past_of g u k

  trail_suc : (j : ℕ) → trail_of P (suc j) (spot_place q) ≡ followed q j (λ o. trail_of P j (spot_place o)) (came_at g j q)
  unfolding trail_of
  trail_suc j = ap (follow (spot_place q) j (trail_of P j)) (origin_came g u k j q) ∙ follow_came (trail_of P j) j q (came_at g j q)

  -- a trail, by what last set its byte
  trail_by : LastSet → Trail
  trail_by Never = begun P.start (spot_place q)
  trail_by Clearing = lost
  trail_by (Copying m j) = ahead (link (spot_place q) (suc j)) (trail_of P j (spot_place (across q m)))

  set_at : (j : ℕ) (earlier : LastSet) (s : Came) → trail_of P j (spot_place q) ≡ trail_by earlier → followed q j (λ o. trail_of P j (spot_place o)) s ≡ trail_by (set_by j earlier s)
  unfolding trail_by
  set_at j earlier Kept h = h
  set_at j earlier Cleared h = refl
  set_at j earlier (Copied m) h = refl

  trail_last : (j : ℕ) → trail_of P j (spot_place q) ≡ trail_by (last_of g j q)
  unfolding last_of trail_of trail_by
  trail_last zero = refl
  trail_last (suc j) = trail_suc j ∙ set_at j (last_of g j q) (came_at g j q) (trail_last j)

  module _ (j : ℕ) where
    pub trail_start : Never ≡ last_of g j q → trail_of P j (spot_place q) ≡ begun P.start (spot_place q)
    unfolding trail_by
    trail_start e = trail_last j ∙ rw (← e)

    pub trail_cleared : Clearing ≡ last_of g j q → trail_of P j (spot_place q) ≡ lost
    unfolding trail_by
    trail_cleared e = trail_last j ∙ rw (← e)

    pub trail_copied : (m i : ℕ) → Copying m i ≡ last_of g j q → trail_of P j (spot_place q) ≡ ahead (link (spot_place q) (suc i)) (trail_of P i (spot_place (across q m)))
    unfolding trail_by
    trail_copied m i e = trail_last j ∙ rw (← e)

-- a step that copied comes before the one asked about
abbrev Before : ℕ → LastSet → Type 0
Before j Never = Unit {0}
Before j Clearing = Unit {0}
Before j (Copying m i) = i < j

before_at : (j : ℕ) (earlier : LastSet) (s : Came) → Before j earlier → Before (suc j) (set_by j earlier s)
before_at j Never Kept h = tt
before_at j Clearing Kept h = tt
before_at j (Copying m i) Kept h = omega arith
before_at j earlier Cleared h = tt
before_at j earlier (Copied m) h = omega arith

before : (g : Steps) (q : Spot) (j : ℕ) → Before j (last_of g j q)
unfolding last_of
before g q zero = tt
before g q (suc j) = before_at j (last_of g j q) (came_at g j q) (before g q j)

pub copied_before : (g : Steps) (q : Spot) (j m i : ℕ) → Copying m i ≡ last_of g j q → i < j
copied_before g q j m i e = subst (Before j) (sym e) (before g q j)

-- ---- what is written of a trail, by what last set its byte

module _ (h : History) (d j : ℕ) (q : Spot) (b a : List ℕ) where
  abbrev R : Past
  R = past_in h

  abbrev g : Steps
  g = steps_in h

  abbrev u : List ℕ
  u = h.register_taint.now ++ map wide h.vector_taint.now

  pub written_start : (t : Bool) (r : ℕ) → Never ≡ last_of g j q → t ≡ taint_of R.start (spot_place q) → r ≡ pick t (d + 1) 0 → a ≡ put_one d (place_numbers R.origin (spot_place q) 0) b
      → record { links = a; count = r } ≡ written_of R.origin d (trail_of R j (spot_place q)) b
  unfolding put_all
  written_start t r e f n p = rw (trail_start g u h.taint.now q j e, n, f, p)

  pub written_lost : Clearing ≡ last_of g j q → record { links = b; count = 0 } ≡ written_of R.origin d (trail_of R j (spot_place q)) b
  unfolding put_all
  written_lost e = rw (trail_cleared g u h.taint.now q j e)

  -- a link, and those that come after it
  pub written_ahead : (m i : ℕ) (s : Spot) → Copying m i ≡ last_of g j q → s ≡ across q m → a ≡ put_one d (place_numbers R.origin (spot_place q) (i + 1)) b
      → written_of R.origin (d + 1) (trail_of R i (spot_place s)) a ≡ written_of R.origin d (trail_of R j (spot_place q)) b
  unfolding put_all
  written_ahead m i s e f p =
      let t = trail_of R i (spot_place (across q m)) in
      let n : i + 1 ≡ suc i = omega arith in
      let c : d + 1 + length t.links ≡ d + suc (length t.links) = omega arith in
      rw (trail_copied g u h.taint.now q j m i e, f, p, n, c)

pub last_kept : (g : Steps) (q : Spot) (j : ℕ) → 0 < j → Kept ≡ came_at g (j - 1) q → last_of g (j - 1) q ≡ last_of g j q
unfolding last_of
last_kept g q zero h e = absurd (omega arith)
last_kept g q (suc i) h e =
    let d : suc i - 1 ≡ i = omega arith in
    let k : Kept ≡ came_at g i q = rw d at e in
    rw (d, ← k)

pub range_less : (g : Steps) (s j : ℕ) → InRange g j → s ≤ j → InRange g s
range_less g s j r l =
    let w : s ≤ length g.words = omega (arith, r.words) in
    let t : s * 2 ≤ length g.log.trace = omega (arith, r.trace) in
    let v : s ≤ length g.log.statuses = omega (arith, r.statuses) in
    record { words = w; trace = t; statuses = v; inside = λ k h. r.inside k (omega arith) }

-- what a question at an earlier step may rely on
pub asks_less : (g : Steps) (i j d : ℕ) → Asks g j d → i < j → Asks g i (d + 1)
asks_less g i j d a l = record { range = range_less g i j a.range (omega arith); small = omega (arith, a.small) }

-- ---- what is written in a list with room

put_fits : (d : ℕ) (numbers b : List ℕ) → d * 3 + 3 ≤ length b → put_one d numbers b ≡ sets b (d * 3) numbers
unfolding put_one
put_fits d numbers b h =
    let l : d < length b / 3 = omega arith in
    rw (lt-ltb d (length b / 3) l)

numbers_three : (origin : ℕ) (q : Place) (s : ℕ) (xs b : List ℕ) (i : ℕ) → sets (sets b i (place_numbers origin q s)) (suc (suc (suc i))) xs ≡ sets b i (place_numbers origin q s ++ xs)
numbers_three origin (of_register slot k) s xs b i = refl
numbers_three origin (of_memory j) s xs b i = refl

pub all_fits : (origin d : ℕ) (ls : List Link) (b : List ℕ) → (d + length ls) * 3 ≤ length b → put_all origin d ls b ≡ sets b (d * 3) (flat origin ls)
unfolding put_all flat
all_fits origin d [] b h = refl
all_fits origin d (l ∷ ls) b h =
    let fit : d * 3 + 3 ≤ length b = omega arith in
    let p : (d + 1) * 3 ≡ suc (suc (suc (d * 3))) = omega arith in
    let m : List ℕ = sets b (d * 3) (numbers_of origin l) in
    let room : (d + 1 + length ls) * 3 ≤ length m = rw length-sets (omega arith) in
    rw (put_fits d (numbers_of origin l) b fit) (all_fits origin (d + 1) ls m room ∙ rw p (numbers_three origin l.place l.step (flat origin ls) b (d * 3)))
