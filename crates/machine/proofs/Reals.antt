-- A step leaves a machine that there is (`Real`), where it starts from one: its loads fit (`extended_below`), and its stores are
-- bytes. What code holds is one, and there is one. Assumes nothing.
use Rattle.std.proofs.Common.{◌≡◌, ℕ, zero, suc, ◌+◌, ◌-◌, ◌/◌, ◌%◌, ◌^◌, ◌<◌, ◌≤◌, Bool, true, false, List, [], ◌∷◌, ◌++◌, map, length, get_or, set, replicate, refl, ◌∙◌, inl, lt_trans, lt_of_lt_of_le, arith, lit<, length-append, length-set}
use native.Mathlib.Nat.{pow-le-pow_right}
use native.Mathlib.Decide.{dec_lt}
use lib.ListN.{get_or-append, get_or-map}
use lib.Seq.{sets}
use Rattle.bits.specs.Bytes.{bytes_of, joined, span_of}
use Rattle.bits.proofs.Choices.{pick_by}
use Rattle.bits.specs.Extension.{extended_of}
use Rattle.bits.proofs.Extensions.{extended_below}
use Rattle.memory.specs.Taints.{normal}
use Rattle.memory.specs.Sources.{loaded_taint}
use Rattle.memory.proofs.Taints.{normal_small}
use Rattle.memory.proofs.Sources.{span_fits}
use Rattle.vectors.specs.File.{wide, vector_slot, Held}
use Rattle.vectors.proofs.Slots.{vector_low, vector_get, length_map}
use Rattle.vectors.proofs.Rows.{held_below}
use Rattle.access.specs.declared.transfer.Transfer.{Transfer}
use Rattle.access.specs.declared.Access.{Access}
use Rattle.access.specs.declared.Access.TheVariants.{Nothing, Moves}
use Rattle.access.specs.Accesses.{word_access}
use Rattle.access.specs.route.Bounds.{Whole, Bounded, Within}
use Rattle.access.proofs.Bounds.{bounded}
use Rattle.plan.specs.declared.window.Window.{Window}
use Rattle.plan.specs.declared.ranges.Reach.{Reach}
use Rattle.plan.specs.declared.ranges.Reach.TheVariants.{Alone}
use Rattle.plan.specs.Address.{sum_of, address_of}
use Rattle.plan.proofs.Refusals.{each, first_by}
use Rattle.machine.specs.declared.State.{State}
use Rattle.machine.specs.declared.monitor.Monitor.{Monitor}
use Rattle.machine.specs.Monitor.{open_monitor, matches, store_exclusive, status_of, written_back, fails, made_of}
use Rattle.machine.specs.Rule.{loaded_in, move_rule}
use Rattle.machine.specs.Machine.{Machine, machine_of, operands_of, effect_of}
use Rattle.machine.specs.Refusals.{refusals_in}
use Rattle.machine.specs.Step.{Step, stopped, moved, perform_of, step_in, step_of, performed}
use Rattle.machine.specs.Real.{Fits, Real}
use Rattle.machine.proofs.Taints.{loaded_taint_below}
use Rattle.machine.proofs.Writing.{not_extended, whole_taints_are}

-- ---- lists of numbers below one

abbrev pub Below : ℕ → List ℕ → Type 0
Below top xs = (n : ℕ) → get_or xs n 0 < top

-- what holds of each number of a list, by its place
set_each : (P : ℕ → ℕ → Type 0) (xs : List ℕ) (i v : ℕ) → P i v → ((n : ℕ) → P n (get_or xs n 0)) → (n : ℕ) → P n (get_or (set xs i v) n 0)
set_each P [] i v h b n = b n
set_each P (x ∷ xs) zero v h b zero = h
set_each P (x ∷ xs) zero v h b (suc n) = b (suc n)
set_each P (x ∷ xs) (suc i) v h b zero = b zero
set_each P (x ∷ xs) (suc i) v h b (suc n) = set_each (λ k. P (suc k)) xs i v h (λ k. b (suc k)) n

pub bytes_below : (k v at : ℕ) (xs : List ℕ) → Below 256 xs → Below 256 (sets xs at (bytes_of k v))
unfolding bytes_of
bytes_below zero v at xs b = b
bytes_below (suc k) v at xs b = bytes_below k (v / 256) (suc at) (set xs at (v % 256)) (set_each (λ n x. x < 256) xs at (v % 256) (omega arith) b)

-- ---- lists of numbers that fit their registers

abbrev AllFit : List ℕ → Type 0
AllFit xs = (slot : ℕ) → Fits slot (get_or xs slot 0)

fits : (slot x : ℕ) → x < 2 ^ 64 → Fits slot x
fits slot x h = ((λ l. h), lt_trans h (lit< tt))

-- what is loaded of either plane
module _ (read : ℕ → ℕ → ℕ) (t : Transfer) (b : Bounded t)
    (narrow : (at k : ℕ) → k ≤ t.extent → t.extent ≤ 8 → read at k < 2 ^ 64)
    (whole : (at k : ℕ) → k ≤ 16 → Whole k t.extent → read at k < 2 ^ 128) where
  both_fit : (at : ℕ) (z : Bool) → vector_slot t.target ≡ z → Fits t.target (read at t.bytes) × Fits t.second (read (at + t.bytes) t.more)
  both_fit at true e =
      let f = b.vector e in
      let low : 32 ≤ t.target = (vector_low t.target e).0 in
      let also : 32 ≤ t.second = f.second in (
        ((λ l. absurd (omega arith)), whole at t.bytes (omega (arith, b.wide, f.extent)) f.whole),
        ((λ l. absurd (omega arith)), whole (at + t.bytes) t.more (omega (arith, b.wider, f.extent)) f.wholes),
      )
  both_fit at false e =
      let few = (b.general e).0 in
      (fits t.target _ (narrow at t.bytes b.wide few), fits t.second _ (narrow (at + t.bytes) t.more b.wider few))

  loads_fit : (at : ℕ) (u : List ℕ) → AllFit u → AllFit (loaded_in read t at u)
  loads_fit at u h =
      let new = both_fit at (vector_slot t.target) refl in
      set_each Fits (set u t.target (read at t.bytes)) t.second _ new.1 (set_each Fits u t.target (read at t.bytes) new.0 h)

-- ---- taints

-- what is not extended has as many bytes as there are
within_sixteen : {x : ℕ} (k : ℕ) → k ≤ 16 → x < 256 ^ k → x < 2 ^ 128
within_sixteen k few h =
    let wide : 256 ^ k ≤ 256 ^ 16 = pow-le-pow_right (lit< tt) few in
    lt_of_lt_of_le h wide

whole_taint_below : (k : List ℕ) (at n extent : ℕ) → n ≤ 16 → Whole n extent → loaded_taint at n extent k < 2 ^ 128
whole_taint_below k at n extent few w =
    let small : Below 256 (map normal k) = λ i. rw (get_or-map normal k i 0) (omega (arith, normal_small (get_or k i 0))) in
    rw (← whole_taints_are n extent k at w) (within_sixteen n few (span_fits (map normal k) small at n))

-- ---- a step

-- a transfer with a status moves no more than without
pub made_bounded : (t : Transfer) (status : ℕ) → Bounded t → Bounded (made_of t status)
made_bounded t status b =
    record {
      wide = pick_by (λ (k : ℕ). k ≤ t.extent) (fails t status) (λ e. omega arith) (λ e. b.wide);
      wider = pick_by (λ (k : ℕ). k ≤ t.extent) (fails t status) (λ e. omega arith) (λ e. b.wider);
      general = b.general;
      vector = λ e.
          let f = b.vector e in
          record {
            extent = f.extent;
            second = f.second;
            whole = pick_by (λ (k : ℕ). Whole k t.extent) (fails t status) (λ e. inl refl) (λ e. f.whole);
            wholes = pick_by (λ (k : ℕ). Whole k t.extent) (fails t status) (λ e. inl refl) (λ e. f.wholes);
          };
    }

abbrev pub RealStep : Step Machine → Type 0
RealStep (stopped answer address) = Unit {0}
RealStep (moved n shown) = Real n

module _ (m : Machine) (r : Real m) where
  loaded_below : (at k extent : ℕ) → k ≤ extent → extent ≤ 8 → extended_of k extent (joined (span_of m.memory at k)) < 2 ^ 64
  loaded_below at k extent h l = extended_below k extent _ h l (span_fits m.memory r.bytes at k)

  whole_below : (at k extent : ℕ) → k ≤ 16 → Whole k extent → extended_of k extent (joined (span_of m.memory at k)) < 2 ^ 128
  whole_below at k extent few w = rw (not_extended k extent m.memory at w) (within_sixteen k few (span_fits m.memory r.bytes at k))

  real_effect : (t : Transfer) → Bounded t → (written at next : ℕ) (monitor : Monitor) → next < 2 ^ 64 → Real (effect_of t written at next monitor m)
  unfolding effect_of move_rule
  real_effect t b written at next monitor h =
      let k = m.taints.bytes in
      let values = set_each Fits m.values written next (fits written next h) r.values in
      let marked = set_each Fits m.taints.registers written 0 (fits written 0 (lit< tt)) r.marked in
      let bytes = bytes_below t.bytes (get_or m.values t.target 0) at m.memory r.bytes in
      record {
        registers = pick_by (λ (l : List ℕ). length l ≡ 64) t.store (λ e. simp length-set r.registers) (λ e. simp length-set r.registers);
        marks = pick_by (λ (l : List ℕ). length l ≡ 64) t.store (λ e. simp length-set r.marks) (λ e. simp length-set r.marks);
        values =
            pick_by AllFit t.store (λ e. values)
            (λ e.
            loads_fit (λ at n. extended_of n t.extent (joined (span_of m.memory at n))) t b
            (λ at n. loaded_below at n t.extent) (λ at n. whole_below at n t.extent) at (set m.values written next) values);
        marked =
            pick_by AllFit t.store (λ e. marked)
            (λ e.
            loads_fit (λ at n. loaded_taint at n t.extent k) t b
            (λ at n. loaded_taint_below k at n t.extent) (λ at n. whole_taint_below k at n t.extent) at (set m.taints.registers written 0) marked);
        bytes = pick_by (Below 256) t.store (λ e. bytes_below t.more _ (at + t.bytes) _ bytes) (λ e. r.bytes);
      }

  -- the number that is written back
  status_below : (t : Transfer) (address : ℕ) (r : Monitor) → status_of t address r < 2
  unfolding status_of
  status_below t address r =
      pick_by (λ (k : ℕ). k < 2) (store_exclusive t) (λ e. pick_by (λ (k : ℕ). k < 2) (matches r address t.bytes) (λ f. omega arith) (λ f. omega arith)) (λ e. omega arith)

  back_below : (t : Transfer) (status sum : ℕ) → status < 2 → sum < 2 ^ 64 → written_back t status sum < 2 ^ 64
  unfolding written_back
  back_below t status sum h l = pick_by (λ (k : ℕ). k < 2 ^ 64) t.exclusive (λ e. omega arith) (λ e. l)

  real_perform : (origin : ℕ) (x : Access) → Within x → RealStep (perform_of origin x m)
  unfolding sum_of
  real_perform origin Nothing b = record { registers = r.registers; marks = r.marks; values = r.values; marked = r.marked; bytes = r.bytes }
  real_perform origin (Moves t a) b =
      let address = address_of a (operands_of a m) in
      let status = status_of t address m.monitor in
      real_effect (made_of t status) (made_bounded t status b.0) a.written (address - origin) _ _
      (back_below t status (sum_of a (operands_of a m)) (status_below t address m.monitor) (omega arith))

  pub real_in : (w : Window) (reach : Reach) (word : ℕ) → RealStep (step_in w reach word m)
  unfolding step_in
  real_in w reach word =
      first_by RealStep stopped (perform_of w.origin (word_access word) m) (refusals_in w reach word m) (each (λ e. tt) (refusals_in w reach word m))
      (λ p. real_perform w.origin (word_access word) (bounded word))

  pub real_moved : (w : Window) (word : ℕ) → RealStep (step_of w word m)
  real_moved w = real_in w Alone

  performed_real : (s : Step Machine) → RealStep s → Real (performed m s).machine
  performed_real (stopped answer address) h = r
  performed_real (moved n shown) h = h

pub step_real : (w : Window) (word : ℕ) (m : Machine) → Real m → Real (performed m (step_of w word m)).machine
step_real w word m r = performed_real m r (step_of w word m) (real_moved m r w word)

-- ---- what code holds

module _ (xs : List ℕ) (file : List (List ℕ)) (count : length xs ≡ 32) (small : Below (2 ^ 64) xs) (held : Held file) where
  general_below : (n : ℕ) → n < 32 → get_or (xs ++ map wide file) n 0 < 2 ^ 64
  general_below n l = rw (get_or-append xs (map wide file) 0 n (omega (arith, count))) (small n)

  all_below : (n : ℕ) → Dec (n < 32) → get_or (xs ++ map wide file) n 0 < 2 ^ 128
  all_below n (yes l) = lt_trans (general_below n l) (lit< tt)
  all_below n (no f) = rw (vector_get xs (map wide file) count n (omega arith)) (held_below file held (n - 32))

  plane_fits : AllFit (xs ++ map wide file)
  plane_fits n = (general_below n, all_below n (dec_lt n 32))

  plane_length : length (xs ++ map wide file) ≡ 64
  plane_length = length-append xs (map wide file) ∙ omega (arith, count, length_map wide file, held.count)

pub real_machine : (s : State) (vs us : List (List ℕ)) (m k : List ℕ) → length s.registers.value ≡ 32 → Below (2 ^ 64) s.registers.value
    → length s.registers.taint ≡ 32 → Below (2 ^ 64) s.registers.taint → Held vs → Held us → Below 256 m → Real (machine_of s vs us m k)
real_machine s vs us m k c small d also h g b =
    record {
      registers = plane_length s.registers.value vs c small h;
      marks = plane_length s.registers.taint us d also g;
      values = plane_fits s.registers.value vs c small h;
      marked = plane_fits s.registers.taint us d also g;
      bytes = b;
    }

-- ---- a machine that there is: nothing but zeros

zeros_below : (top k n : ℕ) → 0 < top → get_or (replicate k 0) n 0 < top
zeros_below top zero n h = h
zeros_below top (suc k) zero h = h
zeros_below top (suc k) (suc n) h = zeros_below top k n h

zeros_fit : AllFit (replicate 64 0)
zeros_fit n = fits n _ (zeros_below (2 ^ 64) 64 n (lit< tt))

abbrev pub cleared : ℕ → Machine
cleared len = record { values = replicate 64 0; pc = 0; memory = replicate len 0; taints = record { registers = replicate 64 0; bytes = replicate len 0 }; monitor = open_monitor }

pub cleared_real : (len : ℕ) → Real (cleared len)
cleared_real len = record { registers = refl; marks = refl; values = zeros_fit; marked = zeros_fit; bytes = λ n. zeros_below 256 len n (omega arith) }
