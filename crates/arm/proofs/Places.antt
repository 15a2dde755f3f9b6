-- Arm's registers and memory as the machine's slots and bytes: reading gives the same number, and writing leaves the same
-- state, as long as no byte's address wraps. Assumes nothing.
use Prim.Native.Nat.{ℕ, zero, suc, ◌+◌, ◌-◌, ◌*◌, ◌/◌, ◌%◌, ◌^◌, ◌≤◌, ◌<◌}
use mathlib.Core.Path.{◌≡◌, refl, sym, ap, ◌∙◌}
use mathlib.Core.Bool.{Bool, true, false}
use mathlib.Core.List.{List}
use native.Mathlib.Nat.{zero-mod, div-one, add_comm, mod-add-div'}
use native.Mathlib.Omega.{arith}
use lib.Dec.{eqb}
use lib.ListN.{length, get_or, set, get_or-eq_default}
use lib.Seq.{sets, set_out}
use borrow.Author.Tests.{eqb-true}
use Rattle.bits.specs.Choice.{pick}
use Rattle.bits.specs.Fields.{part}
use Rattle.bits.specs.Bytes.{bytes_of, joined, span_of}
use Rattle.bits.proofs.Bytes.{bytes_low}
use Rattle.registers.specs.File.{zero_slot}
use Rattle.bits.proofs.Extensions.{two_256}
use Rattle.arm.specs.Pseudocode.{Arm, Add, X, set_x, first_vector, Vec, set_vec, SP, set_sp, base, set_base, Mem, set_mem, with_registers, with_memory, set_byte}
use Rattle.arm.proofs.Bits.{low_bits, full, add_small, zero_extend}

-- ---- registers

module _ (s : Arm) (l : length s.registers ≡ 64) where
  pub x_is : (n width : ℕ) → 0 < width → X n width s ≡ get_or s.registers (zero_slot n) 0 % 2 ^ width
  unfolding X
  x_is n width h = rw (low_bits width (get_or s.registers n 0) h) (go (eqb n 31))
    where
      go : (t : Bool) → pick t 0 (get_or s.registers n 0 % 2 ^ width) ≡ get_or s.registers (pick t 64 n) 0 % 2 ^ width
      go true = rw (get_or-eq_default s.registers 0 {n = 64} (omega arith), zero-mod)
      go false = refl

  pub set_x_lem : (n width v : ℕ) → 0 < width → v < 2 ^ width → set_x n width v s ≡ with_registers (set s.registers (zero_slot n) v) s
  unfolding set_x
  set_x_lem n width v p h = rw (zero_extend width 64 v p h) (ap (λ (r : List ℕ). with_registers r s) (go (eqb n 31)))
    where
      go : (t : Bool) → pick t s.registers (set s.registers n v) ≡ set s.registers (pick t 64 n) v
      go true = sym (set_out s.registers 64 v (omega arith))
      go false = refl

  pub set_base_lem : (n v : ℕ) → v < 2 ^ 64 → set_base n v s ≡ with_registers (set s.registers n v) s
  unfolding set_base set_x
  set_base_lem n v h = rw (zero_extend 64 64 v (omega arith) h) (go (eqb n 31) refl)
    where
      go : (t : Bool) → eqb n 31 ≡ t
          → pick t (set_sp v s) (with_registers (pick t s.registers (set s.registers n v)) s) ≡ with_registers (set s.registers n v) s
      go true e = rw (eqb-true n 31 e)
      go false e = refl

  pub base_is_lem : (n : ℕ) → get_or s.registers n 0 < 2 ^ 64 → base n s ≡ get_or s.registers n 0
  unfolding base X
  base_is_lem n b = rw (full (get_or s.registers n 0) b) (go (eqb n 31) refl)
    where
      go : (t : Bool) → eqb n 31 ≡ t → pick t (SP s) (pick t 0 (get_or s.registers n 0)) ≡ get_or s.registers n 0
      go true e = rw (eqb-true n 31 e)
      go false e = refl

-- ---- a register that is moved, of either kind

abbrev pub slot : Bool → ℕ → ℕ
slot vector n = pick vector (first_vector + n) (zero_slot n)

-- the numbers that a register field can hold, and the slot that the machine gives one of a vector register
abbrev pub numbers : ℕ
numbers = 32

abbrev pub vector_slot : ℕ → ℕ
vector_slot n = first_vector + n % numbers

abbrev pub R : Bool → ℕ → ℕ → Arm → ℕ
R vector n width s = pick vector (Vec n width s) (X n width s)

abbrev pub set_r : Bool → ℕ → ℕ → ℕ → Arm → Arm
set_r vector n width v s = pick vector (set_vec n width v s) (set_x n width v s)

module _ (s : Arm) (l : length s.registers ≡ 64) where
  pub r_is : (vector : Bool) (n width : ℕ) → 0 < width → R vector n width s ≡ get_or s.registers (slot vector n) 0 % 2 ^ width
  unfolding Vec
  r_is true n width h = low_bits width (get_or s.registers (first_vector + n) 0) h
  r_is false n width h = x_is s l n width h

  pub set_r_lem : (vector : Bool) (n width v : ℕ) → 0 < width → v < 2 ^ width → set_r vector n width v s ≡ with_registers (set s.registers (slot vector n) v) s
  unfolding set_vec
  set_r_lem true n width v p h = ap (λ (x : ℕ). with_registers (set s.registers (first_vector + n) x) s) (omega (arith, zero_extend width 128 v p h))
  set_r_lem false n width v p h = set_x_lem s l n width v p h

pub r_memory : (vector : Bool) (n width v : ℕ) (s : Arm) → (set_r vector n width v s).memory ≡ s.memory
unfolding set_vec set_x
r_memory true n width v s = refl
r_memory false n width v s = refl

pub r_monitor : (vector : Bool) (n width v : ℕ) (s : Arm) → (set_r vector n width v s).monitor ≡ s.monitor
unfolding set_vec set_x
r_monitor true n width v s = refl
r_monitor false n width v s = refl

-- ---- memory

pub next : {origin a : ℕ} → origin ≤ a → a + 1 - origin ≡ suc (a - origin)
next h = omega arith

-- the address of a further byte, where there is one, is not wrapped
further : {A : Type 0} (f : ℕ → ℕ → A) (a : ℕ) → ((x y : ℕ) → f x 0 ≡ f y 0) → (n : ℕ) → a + suc n ≤ 2 ^ 64 → f (Add a 1) n ≡ f (a + 1) n
further f a e zero l = e (Add a 1) (a + 1)
further f a e (suc n) l = ap (λ (x : ℕ). f x (suc n)) (add_small a 1 (omega arith))

pub mem_is : (s : Arm) (n a : ℕ) → s.origin ≤ a → a + n ≤ 2 ^ 64 → Mem a n s ≡ joined (span_of s.memory (a - s.origin) n)
unfolding Mem joined span_of
mem_is s zero a h l = refl
mem_is s (suc n) a h l =
    rw (further (λ x k. Mem x k s) a (λ x y. refl) n l, mem_is s n (a + 1) (omega arith) (omega arith), next h) (add_comm _ _)

pub set_mem_lem : (s : Arm) (n a v : ℕ) → s.origin ≤ a → a + n ≤ 2 ^ 64 → set_mem a n v s ≡ with_memory (sets s.memory (a - s.origin) (bytes_of n v)) s
unfolding set_mem bytes_of part
set_mem_lem s zero a v h l = refl
set_mem_lem s (suc n) a v h l =
    let t : Arm = set_byte a (v / 2 ^ 0 % 2 ^ 8) s in
    rw (further (λ x k. set_mem x k (v / 2 ^ 8) t) a (λ x y. refl) n l, set_mem_lem t n (a + 1) (v / 2 ^ 8) (omega arith) (omega arith), next h, div-one)

pub mem_monitor : (n a v : ℕ) (s : Arm) → (set_mem a n v s).monitor ≡ s.monitor
unfolding set_mem
mem_monitor zero a v s = refl
mem_monitor (suc n) a v s = mem_monitor n (Add a 1) (v / 2 ^ 8) (set_byte a (part 0 8 v) s)

-- X gives the low bytes of its register
pub low_bytes : (n v : ℕ) → bytes_of n (v % 2 ^ (8 * n)) ≡ bytes_of n v
low_bytes n v = rw two_256 (sym (bytes_low n (v % 256 ^ n) (v / 256 ^ n)) ∙ ap (bytes_of n) (mod-add-div' v (256 ^ n)))
