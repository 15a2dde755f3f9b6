-- The machine's rule of taints is 01's rule of marks, for one register and for two. A load goes by its bytes from the first on,
-- with the last one's mark handed on for the sign copies (`load_at`). Assumes nothing.
use Prim.Native.Nat.{ℕ, zero, suc, ◌+◌, ◌-◌, ◌*◌, ◌/◌, ◌%◌, ◌^◌, ◌≤◌, ◌<◌}
use mathlib.Core.Path.{◌≡◌, refl, sym, ap, ◌∙◌}
use mathlib.Core.Bool.{Bool, true, false, ◌||◌, or-false, or-true}
use mathlib.Core.List.{List, ◌++◌, map}
use native.Mathlib.Nat.{pow-suc, one-le-pow, mod-one, mod-eq_of_lt}
use native.Mathlib.Omega.{arith}
use lib.Arith.{mod-mul}
use lib.Dec.{eqb, eqb-suc-zero, lit<}
use lib.ListN.{length, get_or, set, replicate, length-set, get_or-eq_default}
use lib.Seq.{sets, set_out}
use Rattle.bits.specs.Choice.{pick}
use Rattle.bits.specs.Fields.{field}
use Rattle.bits.specs.Bytes.{bytes_of, joined}
use Rattle.registers.specs.File.{zero_slot}
use Rattle.memory.specs.Taints.{tainted, normal}
use Rattle.memory.specs.Sources.{Source, cleared, sign, bytes_from, sign_from, sources_of, taint_from, loaded_taint}
use Rattle.access.specs.declared.transfer.Transfer.{Transfer}
use Rattle.plan.specs.Operands.{used_of}
use Rattle.machine.specs.Rule.{Taints, move_rule}
use Rattle.arm.specs.Marks.{marks, any_marked, copied, marks_at, set_marks, moved_marks, set_moved, used_bytes, repeated, load_marks, store_marks, marks_of}
use Rattle.arm.specs.Pages.{Page}
use Rattle.arm.proofs.Places.{slot, next}

-- ---- a mark

tainted_is : (x : ℕ) → tainted x ≡ marks x
tainted_is zero = refl
tainted_is (suc x) = rw (eqb-suc-zero x)

copied_is : (x : ℕ) → normal x ≡ copied x
copied_is zero = refl
copied_is (suc x) = rw (eqb-suc-zero x)

-- ---- registers: a slot of 64 is none

module _ (u : List ℕ) (len : length u ≡ 64) where
  pub set_marks_lem : (n x : ℕ) → set u (zero_slot n) x ≡ set_marks n x u
  set_marks_lem n x = go (eqb n 31)
    where
      go : (t : Bool) → set u (pick t 64 n) x ≡ pick t u (set u n x)
      go true = set_out u 64 x (omega arith)
      go false = refl

  pub marks_at_lem : (n : ℕ) → get_or u (zero_slot n) 0 ≡ marks_at n u
  marks_at_lem n = go (eqb n 31)
    where
      go : (t : Bool) → get_or u (pick t 64 n) 0 ≡ pick t 0 (get_or u n 0)
      go true = rw (get_or-eq_default u 0 {n = 64} (omega arith))
      go false = refl

  pub set_moved_lem : (vector : Bool) (n x : ℕ) → set u (slot vector n) x ≡ set_moved vector n x u
  set_moved_lem true n x = refl
  set_moved_lem false n x = set_marks_lem n x

  moved_at : (vector : Bool) (n : ℕ) → get_or u (slot vector n) 0 ≡ moved_marks vector n u
  moved_at true n = refl
  moved_at false n = marks_at_lem n

  base_mark : (wback : Bool) (n : ℕ) → set u (pick wback n 64) 0 ≡ pick wback (set u n 0) u
  base_mark true n = refl
  base_mark false n = set_out u 64 0 (omega arith)

-- ---- the low bytes of a register

-- a lowest byte, and those above it
tainted_sum : (y b : ℕ) → tainted (y * 256 + b) ≡ (marks b || tainted y)
tainted_sum zero b =
    let e : 0 * 256 + b ≡ b = omega arith in
    ap tainted e ∙ tainted_is b ∙ sym (or-false (marks b))
tainted_sum (suc y) b =
    let e : suc y * 256 + b ≡ suc (y * 256 + 255 + b) = omega arith in
    ap tainted e ∙ sym (or-true (marks b))

any_marked_lem : (n x : ℕ) → tainted (x % 256 ^ n) ≡ any_marked n x
unfolding any_marked
any_marked_lem zero x = rw (mod-one x)
any_marked_lem (suc n) x =
    let m = 256 ^ n in
    rw (pow-suc 256 n, mod-mul x {m = m} {c = 256} (one-le-pow n 256 (lit< tt)) (lit< tt)) (tainted_sum (x / 256 % m) (x % 256) ∙ ap (λ (q : Bool). marks (x % 256) || q) (any_marked_lem n (x / 256)))

-- all eight, and those of an index that are used
pub base_marked : (x : ℕ) → x < 2 ^ 64 → tainted x ≡ any_marked 8 x
base_marked x h = ap tainted (sym (mod-eq_of_lt h)) ∙ any_marked_lem 8 x

pub index_marked : (option x : ℕ) → x < 2 ^ 64 → tainted (used_of option x) ≡ any_marked (used_bytes option) x
unfolding used_of
index_marked option x h = go (eqb option 0b010 || eqb option 0b110)
  where
    go : (z : Bool) → tainted (pick z (x % 2 ^ 32) x) ≡ any_marked (pick z 4 8) x
    go true = any_marked_lem 4 x
    go false = base_marked x h

-- ---- bytes

repeated_is : (k : List ℕ) (c : ℕ) (s : Source) → joined (map (taint_from k) (replicate c s)) ≡ repeated c (taint_from k s)
unfolding joined repeated
repeated_is k zero s = refl
repeated_is k (suc c) s = rw (repeated_is k c s)

-- the sign of the top byte of n, or a source before them
abbrev last_from : Source → ℕ → ℕ → Source
last_from s at zero = s
last_from s at (suc n) = sign (at + n)

last_next : (s : Source) (at n : ℕ) → last_from (sign at) (suc at) n ≡ last_from s at (suc n)
last_next s at zero = ap sign (omega arith)
last_next s at (suc n) = ap sign (omega arith)

load_at : (origin address n c : ℕ) (s : Source) (k : List ℕ) → origin ≤ address
    → joined (map (taint_from k) (bytes_from (address - origin) n ++ replicate c (last_from s (address - origin) n))) ≡ load_marks origin address n c (taint_from k s) k
unfolding joined bytes_from load_marks
load_at origin address zero c s k h = repeated_is k c s
load_at origin address (suc n) c s k h =
    let at = address - origin in
    let more = load_at origin (address + 1) n c (sign at) k (omega arith) in
    rw (← last_next s at n, ← copied_is (get_or k at 0)) (ap (λ (x : ℕ). normal (get_or k at 0) + x * 256) (rw (next h) at more))

last_is : (at n : ℕ) → sign_from at n ≡ last_from cleared at n
last_is at zero = refl
last_is at (suc n) = refl

pub load_is : (origin address n extent : ℕ) (k : List ℕ) → origin ≤ address → loaded_taint (address - origin) n extent k ≡ load_marks origin address n (extent - n) 0 k
unfolding loaded_taint sources_of
load_is origin address n extent k h = rw (last_is (address - origin) n) (load_at origin address n (extent - n) cleared k h)

store_is : (origin address n x : ℕ) (k : List ℕ) → origin ≤ address → sets k (address - origin) (map normal (bytes_of n x)) ≡ store_marks origin address n x k
unfolding store_marks bytes_of
store_is origin address zero x k h = refl
store_is origin address (suc n) x k h =
    ap (λ (i : ℕ). sets (set k (address - origin) (normal (x % 256))) i (map normal (bytes_of n (x / 256)))) (sym (next h))
    ∙ store_is origin (address + 1) n (x / 256) (set k (address - origin) (normal (x % 256))) (omega arith)
    ∙ ap (λ (b : ℕ). store_marks origin (address + 1) n (x / 256) (set k (address - origin) b)) (copied_is (x % 256))

-- ---- the rule

-- the transfers of one register and of two
abbrev pub single : Bool → Bool → Bool → Bool → ℕ → ℕ → ℕ → Transfer
single vector exclusive store ordered k extent t =
    record { store = store; ordered = ordered; bytes = k; more = 0; extent = extent; target = slot vector t; second = 64; exclusive = exclusive }

abbrev pub double : Bool → Bool → ℕ → ℕ → ℕ → ℕ → Transfer
double vector store k extent t t2 =
    record { store = store; ordered = false; bytes = k; more = k; extent = extent; target = slot vector t; second = slot vector t2; exclusive = false }

abbrev taints : List ℕ → List ℕ → Taints
taints r b = record { registers = r; bytes = b }

same : {a b c d : List ℕ} → a ≡ b → c ≡ d → taints a c ≡ taints b d
same e f = rw (e, f)

module _ (l : Page) (origin word address : ℕ) (p : Taints) (len : length p.registers ≡ 64) (h : origin ≤ address) where
  abbrev t : ℕ
  t = field 4 0 word

  abbrev t2 : ℕ
  t2 = field 14 10 word

  abbrev based : List ℕ
  based = pick l.wback (set p.registers (field 9 5 word) 0) p.registers

  based_is : set p.registers (pick l.wback (field 9 5 word) 64) 0 ≡ based
  based_is = base_mark p.registers len l.wback (field 9 5 word)

  based_length : length based ≡ 64
  based_length = rw (← based_is) (simp length-set len)

  -- the bytes of one register
  stored : (n k a : ℕ) (bytes : List ℕ) → origin ≤ a
      → sets bytes (a - origin) (map normal (bytes_of k (get_or p.registers (slot l.vector n) 0))) ≡ store_marks origin a k (moved_marks l.vector n p.registers) bytes
  stored n k a bytes o = rw (moved_at p.registers len l.vector n) (store_is origin a k (moved_marks l.vector n p.registers) bytes o)

  pub one_marks : l.paired ≡ false → l.status ≡ false → (exclusive store ordered : Bool) (k extent written : ℕ) → (store ≡ false → l.extent ≡ extent) → written ≡ pick l.wback (field 9 5 word) 64
      → move_rule (single l.vector exclusive store ordered k extent t) written (address - origin) p ≡ marks_of l store 0 origin word address k p
  unfolding move_rule marks_of bytes_of
  one_marks alone plain exclusive true ordered k extent written f e = rw (alone, plain, e) (same based_is (stored t k address p.bytes h))
  one_marks alone plain exclusive false ordered k extent written f e =
      let x : ℕ = loaded_taint (address - origin) k extent p.bytes in
      let n : length (set based (slot l.vector t) x) ≤ 64 = simp length-set (omega (arith, based_length)) in
      rw (alone, plain, f refl, e, based_is, set_out (set based (slot l.vector t) x) 64 _ n)
      (same (ap (λ (y : ℕ). set based (slot l.vector t) y) (load_is origin address k extent p.bytes h) ∙ set_moved_lem based based_length l.vector t (load_marks origin address k (extent - k) 0 p.bytes)) refl)

  -- a store-exclusive, by its status: the bytes that are made are all or none
  pub status_marks : l.paired ≡ false → l.wback ≡ false → l.status ≡ true → (k extent : ℕ) (failed : Bool)
      → move_rule (single l.vector true true false (pick failed 0 k) extent t) (zero_slot (field 20 16 word)) (address - origin) p
      ≡ marks_of l true (pick failed 1 0) origin word address k p
  unfolding move_rule marks_of bytes_of
  status_marks alone back status k extent true = rw (back, status) (same (set_marks_lem p.registers len (field 20 16 word) 0) refl)
  status_marks alone back status k extent false = rw (alone, back, status) (same (set_marks_lem p.registers len (field 20 16 word) 0) (stored t k address p.bytes h))

  pub two_marks : l.paired ≡ true → l.status ≡ false → (store : Bool) (k extent written : ℕ) → (store ≡ false → l.extent ≡ extent) → written ≡ pick l.wback (field 9 5 word) 64
      → move_rule (double l.vector store k extent t t2) written (address - origin) p ≡ marks_of l store 0 origin word address (2 * k) p
  unfolding move_rule marks_of
  two_marks two plain true k extent written f e =
      let half : 2 * k / 2 ≡ k = omega arith in
      let far : address - origin + k ≡ address + k - origin = omega arith in
      rw (two, plain, e, half, far, stored t k address p.bytes h) (same based_is (stored t2 k (address + k) _ (omega arith)))
  two_marks two plain false k extent written f e =
      let half : 2 * k / 2 ≡ k = omega arith in
      let far : address - origin + k ≡ address + k - origin = omega arith in
      let x : ℕ = load_marks origin address k (extent - k) 0 p.bytes in
      let y : ℕ = load_marks origin (address + k) k (extent - k) 0 p.bytes in
      let one : set based (slot l.vector t) x ≡ set_moved l.vector t x based = set_moved_lem based based_length l.vector t x in
      let n : length (set_moved l.vector t x based) ≡ 64 = rw (← one) (simp length-set based_length) in
      rw (two, plain, f refl, e, half, based_is, far, load_is origin address k extent p.bytes h, load_is origin (address + k) k extent p.bytes (omega arith))
      (same (ap (λ (v : List ℕ). set v (slot l.vector t2) y) one ∙ set_moved_lem (set_moved l.vector t x based) n l.vector t2 y) refl)
