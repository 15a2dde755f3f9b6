-- The pages of one register: what a load and a store leave, once over the width (`one_load`, `one_store`), and then every
-- size and opc, where both decodes compute (`all_sizes`). Assumes nothing.
use Prim.Native.Nat.{ℕ, zero, suc, ◌+◌, ◌-◌, ◌*◌, ◌/◌, ◌^◌, ◌≤◌, ◌<◌}
use mathlib.Core.Path.{◌≡◌, refl, sym, ap, ◌∙◌}
use mathlib.Core.Bool.{Bool, true, false, ◌&&◌, ◌||◌}
use mathlib.Core.List.{List}
use native.Mathlib.Nat.{sub_self, add-zero}
use native.Mathlib.Omega.{arith}
use lib.Dec.{ltb, leb, eqb}
use lib.Pow.{pow_mono}
use borrow.Author.Tests.{ltb-true, leb-true}
use lib.ListN.{length, get_or, set, length-set}
use lib.Seq.{sets, set_out, set_comm}
use Rattle.bits.specs.Choice.{pick, any}
use Rattle.bits.specs.Fields.{part, field}
use Rattle.bits.specs.Bytes.{bytes_of, joined, span_of}
use Rattle.memory.proofs.Sources.{span_fits}
use Rattle.registers.specs.File.{zero_slot}
use Rattle.bits.specs.Extension.{largest, extended_of}
use Rattle.bits.proofs.Choices.{pick_by, both}
use Rattle.bits.proofs.Extensions.{two_256}
use Rattle.instruction.specs.Operations.{sized_at}
use Rattle.instruction.specs.Undefined.{undefined_codes}
use Rattle.access.specs.declared.transfer.Transfer.{Transfer}
use Rattle.access.specs.declared.addressing.Addressing.{Addressing}
use Rattle.access.specs.declared.Access.TheVariants.{Moves}
use Rattle.access.specs.Transfers.{slot_of, extent_of, sized_transfer}
use Rattle.access.specs.Accesses.{is_prefetch, sized_access, word_access}
use Rattle.plan.specs.declared.window.Window.{Window}
use Rattle.plan.specs.Address.{sum_of, address_of}
use Rattle.plan.specs.Admission.{misaligned, unaligned}
use Rattle.plan.specs.Plans.{misaligned_stack}
use Rattle.machine.specs.Monitor.{status_of, monitor_after, written_back, fails}
use Rattle.machine.specs.Machine.{Machine, operands_of}
use Rattle.arm.specs.Pseudocode.{Arm, MemOp, LOAD, STORE, PREFETCH, Extend, set_x, set_sp, set_base, Mem, set_mem, with_registers, with_memory, with_monitor, Operation, hint, loads, stores, case, regsize_of}
use Rattle.arm.specs.VectorImmediate.{vector_scale}
use Rattle.arm.specs.Pages.{Page, sized_extent}
use Rattle.arm.specs.Choices.{marked, misplaced, arm_of}
use Rattle.arm.proofs.Bits.{zero_extend, extended_is}
use Rattle.arm.proofs.Places.{slot, vector_slot, R, set_r, r_is, set_r_lem, r_memory, r_monitor, set_base_lem, mem_is, set_mem_lem, mem_monitor, low_bytes}
use Rattle.arm.proofs.Marks.{single, one_marks}
use Rattle.arm.proofs.Steps.{most_bytes, Ready, Steps, hints_step, faulty, access_step_lem}

-- a fact of each number of two bits
pub four : (P : ℕ → Type 0) → P 0 → P 1 → P 2 → P 3 → (k : ℕ) → k < 4 → P k
four P a b c d zero h = a
four P a b c d (suc zero) h = b
four P a b c d (suc (suc zero)) h = c
four P a b c d (suc (suc (suc zero))) h = d
four P a b c d (suc (suc (suc (suc k)))) h = absurd (omega arith)

-- and of one bit
pub two : (P : ℕ → Type 0) → P 0 → P 1 → (k : ℕ) → k < 2 → P k
two P a b zero h = a
two P a b (suc zero) h = b
two P a b (suc (suc k)) h = absurd (omega arith)

-- ---- writeback

abbrev pub back : Bool → ℕ → ℕ → Arm → Arm
back wback n next after = pick wback (set_base n next after) after

pub back_registers : (s : Arm) → length s.registers ≡ 64 → (wback : Bool) (n next : ℕ) → next < 2 ^ 64 → (back wback n next s).registers ≡ set s.registers (pick wback n 64) next
back_registers s len true n next h = rw (set_base_lem s len n next h)
back_registers s len false n next h = sym (set_out s.registers 64 next (omega arith))

pub back_memory : (wback : Bool) (n next : ℕ) (s : Arm) → (back wback n next s).memory ≡ s.memory
unfolding set_base set_x
back_memory false n next s = refl
back_memory true n next s = go (eqb n 31)
  where
    go : (t : Bool) → (pick t (set_sp next s) (set_x n 64 next s)).memory ≡ s.memory
    go true = refl
    go false = refl

pub back_monitor : (wback : Bool) (n next : ℕ) (s : Arm) → (back wback n next s).monitor ≡ s.monitor
unfolding set_base set_x
back_monitor false n next s = refl
back_monitor true n next s = go (eqb n 31)
  where
    go : (t : Bool) → (pick t (set_sp next s) (set_x n 64 next s)).monitor ≡ s.monitor
    go true = refl
    go false = refl

-- ---- registers and memory after an access

module _ (vector : Bool) (s : Arm) (len : length s.registers ≡ 64) where
  load_registers : (wback : Bool) (n t next width loaded : ℕ) → next < 2 ^ 64 → 0 < width → loaded < 2 ^ width → (wback ≡ true → ¬ (n ≡ slot vector t))
      → set (set s.registers (pick wback n 64) next) (slot vector t) loaded ≡ (back wback n next (set_r vector t width loaded s)).registers
  load_registers true n t next width loaded small p b h =
      let r : List ℕ = set s.registers (slot vector t) loaded in
      let l : length r ≡ 64 = simp length-set len in
      rw (set_r_lem s len vector t width loaded p b, set_base_lem (with_registers r s) l n next small) (set_comm s.registers n (slot vector t) next loaded (h refl))
  load_registers false n t next width loaded small p b h = rw (set_r_lem s len vector t width loaded p b, set_out s.registers 64 next (omega arith))

  -- with the machine's own numbers, and its second register, which is none
  load_all : (wback : Bool) (n t next width : ℕ) {written sum loaded extended : ℕ} (more : ℕ) → written ≡ pick wback n 64 → sum ≡ next → extended ≡ loaded
      → next < 2 ^ 64 → 0 < width → loaded < 2 ^ width → (wback ≡ true → ¬ (n ≡ slot vector t))
      → set (set (set s.registers written sum) (slot vector t) extended) 64 more ≡ (back wback n next (set_r vector t width loaded s)).registers
  load_all wback n t next width {written} {sum} {loaded} {extended} more p q e small z b h =
      let all : List ℕ = set (set s.registers written sum) (slot vector t) extended in
      let l : length all ≡ 64 = simp length-set len in
      let o : length all ≤ 64 = omega arith in
      set_out all 64 more o ∙ rw (p, q, e) (load_registers wback n t next width loaded small z b h)

  module _ (k address : ℕ) (h : s.origin ≤ address) (u : address + k ≤ 2 ^ 64) where
    pub store_memory : (t : ℕ) → 0 < k → sets s.memory (address - s.origin) (bytes_of k (get_or s.registers (slot vector t) 0)) ≡ (set_mem address k (R vector t (8 * k) s) s).memory
    store_memory t p = rw (set_mem_lem s k address (R vector t (8 * k) s) h u, r_is s len vector t (8 * k) (omega arith), low_bytes k)

    store_registers : (wback : Bool) (n next v : ℕ) {written sum : ℕ} → written ≡ pick wback n 64 → sum ≡ next → next < 2 ^ 64
        → set s.registers written sum ≡ (back wback n next (set_mem address k v s)).registers
    store_registers wback n next v p q small =
        let b : List ℕ = sets s.memory (address - s.origin) (bytes_of k v) in
        rw (p, q, set_mem_lem s k address v h u) (sym (back_registers (with_memory b s) len wback n next small))

-- what needs no extension
pub extended_none : (k v : ℕ) → extended_of k k v ≡ v
unfolding extended_of
extended_none k v = rw (sub_self (largest k), add-zero v) (go (ltb (largest k / 2) v))
  where
    go : (t : Bool) → pick t v v ≡ v
    go true = refl
    go false = refl

pub zeros : (k width : ℕ) → 0 < k → (v : ℕ) → v < 256 ^ k → extended_of k k v ≡ Extend false (8 * k) width v
zeros k width p v h =
    let b : v < 2 ^ (8 * k) = rw two_256 h in
    rw (zero_extend (8 * k) width v (omega arith) b) (extended_none k v)

-- ---- widths

-- the bytes of a load, those that they are extended to, and the bits of a register that are written: all have room
pub record Fits (k extent width : ℕ) : Type 0 where
  pub some : 0 < k
  pub most : k ≤ most_bytes
  pub longer : k ≤ extent
  pub room : 8 * extent ≤ width

-- as a test that is computed
abbrev pub fit : ℕ → ℕ → ℕ → Bool
fit k extent width = (ltb 0 k && leb k most_bytes) && (leb k extent && leb (8 * extent) width)

pub fits : (k extent width : ℕ) → fit k extent width ≡ true → Fits k extent width
fits k extent width h =
    let p = both (ltb 0 k && leb k most_bytes) (leb k extent && leb (8 * extent) width) h in
    let q = both (ltb 0 k) (leb k most_bytes) p.0 in
    let r = both (leb k extent) (leb (8 * extent) width) p.1 in
    record { some = ltb-true 0 k q.0; most = leb-true k most_bytes q.1; longer = leb-true k extent r.0; room = leb-true (8 * extent) width r.1 }

-- what a load to a vector register fills is all that is written
pub filling : (k : ℕ) → 0 < k → k ≤ most_bytes → Fits k k (8 * k)
filling k p q = record { some = p; most = q; longer = omega arith; room = omega arith }

pub extended_fits : {k extent width : ℕ} → Fits k extent width → (v : ℕ) → v < 256 ^ k → extended_of k extent v < 2 ^ width
unfolding extended_of largest
extended_fits {k} {extent} {width} f v h =
    let up : 2 ^ (8 * k) ≤ 2 ^ (8 * extent) = pow_mono (let q : 8 * k ≤ 8 * extent = omega (arith, f.longer) in q) in
    let wide : 2 ^ (8 * extent) ≤ 2 ^ width = pow_mono f.room in
    let less = two_256 k in
    let more = two_256 extent in
    pick_by (λ (x : ℕ). x < 2 ^ width) (ltb (largest k / 2) v) (λ t. omega arith) (λ t. omega arith)

-- ---- one access

-- what the addressing of an access and a page agree on, with the address
pub record Placed (w : Window) (m : Machine) (l : Page) (word : ℕ) (a : Addressing) (exclusive ordered stray : Bool) (address : ℕ) : Type 0 where
  pub mark : (operands_of a m).tainted ≡ marked l word m
  pub stack : misaligned_stack a.base (operands_of a m).base ≡ stray
  pub pointer : stray ≡ true → (operands_of a m).base ≡ get_or m.values 31 0
  pub first : address_of a (operands_of a m) ≡ address
  pub block : (k : ℕ) → 0 < k → k ≤ most_bytes → (misaligned ordered k address || unaligned exclusive k address) ≡ misplaced l.alignment address k

-- and on the number to write back, which an exclusive access has none of; the page has no status
pub record Form (w : Window) (m : Machine) (l : Page) (word : ℕ) (a : Addressing) (exclusive ordered wback stray : Bool) (address next : ℕ) : Type 0 where
  pub placed : Placed w m l word a exclusive ordered stray address
  pub sum : pick exclusive 0 (sum_of a (operands_of a m)) ≡ next
  pub small : next < 2 ^ 64
  pub written : a.written ≡ pick wback (field 9 5 word) 64
  pub back : l.wback ≡ wback
  pub status : l.status ≡ false
  pub apart : wback ≡ true → ¬ (field 9 5 word ≡ slot l.vector (field 4 0 word))

no_load : ◌≡◌ {A = Bool} true false → ⊥
no_load e = let z : ◌≡◌ {A = ℕ} 0 1 = cc in omega arith

-- a load is no store-exclusive
no_store : (b : Bool) → pick b false false ≡ false
no_store true = refl
no_store false = refl

module _ (w : Window) (m : Machine) (r : Ready w m) (l : Page) (word : ℕ) (a : Addressing) (exclusive ordered wback stray : Bool) (address next : ℕ)
    (f : Form w m l word a exclusive ordered wback stray address next) (alone : l.paired ≡ false) where
  -- with the monitor that an exclusive load arms
  abbrev armed : ℕ → Arm
  armed k = with_monitor (pick exclusive (record { address = address; size = k }) m.monitor) (arm_of w m)

  abbrev loaded : ℕ → ℕ → (ℕ → ℕ) → Arm
  loaded k width g = back wback (field 9 5 word) next (set_r l.vector (field 4 0 word) width (g (Mem address k (armed k))) (armed k))

  pub one_load : (k extent width : ℕ) (g : ℕ → ℕ) → Fits k extent width → ((v : ℕ) → v < 256 ^ k → extended_of k extent v ≡ g v)
      → l.extent ≡ extent → word_access word ≡ Moves (single l.vector exclusive false ordered k extent (field 4 0 word)) a
      → Steps w m l word (faulty m stray (loads address k (loaded k width g)))
  unfolding status_of fails written_back monitor_after
  one_load k extent width g fit ext filled e =
      let n = field 9 5 word in
      let t = field 4 0 word in
      access_step_lem w m r.top l word (single l.vector exclusive false ordered k extent t) a stray address k 0 (loaded k width g)
      (record {
        access = e;
        target = refl;
        each = rw alone;
        total = add-zero k;
        mark = f.placed.mark;
        stack = f.placed.stack;
        pointer = f.placed.pointer;
        first = f.placed.first;
        block = f.placed.block k fit.some fit.most;
        told = rw (no_store exclusive);
        registers =
            λ h.
            let at = address - w.origin in
            let v : ℕ = joined (span_of m.memory at k) in
            let x : extended_of k extent v ≡ g (Mem address k (armed k)) =
            ext v (span_fits m.memory r.real.bytes at k) ∙ ap g (sym (mem_is (armed k) k address h.from h.upto)) in
            let b : g (Mem address k (armed k)) < 2 ^ width = rw x at (extended_fits fit v (span_fits m.memory r.real.bytes at k)) in
            let z : 0 < width = omega (arith, fit.some, fit.longer, fit.room) in
            rw (no_store exclusive) (load_all l.vector (armed k) r.real.registers wback n t next width _ f.written f.sum x f.small z b f.apart);
        marks =
            λ h.
            rw (no_store exclusive)
            (one_marks l w.origin word address m.taints r.real.marks h.from alone f.status exclusive false ordered k extent a.written (λ z. filled) (rw f.back f.written));
        memory = λ h. sym (back_memory wback n next _ ∙ r_memory l.vector t width _ (armed k));
        monitor = sym (back_monitor wback n next _ ∙ r_monitor l.vector t width _ (armed k));
      })
      false refl

module _ (w : Window) (m : Machine) (r : Ready w m) (l : Page) (word : ℕ) (a : Addressing) (ordered wback stray : Bool) (address next : ℕ)
    (f : Form w m l word a false ordered wback stray address next) (alone : l.paired ≡ false) where
  abbrev s : Arm
  s = arm_of w m

  abbrev n : ℕ
  n = field 9 5 word

  abbrev t : ℕ
  t = field 4 0 word

  abbrev stored : ℕ → Arm
  stored k = back wback n next (set_mem address k (R l.vector t (8 * k) s) s)

  pub one_store : (k extent : ℕ) → 0 < k → k ≤ most_bytes → word_access word ≡ Moves (single l.vector false true ordered k extent t) a
      → Steps w m l word (faulty m stray (stores address k (stored k)))
  unfolding bytes_of status_of fails written_back monitor_after
  one_store k extent p q e =
      access_step_lem w m r.top l word (single l.vector false true ordered k extent t) a stray address k 0 (stored k)
      (record {
        access = e;
        target = refl;
        each = rw alone;
        total = add-zero k;
        mark = f.placed.mark;
        stack = f.placed.stack;
        pointer = f.placed.pointer;
        first = f.placed.first;
        block = f.placed.block k p q;
        told = refl;
        registers = λ h. store_registers l.vector s r.real.registers k address h.from h.upto wback n next _ f.written f.sum f.small;
        marks =
            λ h.
            one_marks l w.origin word address m.taints r.real.marks h.from alone f.status false true ordered k extent a.written (λ z. absurd (no_load z)) (rw f.back f.written);
        memory = λ h. store_memory l.vector s r.real.registers k address h.from h.upto t p ∙ sym (back_memory wback n next _);
        monitor = sym (back_monitor wback n next _ ∙ mem_monitor k address _ s);
      })
      true refl

  -- ---- all sizes and opcs

  -- by the slot of the access, of either kind
  abbrev aimed : Bool → ℕ → ℕ → ℕ → Transfer
  aimed store k extent target =
      record { store = store; ordered = ordered; bytes = k; more = 0; extent = extent; target = target; second = 64; exclusive = false }

  module _ (target : ℕ) (at : target ≡ slot l.vector t) where
    pub load : (k extent width : ℕ) (g : ℕ → ℕ) → Fits k extent width → ((v : ℕ) → v < 256 ^ k → extended_of k extent v ≡ g v)
        → l.extent ≡ extent → word_access word ≡ Moves (aimed false k extent target) a
        → Steps w m l word (faulty m stray (loads address k (back wback n next (set_r l.vector t width (g (Mem address k s)) s))))
    load k extent width g fit x filled e =
        one_load w m r l word a false ordered wback stray address next f alone k extent width g fit x filled
        (e ∙ ap (λ (i : ℕ). Moves (aimed false k extent i) a) at)

    store : (k extent : ℕ) → 0 < k → k ≤ most_bytes → word_access word ≡ Moves (aimed true k extent target) a → Steps w m l word (faulty m stray (stores address k (stored k)))
    store k extent p q e = one_store k extent p q (e ∙ ap (λ (i : ℕ). Moves (aimed true k extent i) a) at)

  -- the page, by size and opc
  abbrev page : ℕ → ℕ → Operation
  page size opc =
      let signed = eqb (field 1 1 opc) 1 in
      let memop : MemOp = pick signed (pick (eqb size 0b11) PREFETCH LOAD) (pick (eqb (field 0 0 opc) 1) LOAD STORE) in
      let regsize = regsize_of size opc in
      let datasize = 8 * 2 ^ size in
      case memop
      (faulty m stray (stores address (datasize / 8) (back wback n next (set_mem address (datasize / 8) (R l.vector t datasize s) s))))
      (faulty m stray (loads address (datasize / 8) (back wback n next (set_r l.vector t regsize (Extend signed datasize regsize (Mem address (datasize / 8) s)) s))))
      hint

  abbrev Paged : ℕ → ℕ → Type 0
  Paged size opc =
      l.extent ≡ sized_extent false size opc → any (eqb (0 * 16 + size * 4 + opc)) undefined_codes ≡ false
      → word_access word ≡ sized_access (sized_at (0 * 16 + size * 4 + opc)) t ordered a → Steps w m l word (page size opc)

  pub all_sizes : zero_slot t ≡ slot l.vector t → (size opc : ℕ) → size < 4 → opc < 4 → Paged size opc
  unfolding sized_access sized_transfer slot_of extent_of sized_at is_prefetch part
  all_sizes at size opc h k = four (λ s. Paged s opc) (bytes opc k) (halves opc k) (words opc k) (doubles opc k) size h
    where
      with_zeros : (k width : ℕ) → fit k k width ≡ true → l.extent ≡ k → word_access word ≡ Moves (aimed false k k (zero_slot t)) a
          → Steps w m l word (faulty m stray (loads address k (back wback n next (set_r l.vector t width (Extend false (8 * k) width (Mem address k s)) s))))
      with_zeros k width h x e =
          let f = fits k k width h in
          load (zero_slot t) at k k width (Extend false (8 * k) width) f (zeros k width f.some) x e

      with_sign : (j extent : ℕ) → fit (suc j) extent (8 * extent) ≡ true → l.extent ≡ extent → word_access word ≡ Moves (aimed false (suc j) extent (zero_slot t)) a
          → Steps w m l word (faulty m stray (loads address (suc j) (back wback n next (set_r l.vector t (8 * extent) (Extend true (8 * suc j) (8 * extent) (Mem address (suc j) s)) s))))
      with_sign j extent h x e =
          let f = fits (suc j) extent (8 * extent) h in
          load (zero_slot t) at (suc j) extent (8 * extent) (Extend true (8 * suc j) (8 * extent)) f (λ v. extended_is j extent v f.longer) x e

      bytes : (opc : ℕ) → opc < 4 → Paged 0 opc
      bytes =
          four (Paged 0)
          (λ x u e. store (zero_slot t) at 1 1 (omega arith) (omega arith) e)
          (λ x u e. with_zeros 1 _ refl x e)
          (λ x u e. with_sign 0 8 refl x e)
          (λ x u e. with_sign 0 4 refl x e)

      halves : (opc : ℕ) → opc < 4 → Paged 1 opc
      halves =
          four (Paged 1)
          (λ x u e. store (zero_slot t) at 2 2 (omega arith) (omega arith) e)
          (λ x u e. with_zeros 2 _ refl x e)
          (λ x u e. with_sign 1 8 refl x e)
          (λ x u e. with_sign 1 4 refl x e)

      words : (opc : ℕ) → opc < 4 → Paged 2 opc
      words =
          four (Paged 2)
          (λ x u e. store (zero_slot t) at 4 4 (omega arith) (omega arith) e)
          (λ x u e. with_zeros 4 _ refl x e)
          (λ x u e. with_sign 3 8 refl x e)
          (λ x u e. absurd (no_load u))

      doubles : (opc : ℕ) → opc < 4 → Paged 3 opc
      doubles =
          four (Paged 3)
          (λ x u e. store (zero_slot t) at 8 8 (omega arith) (omega arith) e)
          (λ x u e. with_zeros 8 _ refl x e)
          (λ x u e. hints_step w m l word e)
          (λ x u e. absurd (no_load u))

  -- ---- of vector registers

  abbrev vector_page : ℕ → ℕ → Operation
  vector_page size opc =
      let memop : MemOp = pick (eqb (field 0 0 opc) 1) LOAD STORE in
      let datasize = 8 * 2 ^ vector_scale size opc in
      case memop
      (faulty m stray (stores address (datasize / 8) (back wback n next (set_mem address (datasize / 8) (R l.vector t datasize s) s))))
      (faulty m stray (loads address (datasize / 8) (back wback n next (set_r l.vector t datasize (Mem address (datasize / 8) s) s))))
      hint

  abbrev VectorPaged : ℕ → ℕ → Type 0
  VectorPaged size opc =
      l.extent ≡ sized_extent true size opc → any (eqb (1 * 16 + size * 4 + opc)) undefined_codes ≡ false
      → word_access word ≡ sized_access (sized_at (1 * 16 + size * 4 + opc)) t ordered a → Steps w m l word (vector_page size opc)

  pub all_vectors : vector_slot t ≡ slot l.vector t → (size opc : ℕ) → size < 4 → opc < 4 → VectorPaged size opc
  unfolding sized_access sized_transfer slot_of sized_at is_prefetch part
  all_vectors at size opc h k = four (λ s. VectorPaged s opc) (bytes opc k) (halves opc k) (words opc k) (doubles opc k) size h
    where
      put : (k : ℕ) → 0 < k → k ≤ most_bytes → word_access word ≡ Moves (aimed true k k (vector_slot t)) a → Steps w m l word (faulty m stray (stores address k (stored k)))
      put k p q e = store (vector_slot t) at k k p q e

      take : (k : ℕ) → 0 < k → k ≤ most_bytes → l.extent ≡ k → word_access word ≡ Moves (aimed false k k (vector_slot t)) a
          → Steps w m l word (faulty m stray (loads address k (back wback n next (set_r l.vector t (8 * k) (Mem address k s) s))))
      take k p q x e = load (vector_slot t) at k k (8 * k) (λ v. v) (filling k p q) (λ v h. extended_none k v) x e

      bytes : (opc : ℕ) → opc < 4 → VectorPaged 0 opc
      bytes =
          four (VectorPaged 0) (λ x u e. put 1 (omega arith) (omega arith) e) (λ x u e. take 1 (omega arith) (omega arith) x e)
          (λ x u e. put 16 (omega arith) (omega arith) e) (λ x u e. take 16 (omega arith) (omega arith) x e)

      halves : (opc : ℕ) → opc < 4 → VectorPaged 1 opc
      halves =
          four (VectorPaged 1) (λ x u e. put 2 (omega arith) (omega arith) e) (λ x u e. take 2 (omega arith) (omega arith) x e)
          (λ x u e. absurd (no_load u)) (λ x u e. absurd (no_load u))

      words : (opc : ℕ) → opc < 4 → VectorPaged 2 opc
      words =
          four (VectorPaged 2) (λ x u e. put 4 (omega arith) (omega arith) e) (λ x u e. take 4 (omega arith) (omega arith) x e)
          (λ x u e. absurd (no_load u)) (λ x u e. absurd (no_load u))

      doubles : (opc : ℕ) → opc < 4 → VectorPaged 3 opc
      doubles =
          four (VectorPaged 3) (λ x u e. put 8 (omega arith) (omega arith) e) (λ x u e. take 8 (omega arith) (omega arith) x e)
          (λ x u e. absurd (no_load u)) (λ x u e. absurd (no_load u))
