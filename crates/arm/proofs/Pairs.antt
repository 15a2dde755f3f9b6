-- The page of pairs: what a load and a store of two registers leave, once over the width (`two_loads`, `two_stores`), then
-- each opc and L (`all`), and each mode (`modes`). Assumes nothing.
use Prim.Native.Nat.{ℕ, ◌+◌, ◌-◌, ◌*◌, ◌/◌, ◌%◌, ◌^◌, ◌≤◌, ◌<◌}
use mathlib.Core.Path.{◌≡◌, refl, sym, ap, ◌∙◌}
use mathlib.Core.Bool.{Bool, true, false, not, ◌&&◌, ◌||◌}
use mathlib.Core.List.{List}
use native.Mathlib.Omega.{arith}
use lib.Dec.{eqb}
use lib.ListN.{length, get_or, set, length-set}
use lib.Seq.{sets, set_out, set_comm}
use borrow.Author.Tests.{eqb-true, eqb-false, eq-eqb}
use Rattle.bits.specs.Choice.{pick}
use Rattle.bits.specs.Fields.{part, field}
use Rattle.bits.specs.Bytes.{bytes_of, joined, span_of}
use Rattle.bits.specs.Signed.{signed_of, twos_complement}
use Rattle.bits.proofs.Choices.{neither}
use Rattle.bits.proofs.Parts.{part_lt}
use Rattle.memory.proofs.Sources.{span_fits}
use Rattle.registers.specs.File.{zero_slot}
use Rattle.bits.specs.Extension.{extended_of}
use Rattle.instruction.specs.declared.row.Row.TheVariants.{PairRow}
use Rattle.instruction.specs.Operations.{pair_at, mode_at, pair_bytes}
use Rattle.instruction.specs.Undefined.{undefined_pair}
use Rattle.instruction.specs.Unpredictable.{base_is, over_base, unpredictable_pair}
use Rattle.instruction.specs.Operands.{pair_op_in, pair_in}
use Rattle.instruction.specs.Table.{columns_of}
use Rattle.access.specs.declared.transfer.Transfer.{Transfer}
use Rattle.access.specs.declared.addressing.Addressing.{Addressing}
use Rattle.access.specs.declared.Access.{Access}
use Rattle.access.specs.declared.Access.TheVariants.{Moves}
use Rattle.access.specs.Transfers.{slot_of, pair_transfer}
use Rattle.access.specs.Addressings.{based, paired_mode}
use Rattle.access.specs.Accesses.{pair_access, family_access, word_access}
use Rattle.plan.specs.declared.window.Window.{Window}
use Rattle.plan.specs.Admission.{misaligned, unaligned}
use Rattle.machine.specs.Monitor.{status_of, monitor_after, written_back, fails}
use Rattle.machine.specs.Machine.{Machine}
use Rattle.arm.specs.Pseudocode.{Arm, LOAD, STORE, SignExtend, LSL, Add, X, set_x, Vec, set_vec, base, Mem, set_mem, with_registers, with_memory, Operation, hint, CheckSPAlignment, loads, stores, case}
use Rattle.arm.specs.Pair.{paired, pair}
use Rattle.arm.specs.VectorPair.{vector_paired, vector_pair}
use Rattle.arm.specs.Choices.{arm_of}
use Rattle.arm.proofs.Bits.{add_small, offset_is, extended_is}
use Rattle.arm.proofs.Places.{slot, vector_slot, R, set_r, r_is, set_r_lem, r_memory, r_monitor, set_base_lem, mem_is, set_mem_lem, mem_monitor, low_bytes}
use Rattle.arm.proofs.Marks.{double, two_marks}
use Rattle.arm.proofs.Steps.{Ready, Inside, Steps, faulty, access_step_lem}
use Rattle.arm.proofs.Singles.{two, four, back, back_registers, back_memory, back_monitor, Fits, fits, filling, extended_fits, Form, extended_none}
use Rattle.arm.specs.Pages.{opc_extent, page_of}
use Rattle.arm.proofs.Families.{never, apart, strays, based_form, behind, no_base}

-- ---- two registers and two places

-- the address of the second register's bytes is not wrapped
second_is : {w : Window} (address k : ℕ) → 0 < k → Inside w address (2 * k) → Add address k ≡ address + k
second_is address k p h = add_small address k (omega (arith, h.upto))

module _ (vector : Bool) (s : Arm) (len : length s.registers ≡ 64) where
  -- the registers with two of them written
  abbrev written : ℕ → ℕ → ℕ → ℕ → List ℕ
  written t t2 x y = set (set s.registers (slot vector t) x) (slot vector t2) y

  two_registers : (wback : Bool) (n t t2 next width x y : ℕ) → next < 2 ^ 64 → 0 < width → x < 2 ^ width → y < 2 ^ width → (wback ≡ true → ¬ (n ≡ slot vector t)) → (wback ≡ true → ¬ (n ≡ slot vector t2))
      → set (set (set s.registers (pick wback n 64) next) (slot vector t) x) (slot vector t2) y ≡ (back wback n next (set_r vector t2 width y (set_r vector t width x s))).registers
  two_registers wback n t t2 next width x y small p f g h k =
      let l : length (set s.registers (slot vector t) x) ≡ 64 = simp length-set len in
      let o : length (written t t2 x y) ≡ 64 = simp length-set len in
      rw (set_r_lem s len vector t width x p f, set_r_lem (with_registers (set s.registers (slot vector t) x) s) l vector t2 width y p g) (go wback h k o)
    where
      go : (wback : Bool) → (wback ≡ true → ¬ (n ≡ slot vector t)) → (wback ≡ true → ¬ (n ≡ slot vector t2)) → length (written t t2 x y) ≡ 64
          → set (set (set s.registers (pick wback n 64) next) (slot vector t) x) (slot vector t2) y ≡ (back wback n next (with_registers (written t t2 x y) s)).registers
      go true h k o =
          rw (set_base_lem (with_registers (written t t2 x y) s) o n next small, set_comm s.registers n (slot vector t) next x (h refl))
          (set_comm (set s.registers (slot vector t) x) n (slot vector t2) next y (k refl))
      go false h k o = rw (set_out s.registers 64 next (omega (arith, len)))

  -- the bytes of a register, and memory with those of two
  abbrev bytes : ℕ → ℕ → List ℕ
  bytes k t = bytes_of k (get_or s.registers (slot vector t) 0)

  abbrev filled : ℕ → ℕ → ℕ → ℕ → List ℕ
  filled k t t2 at = sets (sets s.memory at (bytes k t)) (at + k) (bytes k t2)

  two_places : (k t t2 address : ℕ) → 0 < k → s.origin ≤ address → address + 2 * k ≤ 2 ^ 64
      → set_mem (Add address k) k (R vector t2 (8 * k) s) (set_mem address k (R vector t (8 * k) s) s) ≡ with_memory (filled k t t2 (address - s.origin)) s
  two_places k t t2 address p h u =
      let a : Add address k ≡ address + k = add_small address k (omega arith) in
      let e : address + k - s.origin ≡ address - s.origin + k = omega arith in
      let b : List ℕ = sets s.memory (address - s.origin) (bytes_of k (R vector t (8 * k) s)) in
      let one = set_mem_lem s k address (R vector t (8 * k) s) h (omega arith) in
      let two = set_mem_lem (with_memory b s) k (address + k) (R vector t2 (8 * k) s) (omega arith) (omega arith) in
      rw (a, one, two, e, r_is s len vector t (8 * k) (omega arith), r_is s len vector t2 (8 * k) (omega arith), low_bytes k (get_or s.registers (slot vector t) 0), low_bytes k (get_or s.registers (slot vector t2) 0))

module _ (vector : Bool) (w : Window) (m : Machine) (r : Ready w m) (word : ℕ) (a : Addressing) (wback stray : Bool) (address next : ℕ)
    (f : Form w m (page_of vector PairRow word) word a false false wback stray address next) (other : wback ≡ true → ¬ (field 9 5 word ≡ slot vector (field 14 10 word))) where
  abbrev s : Arm
  s = arm_of w m

  abbrev n : ℕ
  n = field 9 5 word

  abbrev t : ℕ
  t = field 4 0 word

  abbrev t2 : ℕ
  t2 = field 14 10 word

  abbrev loaded : ℕ → ℕ → (ℕ → ℕ) → Arm
  loaded k width g = back wback n next (set_r vector t2 width (g (Mem (Add address k) k s)) (set_r vector t width (g (Mem address k s)) s))

  abbrev stored : ℕ → Arm
  stored k = back wback n next (set_mem (Add address k) k (R vector t2 (8 * k) s) (set_mem address k (R vector t (8 * k) s) s))

  two_loads : (k extent width : ℕ) (g : ℕ → ℕ) → k ≤ 16 → Fits k extent width → ((v : ℕ) → v < 256 ^ k → extended_of k extent v ≡ g v)
      → (page_of vector PairRow word).extent ≡ extent → word_access word ≡ Moves (double vector false k extent t t2) a → Steps w m (page_of vector PairRow word) word (faulty m stray (loads address (2 * k) (loaded k width g)))
  unfolding status_of fails written_back monitor_after
  two_loads k extent width g q fit ext filled e =
      access_step_lem w m r.top (page_of vector PairRow word) word (double vector false k extent t t2) a stray address (2 * k) 0 (loaded k width g)
      (record {
        access = e;
        target = refl;
        each = omega arith;
        total = omega arith;
        mark = f.placed.mark;
        stack = f.placed.stack;
        pointer = f.placed.pointer;
        first = f.placed.first;
        block = f.placed.block (2 * k) (omega (arith, fit.some)) (omega arith);
        told = refl;
        registers =
            λ h.
            let at = address - w.origin in
            let from = h.from in
            let upto = h.upto in
            let i : address + k - w.origin ≡ at + k = omega arith in
            let one : Mem address k s ≡ joined (span_of m.memory at k) = mem_is s k address from (omega arith) in
            let two : Mem (Add address k) k s ≡ joined (span_of m.memory (at + k) k) =
            ap (λ (x : ℕ). Mem x k s) (second_is address k fit.some h) ∙ rw i at (mem_is s k (address + k) (omega arith) (omega arith)) in
            let p = span_fits m.memory r.real.bytes at k in
            let q = span_fits m.memory r.real.bytes (at + k) k in
            let x = ext _ p ∙ ap g (sym one) in
            let y = ext _ q ∙ ap g (sym two) in
            let z : 0 < width = omega (arith, fit.some, fit.longer, fit.room) in
            rw (f.sum, f.written, x, y)
            (two_registers vector s r.real.registers wback n t t2 next width (g (Mem address k s)) (g (Mem (Add address k) k s)) f.small z (rw x at (extended_fits fit _ p)) (rw y at (extended_fits fit _ q)) f.apart other);
        marks = λ h. two_marks (page_of vector PairRow word) w.origin word address m.taints r.real.marks h.from refl refl false k extent a.written (λ z. filled) (rw f.back f.written);
        memory = λ h. sym (back_memory wback n next _ ∙ r_memory vector t2 width _ _ ∙ r_memory vector t width _ s);
        monitor = sym (back_monitor wback n next _ ∙ r_monitor vector t2 width _ _ ∙ r_monitor vector t width _ s);
      })
      false refl

  two_stores : (k extent : ℕ) → 0 < k → k ≤ 16 → word_access word ≡ Moves (double vector true k extent t t2) a → Steps w m (page_of vector PairRow word) word (faulty m stray (stores address (2 * k) (stored k)))
  unfolding status_of fails written_back monitor_after
  two_stores k extent p q e =
      let len = r.real.registers in
      let after : Arm = with_memory (filled vector s len k t t2 (address - w.origin)) s in
      let places : Inside w address (2 * k) → set_mem (Add address k) k (R vector t2 (8 * k) s) (set_mem address k (R vector t (8 * k) s) s) ≡ after =
      λ h. two_places vector s len k t t2 address p h.from h.upto in
      access_step_lem w m r.top (page_of vector PairRow word) word (double vector true k extent t t2) a stray address (2 * k) 0 (stored k)
      (record {
        access = e;
        target = refl;
        each = omega arith;
        total = omega arith;
        mark = f.placed.mark;
        stack = f.placed.stack;
        pointer = f.placed.pointer;
        first = f.placed.first;
        block = f.placed.block (2 * k) (omega arith) (omega arith);
        told = refl;
        registers = λ h. rw (f.sum, f.written, places h) (sym (back_registers after len wback n next f.small));
        marks = λ h. two_marks (page_of vector PairRow word) w.origin word address m.taints r.real.marks h.from refl refl true k extent a.written (λ z. absurd (never (sym z))) (rw f.back f.written);
        memory = λ h. sym (back_memory wback n next _ ∙ ap (λ (x : Arm). x.memory) (places h));
        monitor = sym (back_monitor wback n next _ ∙ mem_monitor k (Add address k) _ _ ∙ mem_monitor k address _ s);
      })
      true refl

-- ---- all opcs, L and modes

module _ (w : Window) (m : Machine) (word : ℕ) (wback postindex : Bool) where
  -- the page, by opc and L
  abbrev page : ℕ → ℕ → Operation
  page opc L =
      let s = arm_of w m in
      let t2 = field 14 10 word in
      let n = field 9 5 word in
      let t = field 4 0 word in
      let scale = 2 + field 1 1 opc in
      let datasize = 8 * 2 ^ scale in
      let offset = LSL (SignExtend 7 64 (field 21 15 word)) scale in
      let dbytes = datasize / 8 in
      let address = pick postindex (base n s) (Add (base n s) offset) in
      let next = Add (base n s) offset in
      let second = Add address dbytes in
      case (pick (eqb L 1) LOAD STORE)
      (CheckSPAlignment n s (stores address (2 * dbytes) (back wback n next (set_mem second dbytes (X t2 datasize s) (set_mem address dbytes (X t datasize s) s)))))
      (CheckSPAlignment n s (loads address (2 * dbytes)
      (back wback n next
      (pick (not (eqb (field 0 0 opc) 0))
      (set_x t2 64 (SignExtend datasize 64 (Mem second dbytes s)) (set_x t 64 (SignExtend datasize 64 (Mem address dbytes s)) s))
      (set_x t2 datasize (Mem second dbytes s) (set_x t datasize (Mem address dbytes s) s))))))
      hint

  abbrev access_by : ℕ → ℕ → ℕ → ℕ → Access
  access_by v opc L offset =
      let n = field 9 5 word in
      Moves (pair_transfer (pair_at (v * 8 + opc * 2 + L)) (field 4 0 word) (field 14 10 word)) (based n offset postindex (pick wback n 64))

  abbrev Paged : ℕ → ℕ → Type 0
  Paged opc L =
      (page_of false PairRow word).extent ≡ opc_extent false opc → word_access word ≡ access_by 0 opc L (twos_complement (signed_of 64 (pair_bytes (pair_at (0 * 8 + opc * 2 + L))) (field 21 15 word)))
      → Steps w m (page_of false PairRow word) word (page opc L)

  -- of vector registers
  abbrev vector_page : ℕ → ℕ → Operation
  vector_page opc L =
      let s = arm_of w m in
      let t2 = field 14 10 word in
      let n = field 9 5 word in
      let t = field 4 0 word in
      let scale = 2 + opc in
      let datasize = 8 * 2 ^ scale in
      let offset = LSL (SignExtend 7 64 (field 21 15 word)) scale in
      let dbytes = datasize / 8 in
      let address = pick postindex (base n s) (Add (base n s) offset) in
      let next = Add (base n s) offset in
      let second = Add address dbytes in
      case (pick (eqb L 1) LOAD STORE)
      (CheckSPAlignment n s (stores address (2 * dbytes) (back wback n next (set_mem second dbytes (Vec t2 datasize s) (set_mem address dbytes (Vec t datasize s) s)))))
      (CheckSPAlignment n s (loads address (2 * dbytes) (back wback n next (set_vec t2 datasize (Mem second dbytes s) (set_vec t datasize (Mem address dbytes s) s)))))
      hint

  abbrev VectorPaged : ℕ → ℕ → Type 0
  VectorPaged opc L =
      (page_of true PairRow word).extent ≡ opc_extent true opc → word_access word ≡ access_by 1 opc L (twos_complement (signed_of 64 (pair_bytes (pair_at (1 * 8 + opc * 2 + L))) (field 21 15 word)))
      → Steps w m (page_of true PairRow word) word (vector_page opc L)

module _ (w : Window) (m : Machine) (r : Ready w m) (word : ℕ) where
  -- imm7 by its scale
  abbrev scaled : ℕ → ℕ
  scaled scale = LSL (SignExtend 7 64 (field 21 15 word)) scale

  scaled_is : (scale : ℕ) → scale < 5 → twos_complement (signed_of 64 (2 ^ scale) (field 21 15 word)) ≡ scaled scale
  scaled_is scale h = sym (offset_is 6 scale (field 21 15 word) (omega arith) (part_lt 15 7 word))

  module _ (wback postindex : Bool) (writing : eqb (field 23 23 word) 1 ≡ wback) where
    form : (vector : Bool) (offset : ℕ) → (wback ≡ true → ¬ (field 9 5 word ≡ slot vector (field 4 0 word)))
        → let n = field 9 5 word in
        let next = Add (base n (arm_of w m)) offset in
        Form w m (page_of vector PairRow word) word (based n offset postindex (pick wback n 64)) false false wback (strays m n) (pick postindex (base n (arm_of w m)) next) next
    unfolding misaligned unaligned
    form vector offset one = based_form w m r (page_of vector PairRow word) word offset postindex wback false writing refl refl one (λ k x p q. refl)

    -- ---- of vector registers

    abbrev rt : ℕ
    rt = field 4 0 word

    abbrev rt2 : ℕ
    rt2 = field 14 10 word

    abbrev aimed : Bool → ℕ → ℕ → ℕ → Transfer
    aimed store k target second = record { store = store; ordered = false; bytes = k; more = k; extent = k; target = target; second = second; exclusive = false }

    abbrev moves : Bool → ℕ → ℕ → ℕ → ℕ → Access
    moves store k target second offset = Moves (aimed store k target second) (based (field 9 5 word) offset postindex (pick wback (field 9 5 word) 64))

    behind_t : vector_slot rt ≡ slot true rt
    behind_t = behind w m r word rt (part_lt 0 5 word)

    behind_t2 : vector_slot rt2 ≡ slot true rt2
    behind_t2 = behind w m r word rt2 (part_lt 10 5 word)

    abbrev next : ℕ → ℕ
    next scale = Add (base (field 9 5 word) (arm_of w m)) (scaled scale)

    abbrev address : ℕ → ℕ
    address scale = pick postindex (base (field 9 5 word) (arm_of w m)) (next scale)

    vector_form : (scale : ℕ)
        → let n = field 9 5 word in
        Form w m (page_of true PairRow word) word (based n (scaled scale) postindex (pick wback n 64)) false false wback (strays m n) (address scale) (next scale)
    vector_form scale = form true (scaled scale) (λ h. no_base w m r word rt)

    -- the slots and the offset of the access are the page's
    aims : (store : Bool) (k scale : ℕ) → 2 ^ scale ≡ k → scale < 5
        → word_access word ≡ moves store k (vector_slot rt) (vector_slot rt2) (twos_complement (signed_of 64 k (field 21 15 word)))
        → word_access word ≡ moves store k (slot true rt) (slot true rt2) (scaled scale)
    aims store k scale x l e =
        e ∙ ap (λ (i : ℕ). moves store k i (vector_slot rt2) (twos_complement (signed_of 64 k (field 21 15 word)))) behind_t
        ∙ ap (λ (i : ℕ). moves store k (slot true rt) i (twos_complement (signed_of 64 k (field 21 15 word)))) behind_t2
        ∙ ap (λ (i : ℕ). moves store k (slot true rt) (slot true rt2) (twos_complement (signed_of 64 i (field 21 15 word)))) (sym x)
        ∙ ap (moves store k (slot true rt) (slot true rt2)) (scaled_is scale l)

    put : (k scale : ℕ) → 2 ^ scale ≡ k → scale < 5 → 0 < k → k ≤ 16
        → word_access word ≡ moves true k (vector_slot rt) (vector_slot rt2) (twos_complement (signed_of 64 k (field 21 15 word)))
        → Steps w m (page_of true PairRow word) word (faulty m (strays m (field 9 5 word)) (stores (address scale) (2 * k) (stored true w m r word _ wback _ (address scale) (next scale) (vector_form scale) (λ h. no_base w m r word rt2) k)))
    put k scale x l p q e =
        two_stores true w m r word _ wback _ _ _ (vector_form scale) (λ h. no_base w m r word rt2) k k p q (aims true k scale x l e)

    take : (k scale : ℕ) → 2 ^ scale ≡ k → scale < 5 → 0 < k → k ≤ 16 → (page_of true PairRow word).extent ≡ k
        → word_access word ≡ moves false k (vector_slot rt) (vector_slot rt2) (twos_complement (signed_of 64 k (field 21 15 word)))
        → Steps w m (page_of true PairRow word) word (faulty m (strays m (field 9 5 word)) (loads (address scale) (2 * k) (loaded true w m r word _ wback _ (address scale) (next scale) (vector_form scale) (λ h. no_base w m r word rt2) k (8 * k) (λ v. v))))
    take k scale x l p q filled e =
        two_loads true w m r word _ wback _ _ _ (vector_form scale) (λ h. no_base w m r word rt2) k k (8 * k) (λ v. v) q (filling k p (omega arith)) (λ v h. extended_none k v) filled (aims false k scale x l e)

    all_vectors : (opc L : ℕ) → opc < 4 → L < 2 → ¬ (opc ≡ 0b11) → VectorPaged w m word wback postindex opc L
    unfolding pair_at pair_transfer slot_of
    all_vectors opc L h k =
        four (λ opc. ¬ (opc ≡ 0b11) → VectorPaged w m word wback postindex opc L)
        (λ p. two (VectorPaged w m word wback postindex 0) (λ x e. put 4 2 refl (omega arith) (omega arith) (omega arith) e) (λ x e. take 4 2 refl (omega arith) (omega arith) (omega arith) x e) L k)
        (λ p. two (VectorPaged w m word wback postindex 1) (λ x e. put 8 3 refl (omega arith) (omega arith) (omega arith) e) (λ x e. take 8 3 refl (omega arith) (omega arith) (omega arith) x e) L k)
        (λ p. two (VectorPaged w m word wback postindex 2) (λ x e. put 16 4 refl (omega arith) (omega arith) (omega arith) e) (λ x e. take 16 4 refl (omega arith) (omega arith) (omega arith) x e) L k)
        (λ p. absurd (p refl))
        opc h

  module _ (wback postindex : Bool) (writing : eqb (field 23 23 word) 1 ≡ wback)
      (one : wback ≡ true → ¬ (field 9 5 word ≡ zero_slot (field 4 0 word))) (other : wback ≡ true → ¬ (field 9 5 word ≡ zero_slot (field 14 10 word))) where
    store_words : Paged w m word wback postindex 0 0
    unfolding pair_at pair_transfer slot_of part
    store_words x e =
        two_stores false w m r word _ wback _ _ _ (form wback postindex writing false (scaled 2) one) other 4 4 (omega arith) (omega arith)
        (e ∙ ap (access_by w m word wback postindex 0 0 0) (scaled_is 2 (omega arith)))

    load_words : Paged w m word wback postindex 0 1
    unfolding pair_at pair_transfer slot_of part
    load_words x e =
        two_loads false w m r word _ wback _ _ _ (form wback postindex writing false (scaled 2) one) other 4 4 32 (λ v. v) (omega arith) (fits 4 4 32 refl) (λ v h. extended_none 4 v) x
        (e ∙ ap (access_by w m word wback postindex 0 0 1) (scaled_is 2 (omega arith)))

    load_signed : Paged w m word wback postindex 1 1
    unfolding pair_at pair_transfer slot_of part
    load_signed x e =
        two_loads false w m r word _ wback _ _ _ (form wback postindex writing false (scaled 2) one) other 4 8 64 (SignExtend 32 64) (omega arith) (fits 4 8 64 refl) (λ v. extended_is 3 8 v (omega arith)) x
        (e ∙ ap (access_by w m word wback postindex 0 1 1) (scaled_is 2 (omega arith)))

    store_doubles : Paged w m word wback postindex 2 0
    unfolding pair_at pair_transfer slot_of part
    store_doubles x e =
        two_stores false w m r word _ wback _ _ _ (form wback postindex writing false (scaled 3) one) other 8 8 (omega arith) (omega arith)
        (e ∙ ap (access_by w m word wback postindex 0 2 0) (scaled_is 3 (omega arith)))

    load_doubles : Paged w m word wback postindex 2 1
    unfolding pair_at pair_transfer slot_of part
    load_doubles x e =
        two_loads false w m r word _ wback _ _ _ (form wback postindex writing false (scaled 3) one) other 8 8 64 (λ v. v) (omega arith) (fits 8 8 64 refl) (λ v h. extended_none 8 v) x
        (e ∙ ap (access_by w m word wback postindex 0 2 1) (scaled_is 3 (omega arith)))

    all : (opc L : ℕ) → opc < 4 → L < 2 → ¬ (opc ≡ 0b11) → (opc ≡ 0b01 → L ≡ 1) → Paged w m word wback postindex opc L
    all opc L h k =
        four (λ opc. ¬ (opc ≡ 0b11) → (opc ≡ 0b01 → L ≡ 1) → Paged w m word wback postindex opc L)
        (λ p q. two (Paged w m word wback postindex 0) store_words load_words L k)
        (λ p q. rw (q refl) load_signed)
        (λ p q. two (Paged w m word wback postindex 2) store_doubles load_doubles L k)
        (λ p q. absurd (p refl))
        opc h

  -- ---- what the tests of a word say

  no_three : undefined_pair word ≡ false → ¬ (field 31 30 word ≡ 0b11)
  unfolding undefined_pair
  no_three h = eqb-false (field 31 30 word) 0b11 (neither (eqb (field 31 30 word) 0b11) _ h).0

  known_pair : field 26 26 word ≡ 0 → undefined_pair word ≡ false → field 31 30 word ≡ 0b01 → field 22 22 word ≡ 1
  unfolding undefined_pair
  known_pair b h e =
      let p = neither (eqb (field 31 30 word) 0b11) _ h in
      loading (eqb (field 22 22 word) 1) (not (eqb (field 24 23 word) 0b00)) refl (rw (eq-eqb (field 26 26 word) 0 b, eq-eqb (field 31 30 word) 0b01 e) at p.1)
    where
      loading : (a b : Bool) → eqb (field 22 22 word) 1 ≡ a → (true && not (a && b)) ≡ false → field 22 22 word ≡ 1
      loading true b e h = eqb-true (field 22 22 word) 1 e
      loading false b e h = absurd (never (sym h))

  bases_apart : field 26 26 word ≡ 0 → unpredictable_pair word ≡ false → eqb (field 23 23 word) 1 ≡ true
      → ¬ (field 9 5 word ≡ zero_slot (field 4 0 word)) × ¬ (field 9 5 word ≡ zero_slot (field 14 10 word))
  unfolding unpredictable_pair over_base base_is
  bases_apart g h b =
      let p = neither (eqb (field 23 23 word) 1 && (over_base (field 4 0 word) word || over_base (field 14 10 word) word)) _ h in
      let q : (over_base (field 4 0 word) word || over_base (field 14 10 word) word) ≡ false = rw b at p.0 in
      let z = neither (over_base (field 4 0 word) word) (over_base (field 14 10 word) word) q in
      (apart (field 9 5 word) (field 4 0 word) (part_lt 5 5 word) (rw g at z.0), apart (field 9 5 word) (field 14 10 word) (part_lt 5 5 word) (rw g at z.1))

  -- bit 23 is the low bit of the mode
  low_mode : (mode : ℕ) → field 24 23 word ≡ mode → field 23 23 word ≡ mode % 2
  unfolding part
  low_mode mode e = omega arith

  -- ---- by mode

  abbrev access_in : ℕ → ℕ → Access
  access_in v mode =
      let op = pair_at (v * 8 + field 31 30 word * 2 + field 22 22 word) in
      Moves (pair_transfer op (field 4 0 word) (field 14 10 word)) (paired_mode (mode_at mode) (field 9 5 word) (twos_complement (signed_of 64 (pair_bytes op) (field 21 15 word))))

  in_word_lem : (v : ℕ) → field 26 26 word ≡ v → word_access word ≡ family_access ((columns_of PairRow).family word) → word_access word ≡ access_in v (field 24 23 word)
  unfolding pair_access pair_in pair_op_in
  in_word_lem v kind e = e ∙ ap (λ (b : ℕ). access_in b (field 24 23 word)) kind

  module _ (g : field 26 26 word ≡ 0) (u : undefined_pair word ≡ false) (v : unpredictable_pair word ≡ false) where
    by : (wback postindex : Bool) → eqb (field 23 23 word) 1 ≡ wback → Paged w m word wback postindex (field 31 30 word) (field 22 22 word)
    by wback postindex h =
        all wback postindex h (λ e. (bases_apart g v (h ∙ e)).0) (λ e. (bases_apart g v (h ∙ e)).1) (field 31 30 word) (field 22 22 word) (part_lt 30 2 word) (part_lt 22 1 word) (no_three u) (known_pair g u)

    -- as the four encodings share it
    shared : (wback postindex : Bool) → eqb (field 23 23 word) 1 ≡ wback
        → word_access word ≡ access_by w m word wback postindex 0 (field 31 30 word) (field 22 22 word) (twos_complement (signed_of 64 (pair_bytes (pair_at (0 * 8 + field 31 30 word * 2 + field 22 22 word))) (field 21 15 word)))
        → Steps w m (page_of false PairRow word) word (paired wback postindex word (arm_of w m))
    unfolding paired
    shared wback true h e = by wback true h refl e
    shared wback false h e = by wback false h refl e

    modes : (mode : ℕ) → mode < 4 → field 24 23 word ≡ mode → word_access word ≡ access_in 0 mode → Steps w m (page_of false PairRow word) word (pair mode word (arm_of w m))
    unfolding pair mode_at part
    modes =
        four (λ mode. field 24 23 word ≡ mode → word_access word ≡ access_in 0 mode → Steps w m (page_of false PairRow word) word (pair mode word (arm_of w m)))
        (λ f e. shared false false (rw (low_mode 0 f)) e)
        (λ f e. shared true true (rw (low_mode 1 f)) e)
        (λ f e. shared false false (rw (low_mode 2 f)) e)
        (λ f e. shared true false (rw (low_mode 3 f)) e)

    pub pair_step : word_access word ≡ family_access ((columns_of PairRow).family word) → Steps w m (page_of false PairRow word) word (pair (field 24 23 word) word (arm_of w m))
    pair_step e = modes (field 24 23 word) (part_lt 23 2 word) refl (in_word_lem 0 g e)

  module _ (g : field 26 26 word ≡ 1) (u : undefined_pair word ≡ false) where
    vector_by : (wback postindex : Bool) → eqb (field 23 23 word) 1 ≡ wback → VectorPaged w m word wback postindex (field 31 30 word) (field 22 22 word)
    vector_by wback postindex h = all_vectors wback postindex h (field 31 30 word) (field 22 22 word) (part_lt 30 2 word) (part_lt 22 1 word) (no_three u)

    vector_modes : (mode : ℕ) → mode < 4 → field 24 23 word ≡ mode → word_access word ≡ access_in 1 mode → Steps w m (page_of true PairRow word) word (vector_pair mode word (arm_of w m))
    unfolding vector_pair vector_paired mode_at
    vector_modes =
        four (λ mode. field 24 23 word ≡ mode → word_access word ≡ access_in 1 mode → Steps w m (page_of true PairRow word) word (vector_pair mode word (arm_of w m)))
        (λ f e. vector_by false false (rw (low_mode 0 f)) refl e)
        (λ f e. vector_by true true (rw (low_mode 1 f)) refl e)
        (λ f e. vector_by false false (rw (low_mode 2 f)) refl e)
        (λ f e. vector_by true false (rw (low_mode 3 f)) refl e)

    pub vector_pair_step : word_access word ≡ family_access ((columns_of PairRow).family word) → Steps w m (page_of true PairRow word) word (vector_pair (field 24 23 word) word (arm_of w m))
    vector_pair_step e = vector_modes (field 24 23 word) (part_lt 23 2 word) refl (in_word_lem 1 g e)
