-- The pages of the ninth family: what a store-exclusive leaves, whatever the monitor says (`status_store`), and then every size.
-- Assumes nothing.
use Prim.Native.Nat.{ℕ, ◌+◌, ◌-◌, ◌*◌, ◌/◌, ◌^◌, ◌≤◌, ◌<◌}
use mathlib.Core.Path.{◌≡◌, refl, sym, ap, ◌∙◌}
use mathlib.Core.Bool.{Bool, true, false, ◌&&◌, ◌||◌, or-false}
use native.Mathlib.Nat.{add-zero}
use native.Mathlib.Omega.{arith}
use lib.Dec.{eqb}
use lib.ListN.{length, set}
use Rattle.bits.specs.Choice.{pick}
use Rattle.bits.specs.Fields.{field}
use Rattle.bits.specs.Bytes.{bytes_of}
use Rattle.bits.proofs.Parts.{Has, part_lt}
use Rattle.registers.specs.File.{zero_slot}
use Rattle.instruction.specs.declared.row.Row.TheVariants.{LoadExclusiveRow, StoreExclusiveRow, AcquireReleaseRow}
use Rattle.instruction.specs.Operations.{exclusive_at, size_at}
use Rattle.instruction.specs.Operands.{exclusive_bits, exclusive_op_in, exclusive_in, store_exclusive_in}
use Rattle.instruction.specs.Table.{columns_of}
use Rattle.access.specs.declared.transfer.Transfer.{Transfer}
use Rattle.access.specs.declared.Access.TheVariants.{Moves}
use Rattle.access.specs.Transfers.{monitored_transfer, exclusive_transfer}
use Rattle.access.specs.Addressings.{based}
use Rattle.access.specs.Accesses.{exclusive_access, store_exclusive_access, family_access, word_access}
use Rattle.access.proofs.Rows.{load_exclusive_transfer}
use Rattle.plan.specs.declared.window.Window.{Window}
use Rattle.plan.specs.Admission.{misaligned, unaligned}
use Rattle.machine.specs.Monitor.{matches, status_of, monitor_after, written_back, fails, made_of}
use Rattle.machine.specs.Rule.{move_rule}
use Rattle.machine.specs.Machine.{Machine, stored_bytes}
use Rattle.arm.specs.Pseudocode.{Arm, LOAD, STORE, ZeroExtend, Extend, Add, X, set_x, base, Mem, set_mem, Operation, hint, SetExclusiveMonitors, ClearExclusiveLocal, ExclusiveMonitorsPass, CheckSPAlignment, loads, stores, access, stores_exclusive, case}
use Rattle.arm.specs.Exclusive.{element_regsize, load_exclusive, store_exclusive}
use Rattle.arm.specs.AcquireRelease.{acquire_release}
use Rattle.arm.specs.Marks.{marks_of}
use Rattle.arm.specs.Pages.{page_of}
use Rattle.arm.specs.Choices.{misplaced, arm_of}
use Rattle.arm.proofs.Bits.{add_small, zero_extend}
use Rattle.arm.proofs.Places.{set_x_lem, set_mem_lem, mem_monitor}
use Rattle.arm.proofs.Marks.{single, status_marks}
use Rattle.arm.proofs.Steps.{most_bytes, Ready, Inside, Steps, faulty, same_block, access_step_lem}
use Rattle.arm.proofs.Singles.{two, four, store_memory, Placed, fit, fits, Form, zeros, one_load, one_store}
use Rattle.arm.proofs.Families.{never, strays, aligned_at, base_register, based_placed, based_form}

-- ---- a store-exclusive

module _ (w : Window) (m : Machine) (r : Ready w m) (word : ℕ) (stray : Bool) (address : ℕ)
    (p : Placed w m (page_of false StoreExclusiveRow word) word (based (field 9 5 word) 0 false (zero_slot (field 20 16 word))) true false stray address) where
  abbrev t : ℕ
  t = field 4 0 word

  abbrev rs : ℕ
  rs = field 20 16 word

  abbrev asked : Arm
  asked = ClearExclusiveLocal (arm_of w m)

  -- what the page leaves, if the monitor lets it pass and if not
  abbrev after : ℕ → Bool → Arm
  after k pass = pick pass (set_mem address k (X t (8 * k) (arm_of w m)) asked) asked

  abbrev left : ℕ → Bool → Arm
  left k pass = set_x rs 32 (ZeroExtend 1 32 (pick pass 0 1)) (after k pass)

  -- the machine's question to the monitor is the page's
  pass_is : (k : ℕ) → matches m.monitor address k ≡ ExclusiveMonitorsPass address k (arm_of w m)
  unfolding matches
  pass_is k = go (eqb m.monitor.address address) (eqb m.monitor.size k)
    where
      go : (a b : Bool) → pick a b false ≡ (a && b)
      go true b = refl
      go false b = refl

  module _ (k : ℕ) (h : Inside w address k) where
    after_registers : (pass : Bool) → (after k pass).registers ≡ m.values
    after_registers true = rw (set_mem_lem asked k address (X t (8 * k) (arm_of w m)) h.from h.upto)
    after_registers false = refl

    left_registers : (pass : Bool) → set m.values (zero_slot rs) (pick pass 0 1) ≡ (left k pass).registers
    left_registers pass =
        let len : length (after k pass).registers ≡ 64 = after_registers_length pass in
        rw (zero_extend 1 32 (pick pass 0 1) (omega arith) (bit pass), set_x_lem (after k pass) len rs 32 (pick pass 0 1) (omega arith) (status pass), after_registers pass)
      where
        after_registers_length : (pass : Bool) → length (after k pass).registers ≡ 64
        after_registers_length pass = rw (after_registers pass) r.real.registers

        bit : (pass : Bool) → pick pass 0 1 < 2 ^ 1
        bit true = omega arith
        bit false = omega arith

        status : (pass : Bool) → pick pass 0 1 < 2 ^ 32
        status true = omega arith
        status false = omega arith

    left_memory : (pass : Bool) → 0 < k
        → stored_bytes (made_of (single false true true false k k t) (pick pass 0 1)) (address - w.origin) m.values m.memory ≡ (left k pass).memory
    unfolding set_x X bytes_of fails
    left_memory true l = store_memory false asked r.real.registers k address h.from h.upto t l
    left_memory false l = refl

  left_monitor : (k : ℕ) (pass : Bool) → record { address = 0; size = 0 } ≡ (left k pass).monitor
  unfolding set_x
  left_monitor k true = sym (mem_monitor k address (X t (8 * k) (arm_of w m)) asked)
  left_monitor k false = refl

  left_marks : (k : ℕ) → w.origin ≤ address → (pass : Bool)
      → move_rule (made_of (single false true true false k k t) (pick pass 0 1)) (zero_slot rs) (address - w.origin) m.taints
      ≡ marks_of (page_of false StoreExclusiveRow word) true (pick pass 0 1) w.origin word address k m.taints
  unfolding fails
  left_marks k h true = status_marks (page_of false StoreExclusiveRow word) w.origin word address m.taints r.real.marks h refl refl refl k k false
  left_marks k h false = status_marks (page_of false StoreExclusiveRow word) w.origin word address m.taints r.real.marks h refl refl refl k k true

  -- with what the monitor says
  made : (k : ℕ) → 0 < k → k ≤ most_bytes → word_access word ≡ Moves (single false true true false k k t) (based (field 9 5 word) 0 false (zero_slot rs)) → (pass : Bool)
      → ExclusiveMonitorsPass address k (arm_of w m) ≡ pass → Steps w m (page_of false StoreExclusiveRow word) word (faulty m stray (access true address k (pick pass 0 1) (left k pass)))
  unfolding based status_of written_back monitor_after
  made k l q e pass f =
      access_step_lem w m r.top (page_of false StoreExclusiveRow word) word (single false true true false k k t) _ stray address k (pick pass 0 1) (left k pass)
      (record {
        access = e;
        target = refl;
        each = refl;
        total = add-zero k;
        mark = p.mark;
        stack = p.stack;
        pointer = p.pointer;
        first = p.first;
        block = p.block k l q;
        told = ap (λ (b : Bool). pick b 0 1) (pass_is k ∙ f);
        registers = λ h. left_registers k h pass;
        marks = λ h. left_marks k h.from pass;
        memory = λ h. left_memory k h pass l;
        monitor = left_monitor k pass;
      })
      true refl

  -- and as the page says it, with either status
  by : (k : ℕ) → 0 < k → k ≤ most_bytes → word_access word ≡ Moves (single false true true false k k t) (based (field 9 5 word) 0 false (zero_slot rs)) → (pass : Bool)
      → ExclusiveMonitorsPass address k (arm_of w m) ≡ pass → Steps w m (page_of false StoreExclusiveRow word) word (faulty m stray (stores_exclusive address k (pick pass 0 1) (left k pass)))
  by k l q e true f = made k l q e true f
  by k l q e false f = made k l q e false f

  pub status_store : (k : ℕ) → 0 < k → k ≤ most_bytes → word_access word ≡ Moves (single false true true false k k t) (based (field 9 5 word) 0 false (zero_slot rs))
      → let pass = ExclusiveMonitorsPass address k (arm_of w m) in
      Steps w m (page_of false StoreExclusiveRow word) word (faulty m stray (stores_exclusive address k (pick pass 0 1) (left k pass)))
  status_store k l q e = by k l q e (ExclusiveMonitorsPass address k (arm_of w m)) refl

-- ---- the base alone, and all sizes

module _ (w : Window) (m : Machine) (r : Ready w m) (word : ℕ) where
  abbrev s : Arm
  s = arm_of w m

  abbrev n : ℕ
  n = field 9 5 word

  size_lt : field 31 30 word < 4
  size_lt = part_lt 30 2 word

  alone_is : Add (base n s) 0 ≡ base n s
  alone_is =
      let b = (r.real.values n).0 (part_lt 5 5 word) in
      add_small (base n s) 0 (rw (base_register w m r (page_of false LoadExclusiveRow word) word) (omega arith)) ∙ add-zero (base n s)

  -- an exclusive access has an address that is a multiple of its bytes
  naturally : (k address : ℕ) → (misaligned false k address || unaligned true k address) ≡ misplaced (page_of false LoadExclusiveRow word).alignment address k
  unfolding misaligned unaligned
  naturally k address = aligned_at address k

  load_form : Form w m (page_of false LoadExclusiveRow word) word (based n 0 false 64) true false false (strays m n) (base n s) 0
  unfolding based
  load_form =
      record {
        placed = rw alone_is at (based_placed w m r (page_of false LoadExclusiveRow word) word 0 false 64 true false refl (λ k x p q. naturally k x));
        sum = refl;
        small = omega arith;
        written = refl;
        back = refl;
        status = refl;
        apart = λ h. absurd (never h);
      }

  store_placed : Placed w m (page_of false StoreExclusiveRow word) word (based n 0 false (zero_slot (field 20 16 word))) true false (strays m n) (base n s)
  store_placed = rw alone_is at (based_placed w m r (page_of false StoreExclusiveRow word) word 0 false (zero_slot (field 20 16 word)) true false refl (λ k x p q. naturally k x))

  other_form : Form w m (page_of false AcquireReleaseRow word) word (based n 0 false 64) false true false (strays m n) (base n s) (base n s)
  unfolding misaligned unaligned
  other_form =
      rw alone_is at (based_form w m r (page_of false AcquireReleaseRow word) word 0 false false true refl refl refl (λ h. absurd (never h)) (λ k x p q. rw or-false (same_block x k p q)))

  -- ---- load-exclusive

  abbrev load_page : ℕ → Operation
  load_page size =
      let elsize = 8 * 2 ^ size in
      let regsize = element_regsize elsize in
      let armed = SetExclusiveMonitors (base n s) (elsize / 8) s in
      CheckSPAlignment n s (loads (base n s) (elsize / 8) (set_x (field 4 0 word) regsize (ZeroExtend elsize regsize (Mem (base n s) (elsize / 8) armed)) armed))

  abbrev Loads : ℕ → Type 0
  Loads size =
      2 ^ field 31 30 word ≡ 2 ^ size → word_access word ≡ Moves (monitored_transfer false true (size_at size) (field 4 0 word)) (based n 0 false 64) → Steps w m (page_of false LoadExclusiveRow word) word (load_page size)

  all_loads : (size : ℕ) → size < 4 → Loads size
  unfolding monitored_transfer size_at
  all_loads =
      four Loads (λ x e. load 1 _ refl x e) (λ x e. load 2 _ refl x e) (λ x e. load 4 _ refl x e) (λ x e. load 8 _ refl x e)
    where
      load : (k width : ℕ) → fit k k width ≡ true → 2 ^ field 31 30 word ≡ k → word_access word ≡ Moves (single false true false false k k (field 4 0 word)) (based n 0 false 64)
          → Steps w m (page_of false LoadExclusiveRow word) word (CheckSPAlignment n s (loads (base n s) k (set_x (field 4 0 word) width (ZeroExtend (8 * k) width (Mem (base n s) k (SetExclusiveMonitors (base n s) k s))) (SetExclusiveMonitors (base n s) k s))))
      load k width h x e =
          let f = fits k k width h in
          one_load w m r (page_of false LoadExclusiveRow word) word _ true false false _ _ _ load_form refl k k width (Extend false (8 * k) width) f (zeros k width f.some) x e

  pub load_exclusive_step : Has word (columns_of LoadExclusiveRow).fixed → word_access word ≡ family_access ((columns_of LoadExclusiveRow).family word)
      → Steps w m (page_of false LoadExclusiveRow word) word (load_exclusive word (arm_of w m))
  unfolding load_exclusive exclusive_in exclusive_access
  load_exclusive_step h e = all_loads (field 31 30 word) size_lt refl (e ∙ ap (λ (t : Transfer). Moves t (based n 0 false 64)) (load_exclusive_transfer word h))

  -- ---- store-exclusive

  abbrev store_page : ℕ → Operation
  store_page size =
      let elsize = 8 * 2 ^ size in
      let address = base n s in
      let asked = ClearExclusiveLocal s in
      let pass = ExclusiveMonitorsPass address (elsize / 8) s in
      let status : ℕ = pick pass 0 1 in
      CheckSPAlignment n s (stores_exclusive address (elsize / 8) status (set_x (field 20 16 word) 32 (ZeroExtend 1 32 status) (pick pass (set_mem address (elsize / 8) (X (field 4 0 word) elsize s) asked) asked)))

  abbrev Stores : ℕ → Type 0
  Stores size =
      word_access word ≡ Moves (monitored_transfer true true (size_at size) (field 4 0 word)) (based n 0 false (zero_slot (field 20 16 word)))
      → Steps w m (page_of false StoreExclusiveRow word) word (store_page size)

  all_stores : (size : ℕ) → size < 4 → Stores size
  unfolding monitored_transfer size_at
  all_stores =
      let store = status_store w m r word (strays m n) (base n s) store_placed in
      four Stores (λ e. store 1 (omega arith) (omega arith) e) (λ e. store 2 (omega arith) (omega arith) e)
      (λ e. store 4 (omega arith) (omega arith) e) (λ e. store 8 (omega arith) (omega arith) e)

  pub store_exclusive_step : word_access word ≡ family_access ((columns_of StoreExclusiveRow).family word)
      → Steps w m (page_of false StoreExclusiveRow word) word (store_exclusive word (arm_of w m))
  unfolding store_exclusive store_exclusive_in store_exclusive_access
  store_exclusive_step e = all_stores (field 31 30 word) size_lt e

  -- ---- load-acquire and store-release

  abbrev other_page : ℕ → ℕ → Operation
  other_page L size =
      let elsize = 8 * 2 ^ size in
      let regsize = element_regsize elsize in
      case (pick (eqb L 1) LOAD STORE)
      (CheckSPAlignment n s (stores (base n s) (elsize / 8) (set_mem (base n s) (elsize / 8) (X (field 4 0 word) elsize s) s)))
      (CheckSPAlignment n s (loads (base n s) (elsize / 8) (set_x (field 4 0 word) regsize (ZeroExtend elsize regsize (Mem (base n s) (elsize / 8) s)) s)))
      hint

  abbrev Others : ℕ → ℕ → Type 0
  Others L size =
      2 ^ field 31 30 word ≡ 2 ^ size → word_access word ≡ Moves (exclusive_transfer (exclusive_at (5 + L * 2)) (size_at size) (field 4 0 word)) (based n 0 false 64)
      → Steps w m (page_of false AcquireReleaseRow word) word (other_page L size)

  all_others : (L size : ℕ) → L < 2 → size < 4 → Others L size
  unfolding exclusive_transfer exclusive_at monitored_transfer size_at
  all_others L size h k = two (λ L. Others L size) (released size k) (acquired size k) L h
    where
      released : (size : ℕ) → size < 4 → Others 0 size
      released =
          four (Others 0)
          (λ x e. one_store w m r (page_of false AcquireReleaseRow word) word _ true false _ _ _ other_form refl 1 1 (omega arith) (omega arith) e)
          (λ x e. one_store w m r (page_of false AcquireReleaseRow word) word _ true false _ _ _ other_form refl 2 2 (omega arith) (omega arith) e)
          (λ x e. one_store w m r (page_of false AcquireReleaseRow word) word _ true false _ _ _ other_form refl 4 4 (omega arith) (omega arith) e)
          (λ x e. one_store w m r (page_of false AcquireReleaseRow word) word _ true false _ _ _ other_form refl 8 8 (omega arith) (omega arith) e)

      acquired : (size : ℕ) → size < 4 → Others 1 size
      acquired = four (Others 1) (λ x e. load 1 _ refl x e) (λ x e. load 2 _ refl x e) (λ x e. load 4 _ refl x e) (λ x e. load 8 _ refl x e)
        where
          load : (k width : ℕ) → fit k k width ≡ true → 2 ^ field 31 30 word ≡ k → word_access word ≡ Moves (single false false false true k k (field 4 0 word)) (based n 0 false 64)
              → Steps w m (page_of false AcquireReleaseRow word) word (CheckSPAlignment n s (loads (base n s) k (set_x (field 4 0 word) width (ZeroExtend (8 * k) width (Mem (base n s) k s)) s)))
          load k width h x e =
              let f = fits k k width h in
              one_load w m r (page_of false AcquireReleaseRow word) word _ false true false _ _ _ other_form refl k k width (Extend false (8 * k) width) f (zeros k width f.some) x e

  pub acquire_release_step : field 23 23 word ≡ 1 → field 15 15 word ≡ 1 → word_access word ≡ family_access ((columns_of AcquireReleaseRow).family word)
      → Steps w m (page_of false AcquireReleaseRow word) word (acquire_release word (arm_of w m))
  unfolding acquire_release exclusive_op_in exclusive_in exclusive_access
  acquire_release_step h k e =
      let code : exclusive_bits word ≡ 5 + field 22 22 word * 2 = omega (arith, h, k) in
      all_others (field 22 22 word) (field 31 30 word) (part_lt 22 1 word) size_lt refl
      (e ∙ ap (λ (c : ℕ). Moves (exclusive_transfer (exclusive_at c) (size_at (field 31 30 word)) (field 4 0 word)) (based n 0 false 64)) code)
