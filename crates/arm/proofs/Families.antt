-- The pages of one register, each with its family: the two form the same address (`based_form`, `index_form`,
-- `literal_form`), and then `all_sizes` says the rest. Assumes nothing.
use Prim.Native.Nat.{ℕ, ◌+◌, ◌*◌, ◌%◌, ◌^◌, ◌≤◌, ◌<◌}
use mathlib.Core.Path.{◌≡◌, refl, sym, ap, subst, ◌∙◌}
use mathlib.Core.Bool.{Bool, true, false, not, ◌&&◌, ◌||◌, or-false}
use mathlib.Core.List.{List}
use native.Mathlib.Nat.{mod-eq_of_lt, mod-add-div}
use native.Mathlib.Omega.{arith}
use lib.Dec.{eqb}
use lib.ListN.{length, get_or, get_or-eq_default}
use borrow.Author.Tests.{eqb-true, eqb-false, eq-eqb, ne_eqb}
use Rattle.bits.specs.Choice.{pick, any}
use Rattle.bits.specs.Fields.{part, field}
use Rattle.bits.specs.Signed.{signed_of, twos_complement}
use Rattle.bits.proofs.Choices.{both}
use Rattle.bits.proofs.Parts.{part_lt}
use Rattle.memory.specs.Taints.{tainted}
use Rattle.registers.specs.File.{zero_slot, taint_in}
use Rattle.bits.specs.Extension.{extended_of}
use Rattle.instruction.specs.declared.row.Row.TheVariants.{LiteralRow, OrderedRow, UnscaledRow, PostRow, PreRow, RegisterRow, UnsignedRow}
use Rattle.instruction.specs.Operations.{sized_at, scale_of, literal_at}
use Rattle.instruction.specs.Undefined.{size_opc, undefined_codes, undefined_size, undefined_prefetch, undefined_option, undefined_literal}
use Rattle.instruction.specs.Unpredictable.{base_is, over_base, unpredictable_base}
use Rattle.instruction.specs.Operands.{sized_in, literal_op_in, literal_in, signed_in, index_in, unsigned_in}
use Rattle.instruction.specs.Table.{columns_of}
use Rattle.instruction.proofs.Rows.{prefetch_no, option_no}
use Rattle.access.specs.declared.addressing.Addressing.{Addressing}
use Rattle.access.specs.declared.Access.{Access}
use Rattle.access.specs.declared.Access.TheVariants.{Moves}
use Rattle.access.specs.Transfers.{slot_of, literal_transfer}
use Rattle.access.specs.Addressings.{based, shift_of, indexed_mode, literal_mode}
use Rattle.access.specs.Accesses.{sized_access, literal_moves, literal_access, family_access, word_access}
use Rattle.plan.specs.declared.window.Window.{Window}
use Rattle.plan.specs.Operands.{used_of}
use Rattle.plan.specs.Address.{sum_of, index_of, shifted_of}
use Rattle.plan.specs.Admission.{misaligned, unaligned}
use Rattle.plan.specs.Plans.{misaligned_stack}
use Rattle.machine.specs.Machine.{Machine, operands_of}
use Rattle.arm.specs.Pseudocode.{Arm, MemOp, LOAD, STORE, PREFETCH, Concat, SignExtend, ZeroExtend, LSL, Add, X, set_x, set_vec, base, Mem, ExtendReg, Align, Operation, hint, loads, case}
use Rattle.arm.specs.Unscaled.{unscaled}
use Rattle.arm.specs.Ordered.{ordered}
use Rattle.arm.specs.Immediate.{immediate, post_index, pre_index, unsigned}
use Rattle.arm.specs.Indexed.{indexed}
use Rattle.arm.specs.Literal.{literal}
use Rattle.arm.specs.VectorImmediate.{vector_immediate, vector_scale, vector_post_index, vector_pre_index, vector_unsigned}
use Rattle.arm.specs.VectorUnscaled.{vector_unscaled}
use Rattle.arm.specs.VectorIndexed.{vector_indexed}
use Rattle.arm.specs.VectorLiteral.{vector_literal_size, vector_literal}
use Rattle.arm.specs.Marks.{any_marked}
use Rattle.arm.specs.Pages.{Page, opc_extent, page_of}
use Rattle.arm.specs.Choices.{marked, misplaced, arm_of}
use Rattle.arm.proofs.Conditions.{signed_double, by_codes, by_codes_prefetch, by_literal}
use Rattle.arm.proofs.Bits.{add_is, add_lt, imm9_is, imm12_is, imm19_is, index_is, extended_is}
use Rattle.arm.proofs.Places.{slot, numbers, vector_slot, set_r, base_is_lem, x_is}
use Rattle.arm.proofs.Marks.{marks_at_lem, base_marked, index_marked}
use Rattle.arm.proofs.Steps.{most_bytes, Ready, Steps, hints_step, same_block}
use Rattle.arm.proofs.Singles.{four, Fits, fits, Placed, Form, one_load, extended_none, all_sizes, all_vectors}

-- ---- the stack pointer

-- whether register n is SP, and not a multiple of 16
abbrev pub strays : Machine → ℕ → Bool
strays m n = eqb n 31 && not (eqb (get_or m.values 31 0) (Align (get_or m.values 31 0) 16))

-- a number is a multiple if nothing is left above the largest multiple below it
split_at : (left most x : ℕ) → left + most ≡ x → (a b : Bool) → eqb left 0 ≡ a → eqb x most ≡ b → not a ≡ not b
split_at left most x s true true e f = refl
split_at left most x s false false e f = refl
split_at left most x s true false e f = absurd (eqb-false x most f (omega (arith, eqb-true left 0 e)))
split_at left most x s false true e f = absurd (eqb-false left 0 e (omega (arith, eqb-true x most f)))

pub aligned_at : (x k : ℕ) → not (eqb (x % k) 0) ≡ not (eqb x (Align x k))
aligned_at x k = split_at (x % k) (Align x k) x (mod-add-div x k) _ _ refl refl

stack_at : (m : Machine) (n : ℕ) (b : Bool) → eqb n 31 ≡ b → pick b (not (eqb (get_or m.values n 0 % 16) 0)) false ≡ (b && not (eqb (get_or m.values 31 0) (Align (get_or m.values 31 0) 16)))
stack_at m n true e = rw (eqb-true n 31 e) (aligned_at (get_or m.values 31 0) 16)
stack_at m n false e = refl

stack_is : (m : Machine) (n : ℕ) → misaligned_stack n (get_or m.values n 0) ≡ strays m n
unfolding misaligned_stack
stack_is m n = stack_at m n (eqb n 31) refl

stack_pointer : (m : Machine) (n : ℕ) → strays m n ≡ true → get_or m.values n 0 ≡ get_or m.values 31 0
stack_pointer m n h = ap (λ (k : ℕ). get_or m.values k 0) (eqb-true n 31 (both (eqb n 31) _ h).0)

-- ---- what the tests of a word say

pub never : ◌≡◌ {A = Bool} false true → ⊥
never e = let z : ◌≡◌ {A = ℕ} 0 1 = cc in omega arith

-- a base that is not the register t: its slot is another
pub apart : (n t : ℕ) → n < numbers → (not (eqb n 31) && eqb n t) ≡ false → ¬ (n ≡ zero_slot t)
apart n t l h e = go (eqb t 31) refl e
  where
    go : (b : Bool) → eqb t 31 ≡ b → n ≡ pick b 64 t → ⊥
    go true f e = omega arith
    go false f e =
        let x : eqb n 31 ≡ false = ne_eqb n 31 (λ g. eqb-false t 31 f (sym e ∙ g)) in
        let y : ◌≡◌ {A = Bool} true false = rw (x, eq-eqb n t e) at h in
        never (sym y)

-- one of two, in the machine's words and in 01's
either : (a b : Bool) → pick a true b ≡ (a || b)
either true b = refl
either false b = refl

module _ (w : Window) (m : Machine) (r : Ready w m) (l : Page) (word : ℕ) where
  abbrev s : Arm
  s = arm_of w m

  abbrev n : ℕ
  n = field 9 5 word

  pub base_register : base n s ≡ get_or m.values n 0
  base_register = base_is_lem s r.real.registers n ((r.real.values n).0 (part_lt 5 5 word))

  -- ---- a base and an offset

  module _ (offset : ℕ) (post : Bool) (written : ℕ) where
    abbrev a : Addressing
    a = based n offset post written

    based_sum : sum_of a (operands_of a m) ≡ Add (base n s) offset
    unfolding based sum_of shifted_of index_of
    based_sum = rw (base_register, add_is, get_or-eq_default m.values 0 {n = 64} (omega (arith, r.real.registers))) (omega arith)

    based_mark : (operands_of a m).tainted ≡ (any_marked 8 (get_or m.taints.registers n 0) || false)
    unfolding based used_of
    based_mark =
        rw (get_or-eq_default m.taints.registers 0 {n = 64} (omega (arith, r.real.marks)), base_marked (get_or m.taints.registers n 0) ((r.real.marked n).0 (part_lt 5 5 word)))
        (either (any_marked 8 (get_or m.taints.registers n 0)) false)

    pub based_placed : (exclusive ordered : Bool) → (any_marked 8 (get_or m.taints.registers n 0) || false) ≡ marked l word m
        → ((k address : ℕ) → 0 < k → k ≤ most_bytes → (misaligned ordered k address || unaligned exclusive k address) ≡ misplaced l.alignment address k)
        → Placed w m l word a exclusive ordered (strays m n) (pick post (base n s) (Add (base n s) offset))
    unfolding based
    based_placed exclusive ordered e q =
        record {
          mark = based_mark ∙ e;
          stack = stack_is m n;
          pointer = stack_pointer m n;
          first = ap (λ (x : ℕ). pick post x (sum_of a (operands_of a m))) (sym base_register) ∙ ap (λ (x : ℕ). pick post (base n s) x) based_sum;
          block = λ k. q k _;
        }

  module _ (offset : ℕ) (post wback : Bool) where
    pub based_form : (ordered : Bool) → l.wback ≡ wback → l.status ≡ false
        → (any_marked 8 (get_or m.taints.registers n 0) || false) ≡ marked l word m
        → (wback ≡ true → ¬ (n ≡ slot l.vector (field 4 0 word)))
        → ((k address : ℕ) → 0 < k → k ≤ most_bytes → (misaligned ordered k address || unaligned false k address) ≡ misplaced l.alignment address k)
        → Form w m l word (based n offset post (pick wback n 64)) false ordered wback (strays m n) (pick post (base n s) (Add (base n s) offset)) (Add (base n s) offset)
    unfolding based
    based_form ordered b c e p q =
        record {
          placed = based_placed offset post (pick wback n 64) false ordered e q;
          sum = based_sum offset post (pick wback n 64);
          small = add_lt (base n s) offset;
          written = refl;
          back = b;
          status = c;
          apart = p;
        }

-- ---- what the size and opc of an operation give back

scale_back : (size opc : ℕ) → size < 4 → opc < 4 → any (eqb (0 * 16 + size * 4 + opc)) undefined_codes ≡ false → scale_of (sized_at (0 * 16 + size * 4 + opc)) ≡ size
unfolding sized_at
scale_back size opc h k =
    four (λ size. any (eqb (0 * 16 + size * 4 + opc)) undefined_codes ≡ false → scale_of (sized_at (0 * 16 + size * 4 + opc)) ≡ size)
    (four (λ opc. any (eqb (0 * 16 + 0 * 4 + opc)) undefined_codes ≡ false → scale_of (sized_at (0 * 16 + 0 * 4 + opc)) ≡ 0) (λ u. refl) (λ u. refl) (λ u. refl) (λ u. refl) opc k)
    (four (λ opc. any (eqb (0 * 16 + 1 * 4 + opc)) undefined_codes ≡ false → scale_of (sized_at (0 * 16 + 1 * 4 + opc)) ≡ 1) (λ u. refl) (λ u. refl) (λ u. refl) (λ u. refl) opc k)
    (four (λ opc. any (eqb (0 * 16 + 2 * 4 + opc)) undefined_codes ≡ false → scale_of (sized_at (0 * 16 + 2 * 4 + opc)) ≡ 2) (λ u. refl) (λ u. refl) (λ u. refl) (λ u. absurd (never (sym u))) opc k)
    (four (λ opc. any (eqb (0 * 16 + 3 * 4 + opc)) undefined_codes ≡ false → scale_of (sized_at (0 * 16 + 3 * 4 + opc)) ≡ 3) (λ u. refl) (λ u. refl) (λ u. refl) (λ u. absurd (never (sym u))) opc k)
    size h

vector_back : (size opc : ℕ) → size < 4 → opc < 4 → any (eqb (1 * 16 + size * 4 + opc)) undefined_codes ≡ false
    → (scale_of (sized_at (1 * 16 + size * 4 + opc)) ≡ vector_scale size opc) × (vector_scale size opc < 5)
unfolding sized_at part
vector_back size opc h k =
    four (λ size. any (eqb (1 * 16 + size * 4 + opc)) undefined_codes ≡ false → (scale_of (sized_at (1 * 16 + size * 4 + opc)) ≡ vector_scale size opc) × (vector_scale size opc < 5))
    (four (λ opc. any (eqb (1 * 16 + 0 * 4 + opc)) undefined_codes ≡ false → (scale_of (sized_at (1 * 16 + 0 * 4 + opc)) ≡ vector_scale 0 opc) × (vector_scale 0 opc < 5))
    (λ u. (refl, omega arith)) (λ u. (refl, omega arith)) (λ u. (refl, omega arith)) (λ u. (refl, omega arith)) opc k)
    (four (λ opc. any (eqb (1 * 16 + 1 * 4 + opc)) undefined_codes ≡ false → (scale_of (sized_at (1 * 16 + 1 * 4 + opc)) ≡ vector_scale 1 opc) × (vector_scale 1 opc < 5))
    (λ u. (refl, omega arith)) (λ u. (refl, omega arith)) (λ u. absurd (never (sym u))) (λ u. absurd (never (sym u))) opc k)
    (four (λ opc. any (eqb (1 * 16 + 2 * 4 + opc)) undefined_codes ≡ false → (scale_of (sized_at (1 * 16 + 2 * 4 + opc)) ≡ vector_scale 2 opc) × (vector_scale 2 opc < 5))
    (λ u. (refl, omega arith)) (λ u. (refl, omega arith)) (λ u. absurd (never (sym u))) (λ u. absurd (never (sym u))) opc k)
    (four (λ opc. any (eqb (1 * 16 + 3 * 4 + opc)) undefined_codes ≡ false → (scale_of (sized_at (1 * 16 + 3 * 4 + opc)) ≡ vector_scale 3 opc) × (vector_scale 3 opc < 5))
    (λ u. (refl, omega arith)) (λ u. (refl, omega arith)) (λ u. absurd (never (sym u))) (λ u. absurd (never (sym u))) opc k)
    size h

module _ (w : Window) (m : Machine) (r : Ready w m) (word : ℕ) where
  size_lt : field 31 30 word < 4
  size_lt = part_lt 30 2 word

  opc_lt : field 23 22 word < 4
  opc_lt = part_lt 22 2 word

  t_lt : field 4 0 word < numbers
  t_lt = part_lt 0 5 word

  abbrev size : ℕ
  size = field 31 30 word

  abbrev opc : ℕ
  opc = field 23 22 word

  abbrev t : ℕ
  t = field 4 0 word

  -- the slot of a vector register, and that it is no base
  pub behind : (n : ℕ) → n < numbers → vector_slot n ≡ slot true n
  behind n h = omega arith

  pub no_base : (n : ℕ) → ¬ (field 9 5 word ≡ slot true n)
  no_base n e = omega (arith, part_lt 5 5 word)

  -- by bit 26
  module _ (v : ℕ) (kind : field 26 26 word ≡ v) where
    code_is : size_opc word ≡ v * 16 + size * 4 + opc
    code_is = ap (λ (b : ℕ). b * 16 + size * 4 + opc) kind

    known : undefined_size word ≡ false → any (eqb (v * 16 + size * 4 + opc)) undefined_codes ≡ false
    known u = sym (by_codes word v kind) ∙ u

    sized_by : (ordered : Bool) (a : Addressing) → word_access word ≡ sized_access (sized_in word) t ordered a
        → word_access word ≡ sized_access (sized_at (v * 16 + size * 4 + opc)) t ordered a
    unfolding sized_in
    sized_by ordered a e = e ∙ ap (λ (k : ℕ). sized_access (sized_at k) t ordered a) code_is

  abbrev offset9 : ℕ
  offset9 = SignExtend 9 64 (field 20 12 word)

  offset9_is : offset9 ≡ twos_complement (signed_of 256 1 (field 20 12 word))
  offset9_is = imm9_is (field 20 12 word) (part_lt 12 9 word)

  pub unscaled_step : field 26 26 word ≡ 0 → undefined_size word ≡ false → word_access word ≡ family_access ((columns_of UnscaledRow).family word)
      → Steps w m (page_of false UnscaledRow word) word (unscaled word (arm_of w m))
  unfolding unscaled misaligned unaligned signed_in
  unscaled_step b u e =
      let form = based_form w m r (page_of false UnscaledRow word) word offset9 false false false refl refl refl (λ h. absurd (never h)) (λ k x p q. refl) in
      all_sizes w m r (page_of false UnscaledRow word) word _ false false _ _ _ form refl refl size opc size_lt opc_lt refl (known 0 b u) (sized_by 0 b _ _ (rw offset9_is e))

  pub vector_unscaled_step : field 26 26 word ≡ 1 → undefined_size word ≡ false → word_access word ≡ family_access ((columns_of UnscaledRow).family word)
      → Steps w m (page_of true UnscaledRow word) word (vector_unscaled word (arm_of w m))
  unfolding vector_unscaled misaligned unaligned signed_in
  vector_unscaled_step b u e =
      let form = based_form w m r (page_of true UnscaledRow word) word offset9 false false false refl refl refl (λ h. absurd (never h)) (λ k x p q. refl) in
      all_vectors w m r (page_of true UnscaledRow word) word _ false false _ _ _ form refl (behind t t_lt) size opc size_lt opc_lt refl (known 1 b u) (sized_by 1 b _ _ (rw offset9_is e))

  -- what has no prefetch, where a doubleword is never signed
  no_hint : (signed double : Bool) (other : MemOp) → (signed && double) ≡ false → pick signed LOAD other ≡ pick signed (pick double PREFETCH LOAD) other
  no_hint true true other h = absurd (never (sym h))
  no_hint true false other h = refl
  no_hint false double other h = refl

  pub ordered_step : field 26 26 word ≡ 0 → undefined_prefetch word ≡ false → word_access word ≡ family_access ((columns_of OrderedRow).family word)
      → (vector : Bool) → Steps w m (page_of vector OrderedRow word) word (ordered word (arm_of w m))
  unfolding ordered misaligned unaligned signed_in
  ordered_step b u e vector =
      let form = based_form w m r (page_of vector OrderedRow word) word offset9 false false true refl refl refl (λ h. absurd (never h)) (λ k x p q. rw or-false (same_block x k p q)) in
      let other : MemOp = pick (eqb (field 0 0 opc) 1) LOAD STORE in
      rw (no_hint (eqb (field 1 1 opc) 1) (eqb size 0b11) other (signed_double size opc size_lt opc_lt (sym (by_codes_prefetch word 0 b) ∙ u)))
      (all_sizes w m r (page_of vector OrderedRow word) word _ true false _ _ _ form refl refl size opc size_lt opc_lt refl (known 0 b (prefetch_no word u).0) (sized_by 0 b _ _ (rw offset9_is e)))

  -- with writeback
  base_apart : field 26 26 word ≡ 0 → over_base t word ≡ false → ¬ (field 9 5 word ≡ zero_slot t)
  unfolding over_base base_is
  base_apart b h = apart (field 9 5 word) t (part_lt 5 5 word) (rw b at h)

  pub post_step : field 26 26 word ≡ 0 → undefined_prefetch word ≡ false → unpredictable_base word ≡ false
      → word_access word ≡ family_access ((columns_of PostRow).family word) → Steps w m (page_of false PostRow word) word (post_index word (arm_of w m))
  unfolding immediate misaligned unaligned signed_in
  post_step b u c e =
      let form = based_form w m r (page_of false PostRow word) word offset9 true true false refl refl refl (λ h. base_apart b c) (λ k x p q. refl) in
      all_sizes w m r (page_of false PostRow word) word _ false true _ _ _ form refl refl size opc size_lt opc_lt refl (known 0 b (prefetch_no word u).0) (sized_by 0 b _ _ (rw offset9_is e))

  pub vector_post_step : field 26 26 word ≡ 1 → undefined_prefetch word ≡ false
      → word_access word ≡ family_access ((columns_of PostRow).family word) → Steps w m (page_of true PostRow word) word (vector_post_index word (arm_of w m))
  unfolding vector_immediate misaligned unaligned signed_in
  vector_post_step b u e =
      let form = based_form w m r (page_of true PostRow word) word offset9 true true false refl refl refl (λ h. no_base t) (λ k x p q. refl) in
      all_vectors w m r (page_of true PostRow word) word _ false true _ _ _ form refl (behind t t_lt) size opc size_lt opc_lt refl (known 1 b (prefetch_no word u).0) (sized_by 1 b _ _ (rw offset9_is e))

  pub pre_step : field 26 26 word ≡ 0 → undefined_prefetch word ≡ false → unpredictable_base word ≡ false
      → word_access word ≡ family_access ((columns_of PreRow).family word) → Steps w m (page_of false PreRow word) word (pre_index word (arm_of w m))
  unfolding immediate misaligned unaligned signed_in
  pre_step b u c e =
      let form = based_form w m r (page_of false PreRow word) word offset9 false true false refl refl refl (λ h. base_apart b c) (λ k x p q. refl) in
      all_sizes w m r (page_of false PreRow word) word _ false true _ _ _ form refl refl size opc size_lt opc_lt refl (known 0 b (prefetch_no word u).0) (sized_by 0 b _ _ (rw offset9_is e))

  pub vector_pre_step : field 26 26 word ≡ 1 → undefined_prefetch word ≡ false
      → word_access word ≡ family_access ((columns_of PreRow).family word) → Steps w m (page_of true PreRow word) word (vector_pre_index word (arm_of w m))
  unfolding vector_immediate misaligned unaligned signed_in
  vector_pre_step b u e =
      let form = based_form w m r (page_of true PreRow word) word offset9 false true false refl refl refl (λ h. no_base t) (λ k x p q. refl) in
      all_vectors w m r (page_of true PreRow word) word _ false true _ _ _ form refl (behind t t_lt) size opc size_lt opc_lt refl (known 1 b (prefetch_no word u).0) (sized_by 1 b _ _ (rw offset9_is e))

  -- the scale of an operation is that of its word
  general_scale : field 26 26 word ≡ 0 → undefined_size word ≡ false → scale_of (sized_in word) ≡ size
  unfolding sized_in
  general_scale b u = ap (λ (k : ℕ). scale_of (sized_at k)) (code_is 0 b) ∙ scale_back size opc size_lt opc_lt (known 0 b u)

  vector_scale_lem : field 26 26 word ≡ 1 → undefined_size word ≡ false → scale_of (sized_in word) ≡ vector_scale size opc
  unfolding sized_in
  vector_scale_lem b u = ap (λ (k : ℕ). scale_of (sized_at k)) (code_is 1 b) ∙ (vector_back size opc size_lt opc_lt (known 1 b u)).0

  scaled12 : (scale : ℕ) → scale < 5 → scale_of (sized_in word) ≡ scale → field 21 10 word * 2 ^ scale_of (sized_in word) ≡ LSL (ZeroExtend 12 64 (field 21 10 word)) scale
  scaled12 scale l e = rw e (sym (imm12_is (field 21 10 word) scale (part_lt 10 12 word) l))

  pub unsigned_step : field 26 26 word ≡ 0 → undefined_size word ≡ false → word_access word ≡ family_access ((columns_of UnsignedRow).family word)
      → Steps w m (page_of false UnsignedRow word) word (unsigned word (arm_of w m))
  unfolding immediate misaligned unaligned unsigned_in
  unsigned_step b u e =
      let offset : ℕ = LSL (ZeroExtend 12 64 (field 21 10 word)) size in
      let l : size < 5 = omega (arith, size_lt) in
      let form = based_form w m r (page_of false UnsignedRow word) word offset false false false refl refl refl (λ h. absurd (never h)) (λ k x p q. refl) in
      all_sizes w m r (page_of false UnsignedRow word) word _ false false _ _ _ form refl refl size opc size_lt opc_lt refl (known 0 b u)
      (sized_by 0 b _ _ (rw (← scaled12 size l (general_scale b u)) e))

  pub vector_unsigned_step : field 26 26 word ≡ 1 → undefined_size word ≡ false → word_access word ≡ family_access ((columns_of UnsignedRow).family word)
      → Steps w m (page_of true UnsignedRow word) word (vector_unsigned word (arm_of w m))
  unfolding vector_immediate misaligned unaligned unsigned_in
  vector_unsigned_step b u e =
      let scale = vector_scale size opc in
      let offset : ℕ = LSL (ZeroExtend 12 64 (field 21 10 word)) scale in
      let l : scale < 5 = (vector_back size opc size_lt opc_lt (known 1 b u)).1 in
      let form = based_form w m r (page_of true UnsignedRow word) word offset false false false refl refl refl (λ h. absurd (never h)) (λ k x p q. refl) in
      all_vectors w m r (page_of true UnsignedRow word) word _ false false _ _ _ form refl (behind t t_lt) size opc size_lt opc_lt refl (known 1 b u)
      (sized_by 1 b _ _ (rw (← scaled12 scale l (vector_scale_lem b u)) e))

  -- ---- a base and an index

  abbrev i : ℕ
  i = field 20 16 word

  abbrev option : ℕ
  option = field 15 13 word

  abbrev shifted : ℕ → ℕ
  shifted scale = pick (eqb (field 12 12 word) 1) scale 0

  shifted_lt : (scale : ℕ) → scale < 5 → shifted scale < 5
  shifted_lt scale h = go (eqb (field 12 12 word) 1)
    where
      go : (b : Bool) → pick b scale 0 < 5
      go true = h
      go false = omega arith

  abbrev indexing_by : ℕ → Addressing
  indexing_by scale =
      record {
        relative = false;
        base = field 9 5 word;
        offset = 0;
        index = zero_slot i;
        option = option;
        shift = shifted scale;
        post = false;
        written = 64;
      }

  option_set : undefined_option word ≡ false → ¬ (field 1 1 option ≡ 0)
  unfolding part
  option_set h z = eqb-false (field 14 14 word) 0 (option_no word h).1 (omega arith)

  -- the number of an index, of either plane
  index_below : (xs : List ℕ) → length xs ≡ 64 → (get_or xs i 0 < 2 ^ 64) → get_or xs (zero_slot i) 0 < 2 ^ 64
  index_below xs e h = go (eqb i 31)
    where
      go : (t : Bool) → get_or xs (pick t 64 i) 0 < 2 ^ 64
      go true = rw (get_or-eq_default xs 0 {n = 64} (omega (arith, e))) (omega arith)
      go false = h

  index_x : X i 64 (arm_of w m) ≡ get_or m.values (zero_slot i) 0
  index_x = x_is (arm_of w m) r.real.registers i 64 (omega arith) ∙ mod-eq_of_lt (index_below m.values r.real.registers ((r.real.values i).0 (part_lt 16 5 word)))

  module _ (scale : ℕ) (small : scale < 5) (vector : Bool) where
    abbrev indexing : Addressing
    indexing = indexing_by scale

    index_sum : undefined_option word ≡ false
        → sum_of indexing (operands_of indexing m) ≡ Add (base (field 9 5 word) (arm_of w m)) (ExtendReg i option (shifted scale) (arm_of w m))
    unfolding sum_of shifted_of
    index_sum u =
        rw (base_register w m r (page_of vector RegisterRow word) word, index_is i (arm_of w m) option (shifted scale) (part_lt 13 3 word) (option_set u) (shifted_lt scale small), index_x, add_is) (omega arith)

    index_mark : (operands_of indexing m).tainted ≡ marked (page_of vector RegisterRow word) word m
    index_mark =
        let u = m.taints.registers in
        either (taint_in u (field 9 5 word)) (tainted (used_of option (get_or u (zero_slot i) 0)))
        ∙ rw (base_marked (get_or u (field 9 5 word) 0) ((r.real.marked (field 9 5 word)).0 (part_lt 5 5 word)), index_marked option (get_or u (zero_slot i) 0) (index_below u r.real.marks ((r.real.marked i).0 (part_lt 16 5 word))), marks_at_lem u r.real.marks i)

    index_form : undefined_option word ≡ false
        → let address = Add (base (field 9 5 word) (arm_of w m)) (ExtendReg i option (shifted scale) (arm_of w m)) in
        Form w m (page_of vector RegisterRow word) word indexing false false false (strays m (field 9 5 word)) address address
    unfolding misaligned unaligned
    index_form u =
        record {
          placed =
              record {
                mark = index_mark;
                stack = stack_is m (field 9 5 word);
                pointer = stack_pointer m (field 9 5 word);
                first = index_sum u;
                block = λ k p q. refl;
              };
          sum = index_sum u;
          small = add_lt _ _;
          written = refl;
          back = refl;
          status = refl;
          apart = λ h. absurd (never h);
        }

  index_by : (scale : ℕ) → scale_of (sized_in word) ≡ scale → word_access word ≡ sized_access (sized_in word) t false (indexing_by (scale_of (sized_in word)))
      → word_access word ≡ sized_access (sized_in word) t false (indexing_by scale)
  index_by scale x e = e ∙ ap (λ (k : ℕ). sized_access (sized_in word) t false (indexing_by k)) x

  pub indexed_step : field 26 26 word ≡ 0 → undefined_option word ≡ false → word_access word ≡ family_access ((columns_of RegisterRow).family word)
      → Steps w m (page_of false RegisterRow word) word (indexed word (arm_of w m))
  unfolding indexed index_in indexed_mode shift_of
  indexed_step b u e =
      let p = option_no word u in
      let l : size < 5 = omega (arith, size_lt) in
      all_sizes w m r (page_of false RegisterRow word) word (indexing_by size) false false _ _ _ (index_form size l false u) refl refl size opc size_lt opc_lt refl (known 0 b p.0)
      (sized_by 0 b _ _ (index_by size (general_scale b p.0) e))

  pub vector_indexed_step : field 26 26 word ≡ 1 → undefined_option word ≡ false → word_access word ≡ family_access ((columns_of RegisterRow).family word)
      → Steps w m (page_of true RegisterRow word) word (vector_indexed word (arm_of w m))
  unfolding vector_indexed index_in indexed_mode shift_of
  vector_indexed_step b u e =
      let p = option_no word u in
      let scale = vector_scale size opc in
      let l : scale < 5 = (vector_back size opc size_lt opc_lt (known 1 b p.0)).1 in
      all_vectors w m r (page_of true RegisterRow word) word (indexing_by scale) false false _ _ _ (index_form scale l true u) refl (behind t t_lt) size opc size_lt opc_lt refl (known 1 b p.0)
      (sized_by 1 b _ _ (index_by scale (vector_scale_lem b p.0) e))

  -- ---- the program counter and an offset

  abbrev offset19 : ℕ
  offset19 = SignExtend 21 64 (Concat (field 23 5 word) 2 0b00)

  literal_sum : (offset : ℕ) → sum_of (literal_mode offset) (operands_of (literal_mode offset) m) ≡ Add m.pc offset
  unfolding literal_mode sum_of shifted_of index_of
  literal_sum offset = rw (add_is, get_or-eq_default m.values 0 {n = 64} (omega (arith, r.real.registers))) (omega arith)

  literal_form : (vector : Bool) (offset : ℕ) → Form w m (page_of vector LiteralRow word) word (literal_mode offset) false false false false (Add m.pc offset) (Add m.pc offset)
  unfolding literal_mode misaligned unaligned misaligned_stack used_of
  literal_form vector offset =
      record {
        placed =
            record {
              mark = rw (get_or-eq_default m.taints.registers 0 {n = 64} (omega (arith, r.real.marks)));
              stack = refl;
              pointer = λ h. absurd (never h);
              first = literal_sum offset;
              block = λ k p q. refl;
            };
        sum = literal_sum offset;
        small = add_lt m.pc offset;
        written = refl;
        back = refl;
        status = refl;
        apart = λ h. absurd (never h);
      }

  -- by the slot of the access, of either kind
  abbrev literal_at19 : ℕ → ℕ → ℕ → ℕ → Access
  literal_at19 k extent target offset =
      Moves (record { store = false; ordered = false; bytes = k; more = 0; extent = extent; target = target; second = 64; exclusive = false }) (literal_mode offset)

  -- by bit 26
  literal_by : (v : ℕ) → field 26 26 word ≡ v → word_access word ≡ family_access ((columns_of LiteralRow).family word)
      → word_access word ≡ literal_access (literal_at (v * 4 + field 31 30 word)) (literal_in word)
  unfolding literal_op_in
  literal_by v kind e = e ∙ ap (λ (b : ℕ). literal_access (literal_at (b * 4 + field 31 30 word)) (literal_in word)) kind

  -- at an address that is the sum of the two
  module _ (address : ℕ) (at : address ≡ Add m.pc offset19) where
    literal_load : (vector : Bool) (target : ℕ) → target ≡ slot vector t → (k extent width : ℕ) (g : ℕ → ℕ) → ((v : ℕ) → v < 256 ^ k → extended_of k extent v ≡ g v) → Fits k extent width
        → (page_of vector LiteralRow word).extent ≡ extent → word_access word ≡ literal_at19 k extent target (twos_complement (signed_of 262144 4 (field 23 5 word)))
        → Steps w m (page_of vector LiteralRow word) word (loads address k (set_r vector t width (g (Mem address k (arm_of w m))) (arm_of w m)))
    literal_load vector target s k extent width g x fit filled e =
        subst (λ (x : ℕ). Steps w m (page_of vector LiteralRow word) word (loads x k (set_r vector t width (g (Mem x k (arm_of w m))) (arm_of w m)))) (sym at)
        (one_load w m r (page_of vector LiteralRow word) word (literal_mode offset19) false false false false _ _ (literal_form vector offset19) refl k extent width g fit x filled
        (e ∙ ap (literal_at19 k extent target) (sym (imm19_is (field 23 5 word) (part_lt 5 19 word))) ∙ ap (λ (i : ℕ). literal_at19 k extent i offset19) s))

    -- the page, by opc
    abbrev literal_page : ℕ → Operation
    literal_page opc =
        let s = arm_of w m in
        let size : ℕ = pick (eqb opc 0b01) 8 4 in
        case (pick (eqb opc 0b11) PREFETCH LOAD)
        hint
        (loads address size (pick (eqb opc 0b10) (set_x t 64 (SignExtend (size * 8) 64 (Mem address size s)) s) (set_x t (size * 8) (Mem address size s) s)))
        hint

    literal_at_lem : word_access word ≡ literal_access (literal_at (0 * 4 + field 31 30 word)) (literal_in word) → Steps w m (page_of false LiteralRow word) word (literal_page (field 31 30 word))
    unfolding literal_at literal_moves literal_transfer slot_of literal_in
    literal_at_lem e =
        four (λ opc. (page_of false LiteralRow word).extent ≡ opc_extent false opc → word_access word ≡ literal_access (literal_at (0 * 4 + opc)) (literal_in word) → Steps w m (page_of false LiteralRow word) word (literal_page opc))
        (λ x e. literal_load false (zero_slot t) refl 4 4 32 (λ v. v) (λ v h. extended_none 4 v) (fits 4 4 32 refl) x e)
        (λ x e. literal_load false (zero_slot t) refl 8 8 64 (λ v. v) (λ v h. extended_none 8 v) (fits 8 8 64 refl) x e)
        (λ x e. literal_load false (zero_slot t) refl 4 8 64 (SignExtend 32 64) (λ v. extended_is 3 8 v (omega arith)) (fits 4 8 64 refl) x e)
        (λ x e. hints_step w m (page_of false LiteralRow word) word e)
        (field 31 30 word) size_lt refl e

    abbrev vector_literal_page : ℕ → Operation
    vector_literal_page opc =
        let s = arm_of w m in
        let size : ℕ = vector_literal_size opc in
        loads address size (set_vec t (size * 8) (Mem address size s) s)

    vector_literal_at : eqb (1 * 4 + field 31 30 word) 0b1_11 ≡ false → word_access word ≡ literal_access (literal_at (1 * 4 + field 31 30 word)) (literal_in word)
        → Steps w m (page_of true LiteralRow word) word (vector_literal_page (field 31 30 word))
    unfolding literal_at literal_moves literal_transfer slot_of literal_in
    vector_literal_at u e =
        four (λ opc. eqb (1 * 4 + opc) 0b1_11 ≡ false → (page_of true LiteralRow word).extent ≡ opc_extent true opc → word_access word ≡ literal_access (literal_at (1 * 4 + opc)) (literal_in word)
        → Steps w m (page_of true LiteralRow word) word (vector_literal_page opc))
        (λ u x e. take 4 (omega arith) (omega arith) x e)
        (λ u x e. take 8 (omega arith) (omega arith) x e)
        (λ u x e. take 16 (omega arith) (omega arith) x e)
        (λ u x e. absurd (never (sym u)))
        (field 31 30 word) size_lt u refl e
      where
        take : (k : ℕ) → 0 < k → k ≤ most_bytes → (page_of true LiteralRow word).extent ≡ k → word_access word ≡ literal_at19 k k (vector_slot t) (twos_complement (signed_of 262144 4 (field 23 5 word)))
            → Steps w m (page_of true LiteralRow word) word (loads address k (set_vec t (k * 8) (Mem address k (arm_of w m)) (arm_of w m)))
        take k p q x e = literal_load true (vector_slot t) (behind t t_lt) k k (k * 8) (λ v. v) (λ v h. extended_none k v) (record { some = p; most = q; longer = omega arith; room = omega arith }) x e

  pub literal_step : field 26 26 word ≡ 0 → word_access word ≡ family_access ((columns_of LiteralRow).family word) → Steps w m (page_of false LiteralRow word) word (literal word (arm_of w m))
  unfolding literal Add part
  literal_step b e = literal_at_lem _ (omega arith) (literal_by 0 b e)

  pub vector_literal_step : field 26 26 word ≡ 1 → undefined_literal word ≡ false → word_access word ≡ family_access ((columns_of LiteralRow).family word)
      → Steps w m (page_of true LiteralRow word) word (vector_literal word (arm_of w m))
  unfolding vector_literal Add part
  vector_literal_step b u e = vector_literal_at _ (omega arith) (sym (by_literal word 1 b) ∙ u) (literal_by 1 b e)
