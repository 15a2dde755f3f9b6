-- What 02's CR 12 says of words of vector registers: when one is answer 4, and that a load clears what it doesn't fill. Assumes
-- nothing.
use Prim.Native.Nat.{ℕ, zero, suc, ◌+◌, ◌-◌, ◌/◌, ◌≤◌, ◌<◌}
use mathlib.Core.Path.{◌≡◌, refl, sym, ap, subst, ◌∙◌}
use mathlib.Core.Bool.{Bool, true, false, ◌&&◌, ◌||◌}
use mathlib.Core.List.{List, [], ◌∷◌}
use mathlib.Core.Logic.{inl, inr}
use native.Mathlib.Decide.{ℕ_discrete}
use native.Mathlib.Omega.{arith}
use borrow.Author.Tests.{eqb-true}
use lib.Dec.{eqb}
use lib.ListN.{get_or, set}
use lib.Seq.{get_or-set_other}
use Rattle.bits.specs.Choice.{pick}
use Rattle.bits.specs.Fields.{field}
use Rattle.bits.proofs.Choices.{both, tested}
use Rattle.bits.proofs.Parts.{Has, part_lt}
use Rattle.instruction.specs.declared.answer.Answer.{Answer}
use Rattle.instruction.specs.declared.row.Row.{Row}
use Rattle.instruction.specs.Answers.{answer_number}
use Rattle.instruction.specs.Unpredictable.{over_base, unpredictable_pair}
use Rattle.instruction.specs.Table.{columns_of, matches, row_of, in_set, undefined, unpredictable}
use Rattle.instruction.proofs.Rows.{row_has, set_matches}
use Rattle.decoder.specs.Decoding.{class_of}
use Rattle.memory.specs.Taints.{byte_at}
use Rattle.memory.proofs.Taints.{no_byte}
use Rattle.vectors.specs.File.{vector_slot}
use Rattle.access.specs.declared.transfer.Transfer.{Transfer}
use Rattle.access.specs.declared.addressing.Addressing.{Addressing}
use Rattle.access.specs.declared.Access.{Access}
use Rattle.access.specs.declared.Access.TheVariants.{Moves}
use Rattle.access.specs.Accesses.{word_access}
use Rattle.access.specs.route.Bounds.{Whole, Bounded, Within, Moving}
use Rattle.access.proofs.Bounds.{bounded, moving}
use Rattle.plan.specs.declared.window.Window.{Window}
use Rattle.plan.specs.Address.{sum_of, address_of}
use Rattle.plan.specs.declared.ranges.Reach.TheVariants.{Alone}
use Rattle.plan.proofs.Refusals.{Passed, each, first_by}
use Rattle.machine.specs.declared.monitor.Monitor.{Monitor}
use Rattle.machine.specs.declared.Shown.{Shown}
use Rattle.machine.specs.Monitor.{status_of, monitor_after, written_back}
use Rattle.machine.specs.Rule.{move_rule}
use Rattle.machine.specs.Machine.{Machine, operands_of, effect_of}
use Rattle.machine.specs.Real.{Real}
use Rattle.machine.specs.Refusals.{refusals}
use Rattle.machine.specs.Step.{shown, Step, stopped, moved, perform_of, step_in, step_of, performed}
use Rattle.machine.proofs.Writing.{load_made}
use Rattle.machine.proofs.Vectors.{vector_clears}
use Rattle.arm.specs.Pseudocode.{Operation, hint, sp_fault, access}
use Rattle.arm.specs.Pages.{Page}
use Rattle.arm.specs.Choices.{after_page, page_refusals, page_moves, word_page, operation_of, arm_step}
use Rattle.arm.proofs.Arm.{step_as_arm}
use Rattle.arm.proofs.Answers.{passes, done_by_page}
use Rattle.arm.proofs.Steps.{Made}
use Rattle.arm.proofs.Rules.{page_made}

-- ---- answer 4

never : {A : Type 0} → false ≡ true → A
never e = absurd (let z : ◌≡◌ {A = ℕ} 0 1 = cc in omega arith)

-- writeback is out of it where bit 26 is 1
loaded_twice : (x y : Bool) → ((x && (false || false)) || y) ≡ true → y ≡ true
loaded_twice true y h = h
loaded_twice false y h = h

vector_row : (w : ℕ) (r : Row) → Has w (columns_of r).fixed → field 26 26 w ≡ 1 → (columns_of r).unpredictable w ≡ true
    → (r ≡ Row.PairRow) × (field 22 22 w ≡ 1) × (field 4 0 w ≡ field 14 10 w)
unfolding over_base unpredictable_pair
vector_row w Row.NoRow h b e = never e
vector_row w Row.LiteralRow h b e = never e
vector_row w Row.PairRow h b e =
    let twice = both (eqb (field 22 22 w) 1) (eqb (field 4 0 w) (field 14 10 w)) (loaded_twice (eqb (field 23 23 w) 1) _ (rw b at e)) in
    (refl, eqb-true (field 22 22 w) 1 twice.0, eqb-true (field 4 0 w) (field 14 10 w) twice.1)
vector_row w Row.OrderedRow h b e = never e
vector_row w Row.UnscaledRow h b e = never e
vector_row w Row.PostRow h b e = never (rw b at e)
vector_row w Row.PreRow h b e = never (rw b at e)
vector_row w Row.RegisterRow h b e = never e
vector_row w Row.UnsignedRow h b e = never e
vector_row w Row.LoadExclusiveRow h b e = never e
vector_row w Row.StoreExclusiveRow h b e = absurd (omega (arith, b, h.1.0))
vector_row w Row.AcquireReleaseRow h b e = never e

four_is : (s u p : Bool) → answer_number (pick s (pick u Answer.Undefined (pick p Answer.Unpredictable Answer.Done)) Answer.NotInSet) ≡ 4 → (s ≡ true) × (p ≡ true)
four_is true true p e = absurd (omega (arith, e))
four_is true false true e = (refl, refl)
four_is true false false e = absurd (omega (arith, e))
four_is false u p e = absurd (omega (arith, e))

pub vector_four : (word : ℕ) → field 26 26 word ≡ 1 → answer_number (class_of word) ≡ 4
    → (matches word Row.PairRow ≡ true) × (field 22 22 word ≡ 1) × (field 4 0 word ≡ field 14 10 word)
unfolding class_of unpredictable
vector_four word b e =
    let t = four_is (in_set word) (undefined word) ((columns_of (row_of word)).unpredictable word) e in
    let p = vector_row word (row_of word) (row_has word t.0) b t.1 in
    (ap (matches word) (sym p.0) ∙ sym (set_matches word) ∙ t.0, p.1, p.2)

-- ---- a load

-- a number that is set, or nothing where there is no place for it
set_here : (P : ℕ → Type 0) → P 0 → (xs : List ℕ) (i x : ℕ) → P x → P (get_or (set xs i x) i 0)
set_here P z [] i x h = z
set_here P z (y ∷ ys) zero x h = h
set_here P z (y ∷ ys) (suc i) x h = set_here P z ys i x h

set_first : (P : ℕ → Type 0) → P 0 → (xs : List ℕ) (i j x y : ℕ) → P x → P y → P (get_or (set (set xs i x) j y) i 0)
set_first P z xs i j x y h k = go (ℕ_discrete i j)
  where
    go : Dec (i ≡ j) → P (get_or (set (set xs i x) j y) i 0)
    go (yes e) = subst (λ (n : ℕ). P (get_or (set (set xs i x) j y) n 0)) (sym e) (set_here P z (set xs i x) j y k)
    go (no n) = rw (get_or-set_other (set xs i x) j i y 0 n) (set_here P z xs i x h)

-- byte i of a register is 0, and so is its mark
abbrev Clear : ℕ → ℕ → Machine → Type 0
Clear slot i n = (byte_at i (get_or n.values slot 0) ≡ 0) × (byte_at i (get_or n.taints.registers slot 0) ≡ 0)

module _ (m : Machine) (real : Real m) (t : Transfer) (b : Bounded t) (some : 0 < t.bytes) (load : t.store ≡ false) (vector : vector_slot t.target ≡ true) (i : ℕ) (above : t.bytes ≤ i) where
  -- a second register has no more bytes
  fewer : Whole t.bytes t.extent → Whole t.more t.extent → t.more ≤ i
  fewer (inl e) h = absurd (omega (arith, e, some))
  fewer (inr e) (inl f) = omega (arith, f)
  fewer (inr e) (inr f) = omega (arith, e, f, above)

  clear_effect : (written at next : ℕ) (monitor : Monitor) → Clear t.target i (effect_of t written at next monitor m)
  unfolding effect_of move_rule
  clear_effect written at next monitor =
      let f = b.vector vector in
      let one = vector_clears m.memory m.taints.bytes real.bytes at t.bytes t.extent i b.wide f.whole above in
      let two = vector_clears m.memory m.taints.bytes real.bytes (at + t.bytes) t.more t.extent i b.wider f.wholes (fewer f.whole f.wholes) in
      let zeros = no_byte i in (
        rw load (set_first (λ (x : ℕ). byte_at i x ≡ 0) zeros (set m.values written next) t.target t.second _ _ one.0 two.0),
        rw load (set_first (λ (x : ℕ). byte_at i x ≡ 0) zeros (set m.taints.registers written 0) t.target t.second _ _ one.1 two.1),
      )

abbrev ClearStep : ℕ → ℕ → Step Machine → Type 0
ClearStep slot i (stopped answer address) = Unit {0}
ClearStep slot i (moved n shown) = Clear slot i n

clear_perform : (origin : ℕ) (x : Access) (m : Machine) → Real m → Within x → Moving x → (t : Transfer) (a : Addressing) → x ≡ Moves t a → t.store ≡ false → vector_slot t.target ≡ true
    → (i : ℕ) → t.bytes ≤ i → ClearStep t.target i (perform_of origin x m)
clear_perform origin x m r b l t a e load vector i above =
    let within = subst Within e b in
    let moves = subst Moving e l in
    let address = address_of a (operands_of a m) in
    let status = status_of t address m.monitor in
    let next = written_back t status (sum_of a (operands_of a m)) in
    let after = monitor_after t address m.monitor in
    subst (λ (y : Access). ClearStep t.target i (perform_of origin y m)) (sym e)
    (subst (λ (u : Transfer). Clear t.target i (effect_of u a.written (address - origin) next after m)) (sym (load_made t status load))
    (clear_effect m r t within.0 moves.0 load vector i above a.written (address - origin) next after))

flat_clears : (w : Window) (word : ℕ) (m n : Machine) (shown : Shown) (t : Transfer) (a : Addressing) → Real m → word_access word ≡ Moves t a → t.store ≡ false → vector_slot t.target ≡ true
    → step_of w word m ≡ moved n shown → (i : ℕ) → t.bytes ≤ i → Clear t.target i n
unfolding step_in
flat_clears w word m n shown t a r e load vector done i above =
    subst (ClearStep t.target i) done
    (first_by (ClearStep t.target i) stopped (perform_of w.origin (word_access word) m) (refusals w word m) (each (λ e. tt) (refusals w word m))
    (λ p. clear_perform w.origin (word_access word) m r (bounded word) (moving word) t a e load vector i above))

-- ---- by what the page does

-- a code below 64 is no store's
is_load : (store : Bool) (size : ℕ) → size + pick store 64 0 < 64 → store ≡ false
is_load true size h = absurd (omega arith)
is_load false size h = refl

-- with no store the code is the number of bytes
load_code : (store : Bool) (size : ℕ) → store ≡ false → size + pick store 64 0 ≡ size
load_code store size e = rw e (omega arith)

slot_vector : (n : ℕ) → n < 32 → vector_slot (32 + n) ≡ true
slot_vector n h = tested 32 (λ (n : ℕ). vector_slot (32 + n)) refl n h

abbrev ClearsFrom : ℕ → Machine → Page → Step Machine → Type 0
ClearsFrom word m page s =
    let o = performed m s in
    o.shown.code < 64 → (i : ℕ) → pick page.paired (o.shown.code / 2) o.shown.code ≤ i → Clear (32 + field 4 0 word) i o.machine

module _ (w : Window) (word : ℕ) (m : Machine) (r : Real m) (vector : (word_page word).vector ≡ true) (done : answer_number (performed m (arm_step w word m)).answer ≡ 0) where
  abbrev page : Page
  page = word_page word

  clears_by : (o : Operation) → ¬ (o ≡ hint) → step_of w word m ≡ page_moves w word m page o → Made page word o → Passed (page_refusals w Alone word m page o) → ClearsFrom word m page (page_moves w word m page o)
  clears_by hint n e made p below i above = absurd (n refl)
  clears_by (sp_fault sp) n e made p below i above = absurd (let z : ◌≡◌ {A = ℕ} 0 1 = cc in omega arith)
  clears_by (access store address size status after) n e made p below i above =
      let t = made.transfer in
      let load = is_load store size below in
      let target : t.target ≡ 32 + field 4 0 word = rw vector at made.target in
      let bytes : t.bytes ≤ i = rw made.each (rw (load_code store size load) at above) in
      subst (λ (slot : ℕ). Clear slot i (after_page w word m page store address size status after)) target
      (flat_clears w word m (after_page w word m page store address size status after) (shown (size + pick store 64 0) address status) t made.addressing r made.access (made.stores ∙ load)
      (rw target (slot_vector (field 4 0 word) (part_lt 0 5 word))) e i bytes)

  pub load_clears : ¬ (operation_of w word m ≡ hint) → ClearsFrom word m page (arm_step w word m)
  load_clears n =
      let passed = passes w Alone word m done in
      let by-page = done_by_page w Alone word m done in
      subst (ClearsFrom word m page) (sym by-page)
      (clears_by (operation_of w word m) n (step_as_arm w word m r ∙ by-page) (page_made w Alone word m r passed) passed.1.1.1.1)
