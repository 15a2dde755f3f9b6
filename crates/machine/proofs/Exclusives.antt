-- The monitor over a step: what arms it, what asks and opens it, and that nothing else touches it (02, CR 3). Assumes nothing.
use Rattle.std.proofs.Common.{◌≡◌, ℕ, ◌-◌, ◌^◌, Bool, true, false, eqb, List, [], ◌∷◌, ◌++◌, length, sym, refl, ap, ◌∙◌, subst, arith, pow_pos, eqb-true}
use borrow.Author.Tests.{eqb-false, not-false}
use Rattle.bits.specs.Choice.{pick}
use Rattle.bits.specs.Fields.{part, field}
use Rattle.bits.specs.Bytes.{bytes_of}
use Rattle.bits.proofs.Parts.{has_true}
use Rattle.registers.specs.File.{zero_slot}
use Rattle.instruction.specs.declared.row.Row.{Row}
use Rattle.instruction.specs.declared.answer.Answer.{Answer}
use Rattle.instruction.specs.declared.answer.Answer.TheVariants.{BadWindow}
use Rattle.instruction.specs.Answers.{answer_number}
use Rattle.instruction.specs.Operands.{exclusive_in, store_exclusive_in}
use Rattle.instruction.specs.Table.{columns_of, matches as matchesRow, in_set, row_of, undefined}
use Rattle.instruction.proofs.Rows.{row_is, row_has, set_matches}
use Rattle.access.specs.declared.transfer.Transfer.{Transfer}
use Rattle.access.specs.declared.Access.{Access}
use Rattle.access.specs.declared.Access.TheVariants.{Nothing, Moves}
use Rattle.access.specs.Transfers.{monitored_transfer}
use Rattle.access.specs.Addressings.{based}
use Rattle.access.specs.Accesses.{exclusive_access, store_exclusive_access, family_access, word_access}
use Rattle.access.proofs.Rows.{row_access, bytes_in_lem, load_exclusive_transfer, Plain, plain_row}
use Rattle.plan.specs.declared.window.Window.{Window}
use Rattle.plan.specs.Address.{sum_of, address_of}
use Rattle.plan.specs.Refusals.{Refusal, refusal, first_of}
use Rattle.plan.specs.Admission.{admit_of}
use Rattle.plan.proofs.Refusals.{Passed, each, each_map, first_by, none_holds}
use Rattle.machine.specs.declared.monitor.Monitor.{Monitor}
use Rattle.machine.specs.Monitor.{matches, status_of, monitor_after, written_back, fails, made_of}
use Rattle.machine.specs.Rule.{move_rule}
use Rattle.machine.specs.Machine.{Machine, operands_of, effect_of, code_of}
use Rattle.machine.specs.Refusals.{bad, class_refusals, access_refusals, refusals}
use Rattle.machine.specs.Step.{shown, Step, stopped, moved, Outcome, touch_of, perform_of, step_in, step_of, performed}
use Rattle.machine.specs.Exclusives.{Armed, StoresExclusive, with_monitor}
use Rattle.machine.proofs.Answers.{answers_exact, all_refuse}

-- ---- a step that is done makes the access of its word's row

-- of a word that 2 and 3 pass
row_of_lem : (w : Window) (word : ℕ) (m : Machine) → Passed (refusals w word m) → (in_set word ≡ true) × (undefined word ≡ false)
row_of_lem w word m none = (not-false (in_set word) none.1.0, none.1.1.0)

module _ (w : Window) (word : ℕ) (m : Machine) (done : answer_number (performed m (step_of w word m)).answer ≡ 0) where
  none : Passed (refusals w word m)
  none = none_holds (refusals w word m) (all_refuse w word m) (sym (ap answer_number (answers_exact w word m)) ∙ done)

  -- the access of a row
  access_at_lem : (r : Row) → matchesRow word r ≡ true → word_access word ≡ family_access ((columns_of r).family word)
  access_at_lem r e =
      let p = row_of_lem w word m none in
      let row : row_of word ≡ r = row_is word r (has_true word (columns_of r).fixed e) in
      row_access word p.0 p.1 ∙ ap (λ (x : Row). family_access ((columns_of x).family word)) row

  performs_at : (x : Access) → word_access word ≡ x → step_of w word m ≡ perform_of w.origin x m
  unfolding step_in
  performs_at x e =
      first_by (λ (s : Step Machine). answer_number (performed m s).answer ≡ 0 → s ≡ perform_of w.origin x m) stopped (perform_of w.origin (word_access word) m) (refusals w word m)
      (each_map {P = λ r. ¬ (answer_number r.answer ≡ 0)} {Q = λ r. answer_number r.answer ≡ 0 → stopped r.answer r.address ≡ perform_of w.origin x m} (λ r z h. absurd (z h)) (refusals w word m) (all_refuse w word m))
      (λ p h. ap (λ (x : Access). perform_of w.origin x m) e) done

-- ---- "A load-exclusive arms it"

pub load_arms : (w : Window) (word : ℕ) (m : Machine) → matchesRow word Row.LoadExclusiveRow ≡ true → answer_number (performed m (step_of w word m)).answer ≡ 0
    → let o = performed m (step_of w word m) in
    o.machine.monitor ≡ record { address = o.shown.address; size = 2 ^ field 31 30 word }
unfolding exclusive_access exclusive_in monitored_transfer effect_of monitor_after
load_arms w word m e done =
    let h = has_true word (columns_of Row.LoadExclusiveRow).fixed e in
    let x = access_at_lem w word m done Row.LoadExclusiveRow e ∙ ap (λ (t : Transfer). Moves t (based (field 9 5 word) 0 false 64)) (load_exclusive_transfer word h) in
    rw (performs_at w word m done _ x, bytes_in_lem word)

-- ---- store-exclusive

-- of so many bytes of a register
abbrev storing : ℕ → ℕ → Transfer
storing k t = record { store = true; ordered = false; bytes = k; more = 0; extent = k; target = zero_slot t; second = 64; exclusive = true }

armed_at : (r : Monitor) (address size : ℕ) (a b : Bool) → eqb r.address address ≡ a → eqb r.size size ≡ b
    → (pick a b false ≡ true → Armed r address size) × (pick a b false ≡ false → ¬ Armed r address size)
armed_at r address size true true e f = ((λ h. (eqb-true r.address address e, eqb-true r.size size f)), (λ h. absurd (let z : ◌≡◌ {A = ℕ} 0 1 = cc in omega arith)))
armed_at r address size true false e f = ((λ h. absurd (let z : ◌≡◌ {A = ℕ} 0 1 = cc in omega arith)), (λ h armed. eqb-false r.size size f armed.1))
armed_at r address size false b e f = ((λ h. absurd (let z : ◌≡◌ {A = ℕ} 0 1 = cc in omega arith)), (λ h armed. eqb-false r.address address e armed.0))

module _ (origin k rs t address sum : ℕ) (m : Machine) where
  -- what is left with a status
  abbrev left : ℕ → Step Machine
  left status =
      moved (effect_of (made_of (storing k t) status) (zero_slot rs) (address - origin) (written_back (storing k t) status sum) (monitor_after (storing k t) address m.monitor) m)
      (shown (code_of (storing k t)) address status)

  by : (b : Bool) → (b ≡ true → Armed m.monitor address k) → (b ≡ false → ¬ Armed m.monitor address k)
      → StoresExclusive origin k rs t m (performed m (left (pick b 0 1)))
  unfolding effect_of written_back monitor_after fails move_rule bytes_of
  by true p q =
      record {
        passes = ((λ e. p refl), (λ a. refl));
        fails = ((λ e. absurd (omega (arith, e))), (λ n. absurd (n (p refl))));
        writes = refl;
        stores = λ e. (refl, refl);
        keeps = λ e. absurd (omega (arith, e));
        opens = refl;
        unmarks = refl;
        code = omega arith;
      }
  by false p q =
      record {
        passes = ((λ e. absurd (omega (arith, e))), (λ a. absurd (q refl a)));
        fails = ((λ e. q refl), (λ n. refl));
        writes = refl;
        stores = λ e. absurd (omega (arith, e));
        keeps = λ e. (refl, refl);
        opens = refl;
        unmarks = refl;
        code = omega arith;
      }

  stored : StoresExclusive origin k rs t m (performed m (touch_of origin (storing k t) (zero_slot rs) address sum m))
  unfolding status_of matches
  stored =
      let p = armed_at m.monitor address k _ _ refl refl in
      by (matches m.monitor address k) p.0 p.1

pub store_exclusive_lem : (w : Window) (word : ℕ) (m : Machine) → matchesRow word Row.StoreExclusiveRow ≡ true → answer_number (performed m (step_of w word m)).answer ≡ 0
    → StoresExclusive w.origin (2 ^ field 31 30 word) (field 20 16 word) (field 4 0 word) m (performed m (step_of w word m))
unfolding store_exclusive_access store_exclusive_in monitored_transfer based part
store_exclusive_lem w word m e done =
    let a = based (field 9 5 word) 0 false (zero_slot (field 20 16 word)) in
    rw (performs_at w word m done _ (access_at_lem w word m done Row.StoreExclusiveRow e), bytes_in_lem word)
    (stored w.origin (2 ^ field 31 30 word) (field 20 16 word) (field 4 0 word) (address_of a (operands_of a m)) (sum_of a (operands_of a m)) m)

-- ---- "Ordinary stores don't touch it", nor does any other word, and "a refused step keeps the monitor"

abbrev Kept : Machine → Step Machine → Type 0
Kept m s = ((performed m s).machine.monitor ≡ m.monitor) × ((performed m s).shown.status ≡ 0)

plain_keeps : (origin : ℕ) (x : Access) (m : Machine) → Plain x → Kept m (perform_of origin x m)
unfolding effect_of monitor_after status_of
plain_keeps origin Nothing m h = (refl, refl)
plain_keeps origin (Moves t a) m h = (rw h, rw h)

pub others_keep : (w : Window) (word : ℕ) (m : Machine) → matchesRow word Row.LoadExclusiveRow ≡ false → matchesRow word Row.StoreExclusiveRow ≡ false → Kept m (step_of w word m)
unfolding step_in
others_keep w word m l s =
    first_by (Kept m) stopped (perform_of w.origin (word_access word) m) (refusals w word m) (each (λ e. (refl, refl)) (refusals w word m))
    (λ none.
    let p = row_of_lem w word m none in
    let no : (r : Row) → matchesRow word r ≡ false → ¬ (row_of word ≡ r) =
    λ r f e. differ (sym p.0 ∙ set_matches word ∙ ap (matchesRow word) e ∙ f) in
    plain_keeps w.origin (word_access word) m
    (subst Plain (sym (row_access word p.0 p.1)) (plain_row word (row_of word) (row_has word p.0) (no Row.LoadExclusiveRow l) (no Row.StoreExclusiveRow s))))
  where
    differ : ◌≡◌ {A = Bool} true false → ⊥
    differ e = let z : ◌≡◌ {A = ℕ} 0 1 = cc in omega arith

-- from an open monitor it fails
pub open_fails : (w : Window) (word : ℕ) (m : Machine) → matchesRow word Row.StoreExclusiveRow ≡ true → answer_number (performed m (step_of w word m)).answer ≡ 0
    → m.monitor.size ≡ 0 → (performed m (step_of w word m)).shown.status ≡ 1
open_fails w word m e done size =
    (store_exclusive_lem w word m e done).fails.1 (λ armed. let some = pow_pos (field 31 30 word) in omega (arith, size, armed.1))

-- ---- "All tests come before the monitor is looked at": with any other the answer is the same, and so are code and address

record SameTests (a b : Outcome Machine) : Type 0 where
  answer : a.answer ≡ b.answer
  code : a.shown.code ≡ b.shown.code
  address : a.shown.address ≡ b.shown.address

same_at : (m n : Machine) (z : Bool) (answer : Answer) (address : ℕ) (s t : Step Machine) → SameTests (performed m s) (performed n t)
    → SameTests (performed m (pick z (stopped answer address) s)) (performed n (pick z (stopped answer address) t))
same_at m n true answer address s t h = record { answer = refl; code = refl; address = refl }
same_at m n false answer address s t h = h

same_first : (m n : Machine) (s t : Step Machine) (es : List Refusal) → SameTests (performed m s) (performed n t) → SameTests (performed m (first_of stopped s es)) (performed n (first_of stopped t es))
same_first m n s t [] h = h
same_first m n s t (e ∷ es) h = same_at m n e.holds e.answer e.address _ _ (same_first m n s t es h)

same_performed : (origin : ℕ) (x : Access) (m : Machine) (r : Monitor) → SameTests (performed (with_monitor r m) (perform_of origin x (with_monitor r m))) (performed m (perform_of origin x m))
same_performed origin Nothing m r = record { answer = refl; code = refl; address = refl }
same_performed origin (Moves t a) m r = record { answer = refl; code = refl; address = refl }

same_tests : (admit : Transfer → ℕ → List Refusal) (x : Access) (m : Machine) (r : Monitor) → access_refusals admit x (with_monitor r m) ≡ access_refusals admit x m
same_tests admit Nothing m r = refl
same_tests admit (Moves t a) m r = refl

pub tests_first : (w : Window) (word : ℕ) (m : Machine) (r : Monitor)
    → let other = performed (with_monitor r m) (step_of w word (with_monitor r m)) in
    let this = performed m (step_of w word m) in
    (answer_number other.answer ≡ answer_number this.answer) × (other.shown.code ≡ this.shown.code) × (other.shown.address ≡ this.shown.address)
unfolding step_in
tests_first w word m r =
    let x = word_access word in
    let n = with_monitor r m in
    let same : refusals w word n ≡ refusals w word m =
    ap (λ (es : List Refusal). refusal BadWindow (bad w m) 0 ∷ (class_refusals word ++ es)) (same_tests (admit_of w (length m.memory)) x m r) in
    let t =
    subst (λ (es : List Refusal). SameTests (performed n (first_of stopped (perform_of w.origin x n) es)) (performed m (first_of stopped (perform_of w.origin x m) (refusals w word m)))) (sym same)
    (same_first n m (perform_of w.origin x n) (perform_of w.origin x m) (refusals w word m) (same_performed w.origin x m r)) in
    (ap answer_number t.answer, t.code, t.address)
