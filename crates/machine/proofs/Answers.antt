-- What a step answers, and that a refused one changes nothing. Assumes nothing.
use Rattle.std.proofs.Common.{◌≡◌, ℕ, ◌%◌, ◌<◌, Bool, true, false, not, eqb, ◌⊎◌, ◌↔◌, List, map, length, get_or, sym, refl, ap, ◌∙◌, subst, inl, inr, arith, ne_eqb, eqb-true}
use borrow.Author.Tests.{not-false}
use Rattle.bits.specs.Choice.{pick}
use Rattle.instruction.specs.declared.answer.Answer.{Answer}
use Rattle.instruction.specs.declared.answer.Answer.TheVariants.{Done, BadWindow, NotInSet, Undefined, Unpredictable, TaintedAddress, Misaligned}
use Rattle.instruction.specs.Answers.{answer_number}
use Rattle.instruction.specs.Table.{in_set, undefined, unpredictable}
use Rattle.decoder.specs.Decoding.{class_of}
use Rattle.access.specs.declared.transfer.Transfer.{Transfer}
use Rattle.access.specs.declared.addressing.Addressing.{Addressing}
use Rattle.access.specs.declared.Access.{Access}
use Rattle.access.specs.declared.Access.TheVariants.{Nothing, Moves}
use Rattle.access.specs.Accesses.{word_access}
use Rattle.plan.specs.declared.window.Window.{Window}
use Rattle.plan.specs.Address.{sum_of, address_of}
use Rattle.plan.specs.Refusals.{Refusal, first_of, answer_in, Given}
use Rattle.plan.specs.Admission.{admit_of}
use Rattle.plan.specs.declared.ranges.Reach.{Reach}
use Rattle.plan.specs.declared.ranges.Reach.TheVariants.{Alone, Ranged}
use Rattle.plan.specs.Ranges.{admit_ranges, admit_in}
use Rattle.plan.specs.Plans.{Refuse, Touch, misaligned_stack, refusals_of, plan_of}
use Rattle.plan.proofs.Refusals.{Passed, Each, each_map, first_by, first_map, none_holds, given}
use Rattle.vectors.specs.File.{wide}
use Rattle.vectors.proofs.Slots.{length_map}
use Rattle.access.specs.route.Bounds.{Placed}
use Rattle.plan.specs.Operands.{operands_in}
use Rattle.machine.specs.declared.State.{State}
use Rattle.machine.specs.route.Writing.{Full}
use Rattle.machine.proofs.Writing.{operands_plain}
use Rattle.machine.specs.Machine.{Machine, machine_of, operands_of}
use Rattle.machine.specs.Refusals.{bad, access_refusals, word_refusals, refusals_in, refusals}
use Rattle.machine.specs.Step.{Step, stopped, moved, perform_of, step_in, step_of, performed}
use Rattle.machine.specs.route.Parts.{word_step, access_step, plan_step}

unchanged : (m : Machine) (s : Step Machine) → ¬ (answer_number (performed m s).answer ≡ 0) → (performed m s).machine ≡ m
unchanged m (stopped answer address) h = refl
unchanged m (moved n shown) h = absurd (h refl)

-- a refused step changes no register, byte, taint or PC
pub refused_unchanged : (w : Window) (word : ℕ) (m : Machine) → ¬ (answer_number (performed m (step_of w word m)).answer ≡ 0) → (performed m (step_of w word m)).machine ≡ m
refused_unchanged w word m h = unchanged m (step_of w word m) h

-- an access that is not refused is done
performs : (origin : ℕ) (x : Access) (m : Machine) → (performed m (perform_of origin x m)).answer ≡ Done
performs origin Nothing m = refl
performs origin (Moves t a) m = refl

-- a step answers by the first of its refusals that holds, and 0 where none does
pub answers_in : (w : Window) (reach : Reach) (word : ℕ) (m : Machine) → (performed m (step_in w reach word m)).answer ≡ answer_in (refusals_in w reach word m)
unfolding step_in
answers_in w reach word m =
    first_map (λ (s : Step Machine). (performed m s).answer) stopped (perform_of w.origin (word_access word) m) (refusals_in w reach word m)
    ∙ ap (λ (d : Answer). first_of (λ answer address. answer) d (refusals_in w reach word m)) (performs w.origin (word_access word) m)

pub answers_exact : (w : Window) (word : ℕ) (m : Machine) → (performed m (step_of w word m)).answer ≡ answer_in (refusals w word m)
answers_exact w = answers_in w Alone

-- a number other than 0 is answered exactly if its test holds and none before it
pub given_in : (w : Window) (reach : Reach) (word : ℕ) (m : Machine) (n : ℕ) → ¬ (n ≡ 0) → (answer_number (performed m (step_in w reach word m)).answer ≡ n) ↔ Given n (refusals_in w reach word m)
given_in w reach word m n z = rw (answers_in w reach word m) (given n z (refusals_in w reach word m))

pub answers_given : (w : Window) (word : ℕ) (m : Machine) (n : ℕ) → ¬ (n ≡ 0) → (answer_number (performed m (step_of w word m)).answer ≡ n) ↔ Given n (refusals w word m)
answers_given w = given_in w Alone

-- ---- the tests of the deciding half

pub step_in_lem : (w : Window) (reach : Reach) (word : ℕ) (m : Machine) → step_in w reach word m ≡ pick (bad w m) (stopped BadWindow 0) (word_step w.origin (admit_in w reach (length m.memory)) word m)
unfolding step_in word_step
step_in_lem w reach word m = refl

pub step_bad : (w : Window) (word : ℕ) (m : Machine) → step_of w word m ≡ pick (bad w m) (stopped BadWindow 0) (word_step w.origin (admit_of w (length m.memory)) word m)
step_bad w = step_in_lem w Alone

class_at : {A : Type 0} (refuse : Answer → ℕ → A) (x : A) (member wrong loose : Bool) → let class = pick member (pick wrong Undefined (pick loose Unpredictable Done)) NotInSet in
    pick (not member) (refuse NotInSet 0) (pick wrong (refuse Undefined 0) (pick loose (refuse Unpredictable 0) x)) ≡ pick (eqb (answer_number class) 0) x (refuse class 0)
class_at refuse x false wrong loose = refl
class_at refuse x true true loose = refl
class_at refuse x true false true = refl
class_at refuse x true false false = refl

-- 2, 3 and 4 are what a word is classified as
pub step_class : (origin : ℕ) (admit : Transfer → ℕ → List Refusal) (word : ℕ) (m : Machine)
    → word_step origin admit word m ≡ pick (eqb (answer_number (class_of word)) 0) (access_step origin admit (word_access word) m) (stopped (class_of word) 0)
unfolding word_step access_step class_of
step_class origin admit word m = class_at stopped (access_step origin admit (word_access word) m) (in_set word) (undefined word) (unpredictable word)

-- an access is what is planned
pub step_planned : (origin : ℕ) (admit : Transfer → ℕ → List Refusal) (t : Transfer) (a : Addressing) (m : Machine)
    → access_step origin admit (Moves t a) m ≡ plan_step origin t a m (plan_of admit t a (operands_of a m))
unfolding access_step plan_of
step_planned origin admit t a m =
    let o = operands_of a m in
    sym (first_map (plan_step origin t a m) Refuse (Touch (address_of a o) (sum_of a o)) (refusals_of admit t a o))

-- and its operands are read of general registers alone
pub planned_plain : (origin : ℕ) (admit : Transfer → ℕ → List Refusal) (t : Transfer) (a : Addressing) (s : State) (vs ms : List (List ℕ)) (m k : List ℕ)
    → Full s.registers.value s.registers.taint vs ms → Placed a → let n = machine_of s vs ms m k in
    access_step origin admit (Moves t a) n ≡ plan_step origin t a n (plan_of admit t a (operands_in a s.pc s.registers.value s.registers.taint))
planned_plain origin admit t a s vs ms m k full placed =
    let n = machine_of s vs ms m k in
    step_planned origin admit t a n
    ∙ ap (λ o. plan_step origin t a n (plan_of admit t a o)) (operands_plain a s.pc s.registers.value s.registers.taint (map wide vs) (map wide ms) full.values full.taints (length_map wide vs ∙ full.vectors) (length_map wide ms ∙ full.vector_taints) placed)

-- ---- what is never done

-- a base or an index that is tainted is never used for an access; a lower answer comes first
pub tainted_refused : (w : Window) (word : ℕ) (m : Machine) (t : Transfer) (a : Addressing) → word_access word ≡ Moves t a → (operands_of a m).tainted ≡ true
    → step_of w word m ≡ stopped (pick (bad w m) BadWindow (pick (eqb (answer_number (class_of word)) 0) TaintedAddress (class_of word))) 0
unfolding access_step
tainted_refused w word m t a e h =
    let admit = admit_of w (length m.memory) in
    let refused : access_step w.origin admit (word_access word) m ≡ stopped TaintedAddress 0 = rw (e, h) in
    rw (step_bad w word m, step_class w.origin admit word m, refused) (stopped_first (bad w m) (eqb (answer_number (class_of word)) 0))
  where
    stopped_first : (bad done : Bool) → ◌≡◌ {A = Step Machine} (pick bad (stopped BadWindow 0) (pick done (stopped TaintedAddress 0) (stopped (class_of word) 0))) (stopped (pick bad BadWindow (pick done TaintedAddress (class_of word))) 0)
    stopped_first true done = refl
    stopped_first false true = refl
    stopped_first false false = refl

-- a step that stops gives no answer 0
abbrev pub Refuses : {A : Type 0} → Step A → Type 0
Refuses (stopped answer address) = ¬ (answer_number answer ≡ 0)
Refuses (moved n shown) = Unit {0}

-- a fact of a refusal's number
abbrev pub Numbered : (ℕ → Type 0) → Refusal → Type 0
Numbered P e = P (answer_number e.answer)

-- of all behind the window's, from the same of what an admission refuses
module _ (P : ℕ → Type 0) (two : P 2) (three : P 3) (four : P 4) (five : P 5) (six : P 6) (admit : Transfer → ℕ → List Refusal) (further : (t : Transfer) (a : ℕ) → Each (Numbered P) (admit t a)) where
  access_numbers : (x : Access) (m : Machine) → Each (Numbered P) (access_refusals admit x m)
  access_numbers Nothing m = tt
  access_numbers (Moves t a) m = (five, (six, further t (address_of a (operands_of a m))))

  pub word_numbers : (word : ℕ) (m : Machine) → Each (Numbered P) (word_refusals admit word m)
  word_numbers word m = (two, (three, (four, access_numbers (word_access word) m)))

-- those of a plugin alone have the numbers 2 to 8
abbrev pub Later : ℕ → Type 0
Later n = (1 < n) × (n < 9)

admit_later : (w : Window) (len : ℕ) (t : Transfer) (a : ℕ) → Each (Numbered Later) (admit_of w len t a)
unfolding admit_of
admit_later w len t a = ((omega arith, omega arith), ((omega arith, omega arith), ((omega arith, omega arith), ((omega arith, omega arith), tt))))

pub word_later : (w : Window) (word : ℕ) (m : Machine) → Each (Numbered Later) (word_refusals (admit_of w (length m.memory)) word m)
word_later w word m =
    word_numbers Later (omega arith, omega arith) (omega arith, omega arith) (omega arith, omega arith) (omega arith, omega arith) (omega arith, omega arith) (admit_of w (length m.memory)) (admit_later w (length m.memory)) word m

-- and by what may be reached, 12 too
abbrev pub Late : ℕ → Type 0
Late n = Later n ⊎ (n ≡ 12)

admit_late : (w : Window) (reach : Reach) (len : ℕ) (t : Transfer) (a : ℕ) → Each (Numbered Late) (admit_in w reach len t a)
unfolding admit_ranges
admit_late w Alone len t a = each_map {P = Numbered Later} {Q = Numbered Late} (λ e l. inl l) (admit_of w len t a) (admit_later w len t a)
admit_late w (Ranged r) len t a = (inl (omega arith, omega arith), (inl (omega arith, omega arith), (inl (omega arith, omega arith), (inl (omega arith, omega arith), (inr refl, tt)))))

pub word_late : (w : Window) (reach : Reach) (word : ℕ) (m : Machine) → Each (Numbered Late) (word_refusals (admit_in w reach (length m.memory)) word m)
word_late w reach word m =
    word_numbers Late (inl (omega arith, omega arith)) (inl (omega arith, omega arith)) (inl (omega arith, omega arith)) (inl (omega arith, omega arith)) (inl (omega arith, omega arith)) (admit_in w reach (length m.memory)) (admit_late w reach (length m.memory)) word m

not_zero : (n : ℕ) → Late n → ¬ (n ≡ 0)
not_zero n (inl l) h = omega (arith, l.0)
not_zero n (inr e) h = omega arith

pub all_refuse_in : (w : Window) (reach : Reach) (word : ℕ) (m : Machine) → Each (λ e. ¬ (answer_number e.answer ≡ 0)) (refusals_in w reach word m)
all_refuse_in w reach word m = (
  (λ h. omega arith),
  each_map {P = Numbered Late} {Q = λ e. ¬ (answer_number e.answer ≡ 0)} (λ e late. not_zero (answer_number e.answer) late) (word_refusals (admit_in w reach (length m.memory)) word m) (word_late w reach word m),
)

pub all_refuse : (w : Window) (word : ℕ) (m : Machine) → Each (λ e. ¬ (answer_number e.answer ≡ 0)) (refusals w word m)
all_refuse w = all_refuse_in w Alone

pub refuses_in : (w : Window) (reach : Reach) (word : ℕ) (m : Machine) → Refuses (step_in w reach word m)
unfolding step_in
refuses_in w reach word m =
    first_by Refuses stopped (perform_of w.origin (word_access word) m) (refusals_in w reach word m)
    (all_refuse_in w reach word m) (λ p. moves w.origin (word_access word) m)
  where
    moves : (origin : ℕ) (x : Access) (m : Machine) → Refuses (perform_of origin x m)
    moves origin Nothing m = tt
    moves origin (Moves t a) m = tt

-- ---- the stack pointer (02, CR 1)

second : {A : Type 0} (b c : Bool) (x y z : A) → b ≡ false → c ≡ true → pick b x (pick c y z) ≡ y
second b c x y z e f = rw (e, f)

-- an access by SP that 1 to 5 don't refuse is refused with 6 and SP's own value where that is no multiple of 16
pub stack_refused : (w : Window) (word : ℕ) (m : Machine) (t : Transfer) (a : Addressing) → word_access word ≡ Moves t a → a.relative ≡ false → a.base ≡ 31
    → bad w m ≡ false → answer_number (class_of word) ≡ 0 → (operands_of a m).tainted ≡ false → ¬ (get_or m.values 31 0 % 16 ≡ 0) → step_of w word m ≡ stopped Misaligned (get_or m.values 31 0)
unfolding access_step misaligned_stack
stack_refused w word m t a e r b d c u h =
    let sp = get_or m.values 31 0 in
    let base : (operands_of a m).base ≡ sp = rw (r, b) in
    let strays : misaligned_stack a.base (operands_of a m).base ≡ true = rw (base, b, ne_eqb (sp % 16) 0 h) in
    let refused : access_step w.origin (admit_of w (length m.memory)) (Moves t a) m ≡ stopped Misaligned (operands_of a m).base = second (operands_of a m).tainted _ _ _ _ u strays in
    rw (step_bad w word m, d, step_class w.origin (admit_of w (length m.memory)) word m, c, e) (refused ∙ ap (stopped Misaligned) base)

-- and one that is done has an SP that is a multiple of 16
pub stack_aligned : (w : Window) (word : ℕ) (m : Machine) (t : Transfer) (a : Addressing) → word_access word ≡ Moves t a → a.relative ≡ false → a.base ≡ 31
    → answer_number (performed m (step_of w word m)).answer ≡ 0 → get_or m.values 31 0 % 16 ≡ 0
unfolding misaligned_stack
stack_aligned w word m t a e r b h =
    let none : Passed (refusals w word m) = none_holds (refusals w word m) (all_refuse w word m) (sym (ap answer_number (answers_exact w word m)) ∙ h) in
    let passed : Passed (access_refusals (admit_of w (length m.memory)) (Moves t a) m) = subst (λ x. Passed (access_refusals (admit_of w (length m.memory)) x m)) e none.1.1.1.1 in
    aligned (get_or m.values 31 0) (rw (r, b) at passed.1.0)
  where
    aligned : (x : ℕ) → not (eqb (x % 16) 0) ≡ false → x % 16 ≡ 0
    aligned x f = eqb-true (x % 16) 0 (not-false (eqb (x % 16) 0) f)
