-- Laws of the tests of a plan. Assumes nothing.
use Rattle.std.proofs.Common.{◌≡◌, ℕ, ◌+◌, ◌%◌, ◌^◌, ◌<◌, ◌≤◌, Bool, true, false, not, eqb, ltb, List, ◌++◌, Result, is_err, sym, refl, ap, ◌∙◌, subst, arith, ltb-false, ltb-true, eqb-true}
use Rattle.bits.specs.Choice.{pick}
use Rattle.instruction.specs.declared.answer.Answer.{Answer}
use Rattle.instruction.specs.declared.answer.Answer.TheVariants.{TaintedAddress, Misaligned}
use Rattle.instruction.specs.Answers.{answer_number}
use Rattle.access.specs.declared.transfer.Transfer.{Transfer}
use Rattle.access.specs.declared.addressing.Addressing.{Addressing}
use Rattle.plan.specs.declared.window.Window.{Window}
use Rattle.plan.specs.declared.operands.Operands.{Operands}
use Rattle.plan.specs.Window.{bad_window}
use Rattle.plan.specs.Refusals.{Refusal, first_of, answer_in, verdict_in}
use Rattle.plan.specs.Admission.{total_of, outside, placed, admit_of}
use Rattle.plan.specs.Ranges.{admit_ranges, admit_in}
use Rattle.plan.specs.route.Reaches.{reach_of}
use Rattle.plan.specs.declared.ranges.Reach.{Reach}
use Rattle.plan.specs.declared.ranges.Reach.TheVariants.{Alone, Ranged}
use Rattle.plan.specs.Address.{sum_of, address_of}
use Rattle.plan.specs.Plans.{Plan, Refuse, Touch, misaligned_stack, refusals_of, plan_of}
use Rattle.plan.proofs.Refusals.{Passed, Each, each, each_map, first_by, Reports, refused_at, by_verdict, verdict_refused}

-- two tests that hold together are one: the code subtracts where the definitions add
same_at : (a b c d : ℕ) (t u : Bool) → ltb a b ≡ t → ltb c d ≡ u → (a < b → c < d) → (c < d → a < b) → t ≡ u
same_at a b c d true true p q f g = refl
same_at a b c d false false p q f g = refl
same_at a b c d true false p q f g = absurd (omega (arith, f (ltb-true a b p), ltb-false c d q))
same_at a b c d false true p q f g = absurd (omega (arith, g (ltb-true c d q), ltb-false a b p))

pub same_test : (a b c d : ℕ) → (a < b → c < d) → (c < d → a < b) → ltb a b ≡ ltb c d
same_test a b c d f g = same_at a b c d (ltb a b) (ltb c d) refl refl f g

-- what a test that holds decides, and what one that doesn't leaves
pub passed : {A : Type 0} (b : Bool) (x : A) {y : A} → b ≡ false → y ≡ pick b x y
passed b x e = rw e

pub held : {A : Type 0} (b : Bool) (x y : A) → b ≡ true → x ≡ pick b x y
held b x y e = rw e

-- where an access lies that is not outside
pub record Inside (total a origin len : ℕ) : Type 0 where
  pub starts : origin ≤ a
  pub ends : a + total ≤ origin + len

inside_at : (a origin far end : ℕ) (t : Bool) → ltb a origin ≡ t → pick t true (ltb far end) ≡ false → (origin ≤ a) × (end ≤ far)
inside_at a origin far end true e h = absurd (let z : ◌≡◌ {A = ℕ} 0 1 = cc in omega arith)
inside_at a origin far end false e h = (ltb-false a origin e, ltb-false far end h)

pub not_outside : (total a origin len : ℕ) → outside total a origin len ≡ false → Inside total a origin len
unfolding outside
not_outside total a origin len h =
    let p = inside_at a origin (origin + len) _ (ltb a origin) refl h in
    record { starts = p.0; ends = omega (arith, p.1) }

-- 6 and 7 are tested first, whatever may be reached
pub admit_placed : (w : Window) (reach : Reach) (len : ℕ) (t : Transfer) (a : ℕ) → admit_in w reach len t a ≡ placed w.origin len t a ++ reach_of w reach t.store (total_of t) a
unfolding admit_of admit_ranges
admit_placed w Alone len t a = refl
admit_placed w (Ranged r) len t a = refl

pub verdict_placed : (w : Window) (reach : Reach) (len : ℕ) (t : Transfer) (a : ℕ) {r : Result (Unit {0}) Answer} → r ≡ verdict_in (placed w.origin len t a ++ reach_of w reach t.store (total_of t) a) → r ≡ verdict_in (admit_in w reach len t a)
verdict_placed w reach len t a h = h ∙ ap verdict_in (sym (admit_placed w reach len t a))

-- an admitted access lies in the window
pub admit_inside : (w : Window) (reach : Reach) (len : ℕ) (t : Transfer) (a : ℕ) → Passed (admit_in w reach len t a) → Inside (total_of t) a w.origin len
admit_inside w reach len t a p = not_outside (total_of t) a w.origin len (rw (admit_placed w reach len t a) at p).1.1.0

abbrev address : Plan → ℕ
address (Refuse answer a) = a
address (Touch a n) = a

-- a touch was admitted
touched_at : (admit : Transfer → ℕ → List Refusal) (t : Transfer) (x s a n : ℕ) → Passed (admit t x) → Touch x s ≡ Touch a n → Passed (admit t a)
touched_at admit t x s a n p h = subst (λ (y : ℕ). Passed (admit t y)) (ap address h) p

not_touched : (answer : Answer) (x a n : ℕ) {B : Type 0} → Refuse answer x ≡ Touch a n → B
not_touched answer x a n h = absurd (let z : ◌≡◌ {A = ℕ} 0 1 = cc in omega arith)

touch_admitted : (admit : Transfer → ℕ → List Refusal) (t : Transfer) (d : Addressing) (o : Operands) {a n : ℕ} → plan_of admit t d o ≡ Touch a n → Passed (admit t a)
unfolding plan_of
touch_admitted admit t d o {a} {n} h =
    first_by (λ (p : Plan). p ≡ Touch a n → Passed (admit t a)) Refuse (Touch (address_of d o) (sum_of d o)) (refusals_of admit t d o) (each (λ e. not_touched e.answer e.address a n) (refusals_of admit t d o))
    (λ p. touched_at admit t (address_of d o) (sum_of d o) a n p.1.1) h

-- a planned touch lies in the window
pub touch_inside : (w : Window) (reach : Reach) (len : ℕ) (t : Transfer) (d : Addressing) (o : Operands) {p : Plan} {a n : ℕ} → p ≡ plan_of (admit_in w reach len) t d o → p ≡ Touch a n → Inside (total_of t) a w.origin len
touch_inside w reach len t d o {p} {a} e h = admit_inside w reach len t a (touch_admitted (admit_in w reach len) t d o (sym e ∙ h))

-- the three ways that planning ends: tainted, with a stack pointer that is not aligned, or by what the admission answers
pub plan_tainted : (admit : Transfer → ℕ → List Refusal) (t : Transfer) (d : Addressing) (o : Operands) → o.tainted ≡ true → Refuse TaintedAddress 0 ≡ plan_of admit t d o
unfolding plan_of misaligned_stack
plan_tainted admit t d o e = rw e

pub plan_stack : (admit : Transfer → ℕ → List Refusal) (t : Transfer) (d : Addressing) (o : Operands) {u : Bool} → o.tainted ≡ false → u ≡ misaligned_stack d.base o.base → u ≡ true
    → Refuse Misaligned o.base ≡ plan_of admit t d o
unfolding plan_of misaligned_stack
plan_stack admit t d o e f g = held (misaligned_stack d.base o.base) (Refuse Misaligned o.base) (first_of Refuse (Touch (address_of d o) (sum_of d o)) (admit t (address_of d o))) (sym f ∙ g) ∙ passed o.tainted (Refuse TaintedAddress 0) e

admit_answers : (w : Window) (reach : Reach) (len : ℕ) (t : Transfer) (a : ℕ) → Each (Reports a) (admit_in w reach len t a)
unfolding admit_of admit_ranges
admit_answers w Alone len t a = ((refl, λ h. omega arith), ((refl, λ h. omega arith), ((refl, λ h. omega arith), ((refl, λ h. omega arith), tt))))
admit_answers w (Ranged r) len t a = ((refl, λ h. omega arith), ((refl, λ h. omega arith), ((refl, λ h. omega arith), ((refl, λ h. omega arith), ((refl, λ h. omega arith), tt)))))

pub plan_admitted : (w : Window) (reach : Reach) (len : ℕ) (t : Transfer) (d : Addressing) (o : Operands) {u : Bool} {s x : ℕ} {r : Result (Unit {0}) Answer} → o.tainted ≡ false → u ≡ misaligned_stack d.base o.base → u ≡ false → s ≡ sum_of d o → x ≡ pick d.post o.base s
    → r ≡ verdict_in (admit_in w reach len t x) → refused_at Refuse (Touch x s) x r ≡ plan_of (admit_in w reach len) t d o
unfolding plan_of misaligned_stack
plan_admitted w reach len t d o {u} {s} {x} {r} e f v p q g =
    let admitted : refused_at Refuse (Touch x s) x r ≡ first_of Refuse (Touch (address_of d o) (sum_of d o)) (admit_in w reach len t (address_of d o)) =
    rw (← p, ← q, g) (sym (by_verdict Refuse (Touch x s) x (admit_in w reach len t x) (admit_answers w reach len t x)))
    in
    admitted ∙ passed (misaligned_stack d.base o.base) (Refuse Misaligned o.base) (sym f ∙ v) ∙ passed o.tainted (Refuse TaintedAddress 0) e

-- an admission is an error exactly where its answer is not 0
pub admitted_refused : (w : Window) (len : ℕ) (t : Transfer) (a : ℕ) → is_err (verdict_in (admit_of w len t a)) ≡ not (eqb (answer_number (answer_in (admit_of w len t a))) 0)
admitted_refused w len t a = verdict_refused (admit_of w len t a) (each_map (λ e h. h.1) (admit_of w len t a) (admit_answers w Alone len t a))

lengths_at : (a b c : Bool) (taints len : ℕ) → eqb taints len ≡ c → (d : Bool) → pick a true (pick b true (pick (not c) true d)) ≡ false → taints ≡ len
lengths_at true b c taints len e d h = absurd (let z : ◌≡◌ {A = ℕ} 0 1 = cc in omega arith)
lengths_at false true c taints len e d h = absurd (let z : ◌≡◌ {A = ℕ} 0 1 = cc in omega arith)
lengths_at false false false taints len e d h = absurd (let z : ◌≡◌ {A = ℕ} 0 1 = cc in omega arith)
lengths_at false false true taints len e d h = eqb-true taints len e

-- a window that is not bad has a taint byte for each byte
pub same_lengths : (w : Window) (len taints pc : ℕ) → bad_window w len taints pc ≡ false → taints ≡ len
unfolding bad_window
same_lengths w len taints pc h =
    lengths_at (ltb (2 ^ 64) (w.origin + len)) (ltb len w.readonly) (eqb taints len) taints len refl (not (eqb (pc % 4) 0)) h
