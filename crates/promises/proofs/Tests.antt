-- Tests and what they say: a test tells whether something holds, and tests in their order give a number. Assumes nothing.
use Prim.Native.Nat.{ℕ, ◌+◌, ◌<◌}
use mathlib.Core.Path.{◌≡◌, refl, sym, ap, ◌∙◌}
use mathlib.Core.Bool.{Bool, true, false, not, ◌||◌}
use mathlib.Core.List.{List, ◌∷◌}
use mathlib.Core.Logic.{◌⊎◌, inl, inr, ◌↔◌}
use native.Mathlib.Omega.{arith}
use borrow.Author.Tests.{eqb-true, eqb-false, ltb-true, ltb-false}
use lib.Dec.{eqb, ltb}
use Rattle.bits.specs.Choice.{pick}
use Rattle.instruction.specs.declared.answer.Answer.{Answer}
use Rattle.instruction.specs.Answers.{answer_number}
use Rattle.plan.specs.Admission.{outside}
use Rattle.image.proofs.Faults.{Tells}
use Rattle.promises.specs.Answered.{one_of, First}

pub impossible : {C : Type 0} → true ≡ false → C
impossible h = absurd (let z : ◌≡◌ {A = ℕ} 0 1 = cc in omega arith)

-- a comparison, in other words
pub less_tells : (a b : ℕ) {P : Type 0} → (a < b → P) → (P → a < b) → Tells (ltb a b) P
less_tells a b f g = ((λ h. f (ltb-true a b h)), (λ h p. omega (arith, g p, ltb-false a b h)))

pub lt_tells : (a b : ℕ) → Tells (ltb a b) (a < b)
lt_tells a b = less_tells a b (λ h. h) (λ h. h)

pub eq_tells : (a b : ℕ) → Tells (eqb a b) (a ≡ b)
eq_tells a b = (eqb-true a b, eqb-false a b)

pub not_tells : (b : Bool) {P : Type 0} → Tells b P → Tells (not b) (¬ P)
not_tells true p = ((λ h. impossible (sym h)), (λ h n. n (p.0 refl)))
not_tells false p = ((λ h. p.1 refl), (λ h. impossible h))

pub or_tells : (a b : Bool) {P Q : Type 0} → Tells a P → Tells b Q → Tells (pick a true b) (P ⊎ Q)
or_tells true b p q = ((λ h. inl (p.0 refl)), (λ h. impossible h))
or_tells false true p q = ((λ h. inr (q.0 refl)), (λ h. impossible h))
or_tells false false {P} {Q} p q = ((λ h. impossible (sym h)), neither)
  where
    neither : {b : Bool} → b ≡ false → (P ⊎ Q) → ⊥
    neither h (inl e) = p.1 refl e
    neither h (inr e) = q.1 refl e

pub any_tells : (a b : Bool) {P Q : Type 0} → Tells a P → Tells b Q → Tells (a || b) (P ⊎ Q)
any_tells true b p q = or_tells true b p q
any_tells false b p q = or_tells false b p q

-- a test that asks for another first
pub and_tells : (a b : Bool) {P Q : Type 0} → Tells a P → Tells b Q → Tells (pick a b false) (P × Q)
and_tells true true p q = ((λ h. (p.0 refl, q.0 refl)), (λ h. impossible h))
and_tells true false p q = ((λ h. impossible (sym h)), (λ h n. q.1 refl n.1))
and_tells false b p q = ((λ h. impossible (sym h)), (λ h n. p.1 refl n.0))

-- one that must hold, and another
pub must_tells : (a b : Bool) {P Q : Type 0} → Tells a P → Tells b Q → Tells (pick a b true) ((¬ P) ⊎ Q)
must_tells true true p q = ((λ h. inr (q.0 refl)), (λ h. impossible h))
must_tells true false {P} {Q} p q = ((λ h. impossible (sym h)), neither)
  where
    neither : {b : Bool} → b ≡ false → ((¬ P) ⊎ Q) → ⊥
    neither h (inl e) = e (p.0 refl)
    neither h (inr e) = q.1 refl e
must_tells false b p q = ((λ h. inl (p.1 refl)), (λ h. impossible h))

-- as an equivalence, and from one
pub exact : (b : Bool) {P : Type 0} → Tells b P → (b ≡ true) ↔ P
exact true p = ((λ h. p.0 refl), (λ h. refl))
exact false p = ((λ h. impossible (sym h)), (λ h. absurd (p.1 refl h)))

pub tells : (b : Bool) {P : Type 0} → (b ≡ true) ↔ P → Tells b P
tells b e = (e.0, (λ h p. impossible (sym (e.1 p) ∙ h)))

-- the same in other words
pub same_tells : {b : Bool} {P Q : Type 0} → (P → Q) → (Q → P) → Tells b P → Tells b Q
same_tells f g p = ((λ h. f (p.0 h)), (λ h q. p.1 h (g q)))

-- bytes outside a window
pub outside_tells : (total a origin len : ℕ) {P Q : Type 0} → (a < origin → P) → (P → a < origin) → (origin + len < a + total → Q) → (Q → origin + len < a + total) → Tells (outside total a origin len) (P ⊎ Q)
unfolding outside
outside_tells total a origin len f g h k = or_tells (ltb a origin) (ltb (origin + len) (a + total)) (less_tells a origin f g) (less_tells (origin + len) (a + total) h k)

-- a number that is 0 or one of some others
pub number_tells : (ks : List ℕ) (n : ℕ) → one_of ks 0 ≡ false → one_of (0 ∷ ks) n ≡ true → Tells (not (eqb n 0)) (one_of ks n ≡ true)
number_tells ks n none h = at (eqb n 0) refl h
  where
    at : (b : Bool) → eqb n 0 ≡ b → pick b true (one_of ks n) ≡ true → Tells (not b) (one_of ks n ≡ true)
    at true e i =
        let z : one_of ks n ≡ false = ap (one_of ks) (eqb-true n 0 e) ∙ none in
        ((λ t. impossible (sym t)), (λ t o. impossible (sym o ∙ z)))
    at false e i = ((λ t. i), (λ t. impossible t))

-- a refusal before others
pub first_tells : (n : ℕ) (b : Bool) (answer : Answer) {P G Q : Type 0} → Tells b P → (G ↔ Q)
    → (((b ≡ true) × (answer_number answer ≡ n)) ⊎ ((b ≡ false) × G)) ↔ First n (answer_number answer) P Q
first_tells n b answer {P} {G} {Q} p further = (to, back b p)
  where
    to : (((b ≡ true) × (answer_number answer ≡ n)) ⊎ ((b ≡ false) × G)) → First n (answer_number answer) P Q
    to (inl (t, e)) = inl (p.0 t, sym e)
    to (inr (f, g)) = inr (p.1 f, further.0 g)

    back : (b : Bool) → Tells b P → First n (answer_number answer) P Q → ((b ≡ true) × (answer_number answer ≡ n)) ⊎ ((b ≡ false) × G)
    back true p (inl (h, e)) = inl (refl, sym e)
    back true p (inr (h, q)) = absurd (h (p.0 refl))
    back false p (inl (h, e)) = absurd (p.1 refl h)
    back false p (inr (h, q)) = inr (refl, further.1 q)
