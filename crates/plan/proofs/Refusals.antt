-- Laws of a list of refusals: the first that holds decides. Assumes nothing.
use Rattle.std.proofs.Common.{◌≡◌, ℕ, Bool, true, false, not, eqb, ◌⊎◌, ◌↔◌, List, [], ◌∷◌, Result, Ok, Err, is_err, sym, refl, inl, inr, arith, ne_eqb}
use Rattle.bits.specs.Choice.{pick}
use Rattle.bits.proofs.Choices.{pick_by}
use Rattle.instruction.specs.declared.answer.Answer.{Answer}
use Rattle.instruction.specs.Answers.{answer_number}
use Rattle.plan.specs.Refusals.{Refusal, first_of, answer_in, verdict_in, Given}

-- no refusal holds
abbrev pub Passed : List Refusal → Type 0
Passed [] = Unit {0}
Passed (e ∷ es) = (e.holds ≡ false) × Passed es

-- each is such a one
abbrev pub Each : (Refusal → Type 0) → List Refusal → Type 0
Each P [] = Unit {0}
Each P (e ∷ es) = P e × Each P es

pub each : {P : Refusal → Type 0} → ((e : Refusal) → P e) → (es : List Refusal) → Each P es
each f [] = tt
each f (e ∷ es) = (f e, each f es)

pub each_map : {P Q : Refusal → Type 0} → ((e : Refusal) → P e → Q e) → (es : List Refusal) → Each P es → Each Q es
each_map f [] h = tt
each_map f (e ∷ es) h = (f e h.0, each_map f es h.1)

-- a fact of what comes of a list, from the same of each refusal, and of what is done where none holds
pub first_by : {A : Type 0} (P : A → Type 0) (refuse : Answer → ℕ → A) (done : A) (es : List Refusal) → Each (λ e. P (refuse e.answer e.address)) es → (Passed es → P done)
    → P (first_of refuse done es)
first_by P refuse done [] h d = d tt
first_by P refuse done (e ∷ es) h d = pick_by P e.holds (λ t. h.0) (λ f. first_by P refuse done es h.1 (λ p. d (f, p)))

-- what is made of what comes of a list
map_at : {A B : Type 0} (g : A → B) (b : Bool) (x y : A) (z : B) → g y ≡ z → g (pick b x y) ≡ pick b (g x) z
map_at g true x y z e = refl
map_at g false x y z e = e

pub first_map : {A B : Type 0} (g : A → B) (refuse : Answer → ℕ → A) (done : A) (es : List Refusal) → g (first_of refuse done es) ≡ first_of (λ answer address. g (refuse answer address)) (g done) es
first_map g refuse done [] = refl
first_map g refuse done (e ∷ es) = map_at g e.holds (refuse e.answer e.address) (first_of refuse done es) _ (first_map g refuse done es)

-- refusals that all report one address, and none of which is 0: their answer decides
abbrev pub Reports : ℕ → Refusal → Type 0
Reports a e = (e.address ≡ a) × ¬ (answer_number e.answer ≡ 0)

answer_at : {A : Type 0} (refuse : Answer → ℕ → A) (done : A) (a : ℕ) (b : Bool) (e : Refusal) (other : Answer) (x : A) → Reports a e → x ≡ pick (eqb (answer_number other) 0) done (refuse other a)
    → pick b (refuse e.answer e.address) x ≡ pick (eqb (answer_number (pick b e.answer other)) 0) done (refuse (pick b e.answer other) a)
answer_at refuse done a true e other x h k = rw (ne_eqb (answer_number e.answer) 0 h.1, h.0)
answer_at refuse done a false e other x h k = k

pub by_answer : {A : Type 0} (refuse : Answer → ℕ → A) (done : A) (a : ℕ) (es : List Refusal) → Each (Reports a) es
    → first_of refuse done es ≡ pick (eqb (answer_number (answer_in es)) 0) done (refuse (answer_in es) a)
by_answer refuse done a [] h = refl
by_answer refuse done a (e ∷ es) h = answer_at refuse done a e.holds e (answer_in es) _ h.0 (by_answer refuse done a es h.1)

-- the same of what a function returns, whose error needs no number
abbrev pub refused_at : {A : Type 0} → (Answer → ℕ → A) → A → ℕ → Result (Unit {0}) Answer → A
refused_at refuse done a (Ok u) = done
refused_at refuse done a (Err answer) = refuse answer a

verdict_at : {A : Type 0} (refuse : Answer → ℕ → A) (done : A) (a : ℕ) (b : Bool) (e : Refusal) (other : Result (Unit {0}) Answer) (x : A) → Reports a e → x ≡ refused_at refuse done a other
    → pick b (refuse e.answer e.address) x ≡ refused_at refuse done a (pick b (Err e.answer) other)
verdict_at refuse done a true e other x h k = rw h.0
verdict_at refuse done a false e other x h k = k

pub by_verdict : {A : Type 0} (refuse : Answer → ℕ → A) (done : A) (a : ℕ) (es : List Refusal) → Each (Reports a) es → first_of refuse done es ≡ refused_at refuse done a (verdict_in es)
by_verdict refuse done a [] h = refl
by_verdict refuse done a (e ∷ es) h = verdict_at refuse done a e.holds e (verdict_in es) _ h.0 (by_verdict refuse done a es h.1)

-- it is an error exactly where the answer is not 0
error_at : (b : Bool) (answer other : Answer) (r : Result (Unit {0}) Answer) → ¬ (answer_number answer ≡ 0) → is_err r ≡ not (eqb (answer_number other) 0) → is_err (pick b (Err answer) r) ≡ not (eqb (answer_number (pick b answer other)) 0)
error_at true answer other r z h = rw (ne_eqb (answer_number answer) 0 z)
error_at false answer other r z h = h

pub verdict_refused : (es : List Refusal) → Each (λ e. ¬ (answer_number e.answer ≡ 0)) es → is_err (verdict_in es) ≡ not (eqb (answer_number (answer_in es)) 0)
verdict_refused [] z = refl
verdict_refused (e ∷ es) z = error_at e.holds e.answer (answer_in es) (verdict_in es) z.0 (verdict_refused es z.1)

-- where the answer is 0 none holds
passed_at : (b : Bool) (e : Refusal) (other : Answer) {B : Type 0} → ¬ (answer_number e.answer ≡ 0) → answer_number (pick b e.answer other) ≡ 0 → (answer_number other ≡ 0 → B) → (b ≡ false) × B
passed_at true e other z h k = absurd (z h)
passed_at false e other z h k = (refl, k h)

pub none_holds : (es : List Refusal) → Each (λ e. ¬ (answer_number e.answer ≡ 0)) es → answer_number (answer_in es) ≡ 0 → Passed es
none_holds [] z h = tt
none_holds (e ∷ es) z h = passed_at e.holds e (answer_in es) z.0 h (none_holds es z.1)

-- a number other than 0 is answered exactly if its refusal holds and none before it
given_at : (n : ℕ) (b : Bool) (answer other : Answer) {G : Type 0} → (answer_number other ≡ n → G) → answer_number (pick b answer other) ≡ n → ((b ≡ true) × (answer_number answer ≡ n)) ⊎ ((b ≡ false) × G)
given_at n true answer other h e = inl (refl, e)
given_at n false answer other h e = inr (refl, h e)

given_back : (n : ℕ) (b : Bool) (answer other : Answer) {G : Type 0} → (G → answer_number other ≡ n) → ((b ≡ true) × (answer_number answer ≡ n)) ⊎ ((b ≡ false) × G) → answer_number (pick b answer other) ≡ n
given_back n true answer other h (inl (t, e)) = e
given_back n true answer other h (inr (f, g)) = absurd (let z : ◌≡◌ {A = ℕ} 0 1 = cc in omega arith)
given_back n false answer other h (inl (t, e)) = absurd (let z : ◌≡◌ {A = ℕ} 0 1 = cc in omega arith)
given_back n false answer other h (inr (f, g)) = h g

pub given : (n : ℕ) → ¬ (n ≡ 0) → (es : List Refusal) → (answer_number (answer_in es) ≡ n) ↔ Given n es
given n z [] = ((λ e. z (sym e)), (λ g. absurd g))
given n z (e ∷ es) =
    let further = given n z es in
    (given_at n e.holds e.answer (answer_in es) further.0, given_back n e.holds e.answer (answer_in es) further.1)
