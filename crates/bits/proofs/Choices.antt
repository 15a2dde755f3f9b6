-- Laws of choices: by a test, by a table, and by cases. Assumes nothing.
use Rattle.std.proofs.Common.{◌≡◌, ℕ, zero, suc, ◌<◌, Bool, true, false, ◌&&◌, ◌||◌, eqb, List, [], ◌∷◌, sym, refl, ap, ◌∙◌, not-suc-le-zero, arith, ne_eqb, eqb-true}
use borrow.Author.Tests.{eqb-false}
use Rattle.bits.specs.Choice.{pick, lookup}

-- a fact of a choice, from the same of what can be chosen
pub pick_by : {A : Type 0} (P : A → Type 0) (b : Bool) {x y : A} → (b ≡ true → P x) → (b ≡ false → P y) → P (pick b x y)
pick_by P true f g = f refl
pick_by P false f g = g refl

-- a choice that is not its second is its first, and the test holds
pub picked : {A : Type 0} (b : Bool) {x y z : A} → pick b x y ≡ z → ¬ (y ≡ z) → (b ≡ true) × (x ≡ z)
picked true h n = (refl, h)
picked false h n = absurd (n h)

pub both : (a b : Bool) → (a && b) ≡ true → (a ≡ true) × (b ≡ true)
both true b h = (refl, h)
both false b h = (h, cc)

pub neither : (a b : Bool) → (a || b) ≡ false → (a ≡ false) × (b ≡ false)
neither true b h = (h, cc)
neither false b h = (refl, h)

-- a test that is computed for each number below n, and what it shows of one of them
abbrev pub up_to : ℕ → (ℕ → Bool) → Bool
up_to zero p = true
up_to (suc n) p = p n && up_to n p

one_more : (n : ℕ) (p : ℕ → Bool) (k : ℕ) → k < suc n → p n ≡ true → (k < n → p k ≡ true) → (b : Bool) → eqb k n ≡ b → p k ≡ true
one_more n p k l last rest true e = ap p (eqb-true k n e) ∙ last
one_more n p k l last rest false e = rest (omega (arith, eqb-false k n e))

pub tested : (n : ℕ) (p : ℕ → Bool) → up_to n p ≡ true → (k : ℕ) → k < n → p k ≡ true
tested zero p h k l = absurd (not-suc-le-zero l)
tested (suc n) p h k l =
    let t = both (p n) (up_to n p) h in
    one_more n p k l t.0 (λ m. tested n p t.1 k m) (eqb k n) refl

-- ---- tables

-- a test that is computed for each entry of a table and for what it leaves, and what it shows of what is looked up
abbrev pub every : {A : Type 0} → (A → Bool) → A → List (ℕ × A) → Bool
every p d [] = p d
every p d (e ∷ es) = p e.1 && every p d es

looked : {A : Type 0} (p : A → Bool) (d : A) (t : List (ℕ × A)) → every p d t ≡ true → (k : ℕ) → p (lookup d t k) ≡ true
looked p d [] h k = h
looked p d (e ∷ es) h k =
    let b = both (p e.1) (every p d es) h in
    pick_by (λ x. p x ≡ true) (eqb k e.0) (λ q. b.0) (λ q. looked p d es b.1 k)

-- where all things are found by their codes, it shows the same of each
pub each : {A : Type 0} (d : A) (t : List (ℕ × A)) (code : A → ℕ) → ((a : A) → lookup d t (code a) ≡ a) → (p : A → Bool) → every p d t ≡ true
    → (a : A) → p a ≡ true
each d t code back p h a = ap p (sym (back a)) ∙ looked p d t h (code a)

-- what `_` of a match says of a number: it is no key, as a tuple nested to the left
abbrev pub Absent : {A : Type 0} → Type 0 → List (ℕ × A) → ℕ → Type 0
Absent B [] k = B
Absent B (e ∷ es) k = Absent (B × (k ≡ e.0 → ⊥)) es k

before : {A B : Type 0} (t : List (ℕ × A)) (k : ℕ) → Absent B t k → B
before [] k h = h
before (e ∷ es) k h = (before es k h).0

absent_from : {A : Type 0} (B : Type 0) (d : A) (t : List (ℕ × A)) (k : ℕ) → Absent B t k → d ≡ lookup d t k
absent_from B d [] k h = refl
absent_from B d (e ∷ es) k h = rw (ne_eqb k e.0 (before es k h).1) (absent_from (B × (k ≡ e.0 → ⊥)) d es k h)

pub absent : {A : Type 0} (d : A) (t : List (ℕ × A)) (k : ℕ) → Absent (Unit {0}) t k → d ≡ lookup d t k
absent d t k h = absent_from (Unit {0}) d t k h

-- what an arm of a match says of a number: it is the key of an entry
pub entry : {A : Type 0} (d : A) (t : List (ℕ × A)) {k n : ℕ} → k ≡ n → lookup d t n ≡ lookup d t k
entry d t e = ap (lookup d t) (sym e)
