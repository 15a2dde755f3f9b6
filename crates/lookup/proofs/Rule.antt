-- The rule of the entries, computed once over all of them. Assumes nothing.
use Prim.Native.Nat.{ℕ, zero, suc, ◌+◌, ◌*◌, ◌^◌, ◌<◌}
use mathlib.Core.Path.{◌≡◌, refl, ap, ◌∙◌}
use mathlib.Core.Bool.{Bool, true, false, ◌&&◌, ◌||◌, not}
use mathlib.Core.List.{List, [], ◌∷◌}
use native.Mathlib.Nat.{not-suc-le-zero}
use native.Mathlib.Omega.{arith}
use lib.Dec.{eqb}
use lib.ListN.{get_or}
use borrow.Author.Tests.{eqb-true}
use Rattle.bits.specs.Fields.{part}
use Rattle.bits.proofs.Choices.{both, tested}
use Rattle.instruction.specs.declared.row.Row.{Row}
use Rattle.instruction.specs.Table.{rows}
use Rattle.instruction.specs.Undefined.{undefined_size, undefined_literal, undefined_pair}
use Rattle.lookup.specs.Entries.{allows, families_in, code_in, names, operation_code, entry_of, tabulate, entries}

-- ---- a test of every row, and what it shows of one

abbrev all : (Row → Bool) → List Row → Bool
all p [] = true
all p (r ∷ rs) = p r && all p rs

abbrev All : (Row → Bool) → List Row → Type 0
All p [] = Unit {0}
All p (r ∷ rs) = (p r ≡ true) × All p rs

all_true : (p : Row → Bool) (rs : List Row) → all p rs ≡ true → All p rs
all_true p [] h = tt
all_true p (r ∷ rs) h = let b = both (p r) (all p rs) h in (b.0, all_true p rs b.1)

of_row : (p : Row → Bool) → All p rows → (r : Row) → ¬ (r ≡ Row.NoRow) → p r ≡ true
of_row p h Row.NoRow n = absurd (n refl)
of_row p h Row.LiteralRow n = h.0
of_row p h Row.PairRow n = h.1.0
of_row p h Row.OrderedRow n = h.1.1.0
of_row p h Row.UnscaledRow n = h.1.1.1.0
of_row p h Row.PostRow n = h.1.1.1.1.0
of_row p h Row.PreRow n = h.1.1.1.1.1.0
of_row p h Row.RegisterRow n = h.1.1.1.1.1.1.0
of_row p h Row.UnsignedRow n = h.1.1.1.1.1.1.1.0
of_row p h Row.LoadExclusiveRow n = h.1.1.1.1.1.1.1.1.0
of_row p h Row.StoreExclusiveRow n = h.1.1.1.1.1.1.1.1.1.0
of_row p h Row.AcquireReleaseRow n = h.1.1.1.1.1.1.1.1.1.1.0

-- ---- the rule

abbrev pub alike : Bool → Bool → Bool
alike true b = b
alike false b = not b

pub alike_true : (a b : Bool) → alike a b ≡ true → a ≡ b
alike_true true true h = refl
alike_true true false h = cc
alike_true false true h = cc
alike_true false false h = refl

either : (a b : Bool) → (not a || b) ≡ true → a ≡ true → b ≡ true
either true b h e = h
either false b h e = cc

abbrev named : ℕ → Row → Bool
named ten r = alike (names (families_in (entry_of ten)) r) (allows ten r)

abbrev coded : ℕ → Row → Bool
coded ten r = not (allows ten r) || eqb (code_in (entry_of ten)) (operation_code r (ten * 2 ^ 22))

rule : ℕ → Bool
rule ten = all (λ r. named ten r && coded ten r) rows

ruled : (ten : ℕ) → ten < 1024 → rule ten ≡ true
unfolding rule entry_of part undefined_size undefined_literal undefined_pair
ruled ten h = tested 1024 rule refl ten h

module _ (ten : ℕ) (h : ten < 1024) (r : Row) (n : ¬ (r ≡ Row.NoRow)) where
  both_rules : (named ten r ≡ true) × (coded ten r ≡ true)
  unfolding rule
  both_rules = both (named ten r) (coded ten r) (of_row (λ x. named ten x && coded ten x) (all_true (λ x. named ten x && coded ten x) rows (ruled ten h)) r n)

  -- an entry names exactly the rows that its ten bits allow
  pub names_allowed : names (families_in (entry_of ten)) r ≡ allows ten r
  names_allowed = alike_true (names (families_in (entry_of ten)) r) (allows ten r) both_rules.0

  -- and gives their operation code
  pub code_allowed : allows ten r ≡ true → code_in (entry_of ten) ≡ operation_code r (ten * 2 ^ 22)
  code_allowed a = eqb-true (code_in (entry_of ten)) (operation_code r (ten * 2 ^ 22)) (either (allows ten r) (eqb (code_in (entry_of ten)) (operation_code r (ten * 2 ^ 22))) both_rules.1 a)

-- ---- the list of entries

at_from : (f : ℕ → ℕ) (i n k : ℕ) → k < n → get_or (tabulate i n f) k 0 ≡ f (i + k)
at_from f i zero k h = absurd (not-suc-le-zero h)
at_from f i (suc n) zero h = ap f (omega arith)
at_from f i (suc n) (suc k) h = at_from f (suc i) n k (omega arith) ∙ ap f (omega arith)

pub entry_is : (ten : ℕ) → ten < 1024 → get_or entries ten 0 ≡ entry_of ten
unfolding entries
entry_is ten h = at_from entry_of 0 1024 ten h ∙ ap entry_of (omega arith)

-- lists that a test finds equal
abbrev equal : List ℕ → List ℕ → Bool
equal [] [] = true
equal [] (y ∷ ys) = false
equal (x ∷ xs) [] = false
equal (x ∷ xs) (y ∷ ys) = eqb x y && equal xs ys

pub equal_true : (xs ys : List ℕ) → equal xs ys ≡ true → xs ≡ ys
equal_true [] [] h = refl
equal_true [] (y ∷ ys) h = cc
equal_true (x ∷ xs) [] h = cc
equal_true (x ∷ xs) (y ∷ ys) h =
    let b = both (eqb x y) (equal xs ys) h in
    let e = eqb-true x y b.0 in
    let f = equal_true xs ys b.1 in
    cc
