-- What a word's row says of its answer and its instruction, and what the answer of examining a word says. Assumes nothing.
use Prim.Native.Nat.{ℕ}
use mathlib.Core.Path.{◌≡◌, refl, ap, ◌∙◌}
use mathlib.Core.Logic.{◌⊎◌, inl, inr}
use mathlib.Core.Bool.{Bool, true, false, ◌&&◌, not}
use lib.Dec.{eqb}
use Rattle.std.specs.Prelude.{Result, Ok, Err}
use Rattle.bits.specs.Choice.{pick}
use Rattle.instruction.specs.declared.answer.Answer.{Answer}
use Rattle.instruction.specs.declared.answer.Decoded.{Decoded}
use Rattle.instruction.specs.declared.family.Instruction.{Instruction}
use Rattle.instruction.specs.Answers.{answer_number}
use Rattle.instruction.specs.Table.{Columns, columns_of, instruction_of, in_set, row_of, undefined, allocated, unpredictable}
use Rattle.decoder.specs.Decoding.{decode_of, decoded_from, as_decoded, class_of, empty}
use Rattle.instruction.proofs.Rows.{is_row, set_is}

-- ---- by the row

both : {A : Type 0} (b u : Bool) (x y : A) → pick (b && not u) x y ≡ pick b (pick u y x) y
both false u x y = refl
both true false x y = refl
both true true x y = refl

module _ (w : ℕ) where
  abbrev of_row : Columns
  of_row = columns_of (row_of w)

  pub class_by : class_of w ≡ pick (is_row (row_of w)) (pick (of_row.undefined w) Answer.Undefined (pick (of_row.unpredictable w) Answer.Unpredictable Answer.Done)) Answer.NotInSet
  unfolding class_of undefined unpredictable
  class_by = rw (set_is w)

  pub instruction_by : (decode_of w).instruction ≡ pick (is_row (row_of w)) (pick (of_row.undefined w) empty (record { family = of_row.family w })) empty
  unfolding decode_of allocated undefined instruction_of
  instruction_by = rw (set_is w, both (is_row (row_of w)) (of_row.undefined w) (record { family = of_row.family w }) empty)

-- ---- by the answer of examining

-- what examining a word gives
abbrev pub Examined : ℕ → Decoded → Type 0
Examined w r = (r.answer ≡ class_of w) × (r.instruction ≡ (decode_of w).instruction)

abbrev class : Bool → Bool → Bool → Answer
class s u v = pick s (pick u Answer.Undefined (pick v Answer.Unpredictable Answer.Done)) Answer.NotInSet

decoding : (s u v : Bool) → pick (eqb (answer_number (class s u v)) 4) Answer.Done (class s u v) ≡ pick s (pick u Answer.Undefined Answer.Done) Answer.NotInSet
decoding false u v = refl
decoding true true v = refl
decoding true false true = refl
decoding true false false = refl

marked : (s u v : Bool) → class s u v ≡ Answer.Done ⊎ class s u v ≡ Answer.Unpredictable → true ≡ (s && not u)
marked false u v (inl e) = cc
marked false u v (inr e) = cc
marked true true v (inl e) = cc
marked true true v (inr e) = cc
marked true false v e = refl

unmarked : (s u v : Bool) → ¬ (class s u v ≡ Answer.Done) → ¬ (class s u v ≡ Answer.Unpredictable) → false ≡ (s && not u)
unmarked false u v n m = refl
unmarked true true v n m = refl
unmarked true false true n m = absurd (m refl)
unmarked true false false n m = absurd (n refl)

refused : (s u : Bool) (i : Instruction) → ¬ (pick s (pick u Answer.Undefined Answer.Done) Answer.NotInSet ≡ Answer.Done) → pick (s && not u) i empty ≡ empty
refused false u i n = refl
refused true true i n = refl
refused true false i n = absurd (n refl)

-- decoding answers no 4
pub decoded_is : (w : ℕ) {r : Decoded} → Examined w r → decoded_from r ≡ decode_of w
unfolding class_of decode_of
decoded_is w p = rw (p.0, p.1, decoding (in_set w) (undefined w) (unpredictable w))

-- what is found in a decoding, of which a refusal has the empty instruction
found_as : (a : Answer) (i : Instruction) {r : Result Instruction Answer} → (¬ (a ≡ Answer.Done) → i ≡ empty)
    → (a ≡ Answer.Done → r ≡ Ok i) → (¬ (a ≡ Answer.Done) → r ≡ Err a) → as_decoded r ≡ record { answer = a; instruction = i }
found_as Answer.Done i n d e = rw (d refl)
found_as a i n d e = let o : ¬ (a ≡ Answer.Done) = λ q. cc in rw (e o, n o)

pub found_is : {d x : Decoded} {r : Result Instruction Answer} → d ≡ x → (¬ (x.answer ≡ Answer.Done) → x.instruction ≡ empty)
    → (d.answer ≡ Answer.Done → r ≡ Ok d.instruction) → (¬ (d.answer ≡ Answer.Done) → r ≡ Err d.answer) → as_decoded r ≡ x
found_is {d} h none done refusal =
    let a = ap (λ (y : Decoded). y.answer) h in
    let i = ap (λ (y : Decoded). y.instruction) h in
    found_as d.answer d.instruction (λ n. i ∙ none (λ q. n (a ∙ q))) done refusal ∙ h

pub refused_empty : (w : ℕ) → ¬ ((decode_of w).answer ≡ Answer.Done) → (decode_of w).instruction ≡ empty
unfolding decode_of allocated
refused_empty w n = refused (in_set w) (undefined w) (instruction_of w) n

pub allocated_when : (w : ℕ) {a : Answer} → a ≡ class_of w → a ≡ Answer.Done ⊎ a ≡ Answer.Unpredictable → true ≡ allocated w
unfolding class_of allocated
allocated_when w e h = marked (in_set w) (undefined w) (unpredictable w) (rw e at h)

pub allocated_else : (w : ℕ) {a : Answer} → a ≡ class_of w → ¬ (a ≡ Answer.Done) → ¬ (a ≡ Answer.Unpredictable) → false ≡ allocated w
unfolding class_of allocated
allocated_else w e n m = unmarked (in_set w) (undefined w) (unpredictable w) (rw e at n) (rw e at m)
