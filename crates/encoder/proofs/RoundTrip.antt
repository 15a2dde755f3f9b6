-- Words and instructions lead back to each other: the two round trips, over the definitions that `decode` and `encode` are
-- proved to meet. Assumes nothing.
use Prim.Native.Nat.{ℕ, ◌^◌, ◌<◌}
use mathlib.Core.Path.{◌≡◌, refl, sym, ap, ◌∙◌}
use mathlib.Core.Bool.{Bool, true, false, not}
use mathlib.Core.Logic.{◌⊎◌, inl, inr}
use native.Mathlib.Omega.{arith}
use borrow.Author.Tests.{not-true}
use Rattle.std.specs.Prelude.{Option, Some, None}
use Rattle.bits.specs.Choice.{pick}
use Rattle.bits.proofs.Choices.{both}
use Rattle.instruction.specs.declared.answer.Answer.{Answer}
use Rattle.instruction.specs.Encoded.{Encoded}
use Rattle.instruction.specs.declared.family.Family.{Family}
use Rattle.instruction.specs.declared.family.Instruction.{Instruction}
use Rattle.instruction.specs.Table.{columns_of, in_set, row_of, undefined, allocated, instruction_of}
use Rattle.encoder.specs.Encoding.{word_of, encoded_as, encode_of}
use Rattle.instruction.proofs.Rows.{row_has, rowed}
use Rattle.encoder.specs.Exact.{encoded, no_word, Word, Exact}
use Rattle.encoder.proofs.There.{there}
use Rattle.encoder.proofs.Back.{back}

allocated_there : (w : ℕ) → w < 2 ^ 32 → allocated w ≡ true → word_of (instruction_of w).family ≡ Some w
unfolding allocated undefined instruction_of
allocated_there w h a =
    let p = both (in_set w) (not ((columns_of (row_of w)).undefined w)) a in
    there w h (row_of w) (row_has w p.0) (not-true _ p.1)

-- encoding the instruction of an allocated word gives the word
pub encode_decoded : (w : ℕ) → w < 2 ^ 32 → allocated w ≡ true → encode_of (instruction_of w) ≡ encoded w
unfolding encode_of
encode_decoded w h a = rw (allocated_there w h a, a)

-- ---- what encoding can give

abbrev Given : Option ℕ → Encoded → Type 0
Given f e = ((w : ℕ) × (e ≡ encoded w) × (f ≡ Some w) × (allocated w ≡ true)) ⊎ (e ≡ no_word)

given_word : (v : ℕ) (a : Bool) → allocated v ≡ a → Given (Some v) (record { answer = pick a Answer.Done Answer.NoSuchInstruction; word = pick a v 0 })
given_word v true p = inl (v, refl, refl, p)
given_word v false p = inr refl

given : (f : Option ℕ) → Given f (encoded_as f)
given (Some v) = given_word v (allocated v) refl
given None = inr refl

pub not_encoded : {w : ℕ} → ¬ (no_word ≡ encoded w)
not_encoded e =
    let z : Answer.NoSuchInstruction ≡ Answer.Done = ap (λ (x : Encoded). x.answer) e in
    let y : ◌≡◌ {A = ℕ} 0 1 = cc in
    omega arith

word_of_lem : (i : Instruction) (w : ℕ) → word_of i.family ≡ Some w → allocated w ≡ true → Word i w
word_of_lem i w h a =
    let (r, (row, family, below)) = back i.family w h in
    record {
      below = below;
      defined = a;
      instruction = (rowed w row).instruction_is ∙ ap (λ (F : Family). record { family = F }) family;
    }

exact_from : (i : Instruction) → Given (word_of i.family) (encode_of i) → Exact i (encode_of i)
exact_from i (inl g) = inl (g.0, g.1, word_of_lem i g.0 g.2 g.3)
exact_from i (inr e) =
    inr (e, λ w x. not_encoded (sym e ∙ ap encode_of (sym x.instruction) ∙ encode_decoded w x.below x.defined))

-- encoding an instruction gives the word that it is the instruction of, or 11 and 0 where there is none
pub encode_exact : (i : Instruction) → Exact i (encode_of i)
unfolding encode_of
encode_exact i = exact_from i (given (word_of i.family))
