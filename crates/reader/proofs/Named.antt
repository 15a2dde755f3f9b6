-- Every mnemonic with its first operand names its operation again: one computed test over all names. Assumes nothing.
use Prim.Native.Nat.{ℕ, ◌<◌}
use mathlib.Core.Path.{◌≡◌, refl, sym, ap, ◌∙◌}
use mathlib.Core.Bool.{Bool, ◌&&◌, ◌||◌, or-false}
use mathlib.Core.List.{List, [], ◌∷◌, ◌++◌, foldl}
use native.Mathlib.Omega.{arith}
use native.Mathlib.Nat.{mod-eq_of_lt}
use lib.Dec.{eqb}
use borrow.Author.Tests.{eqb-true, ne_eqb}
use Rattle.bits.specs.Fields.{part}
use Rattle.bits.proofs.Choices.{both, tested}
use Rattle.instruction.specs.Operations.{sized_code, sized_at, pair_at, exclusive_at, store_exclusive_at, size_at}
use Rattle.instruction.proofs.Codes.{sized_whole, exclusive_below, scale_below}
use Rattle.ascii.specs.Ascii.{asc, dec}
use Rattle.text.specs.Hints.{hint_text}
use Rattle.mnemonic.specs.Mnemonics.{literal_sized}
use Rattle.mnemonic.specs.Operands.{Operand, Narrow, Wide, Hint, VectorB, VectorH, VectorS, VectorD, VectorQ, letter_of, access_operand}
use Rattle.mnemonic.specs.route.Names.{stem_at, name_at, name_text, name_operand, number_of, name_count}
use Rattle.mnemonic.proofs.Told.{same, same_is}
use Rattle.mnemonic.proofs.Numbered.{number_below, name_back, exclusive_after}
use Rattle.reader.specs.Types.{Scan, Name, Stem, SizedOp, Prefetch, LiteralOp, LiteralWord, LiteralDouble, LiteralSignedWord, LiteralPrefetch, LiteralVectorWord, LiteralVectorDouble, LiteralVectorQuad, PairOp, ExclusiveOp, StoreExclusiveOp, AccessSize, Byte, Half, Word, Double}
use Rattle.reader.specs.route.Scan.{packed, plain_of, step_of, scan_start}
use Rattle.reader.specs.route.Names.{letter_for, is_name, searched, name_for}
use Rattle.reader.specs.route.Targets.{low_bits, target_at}
use Rattle.reader.specs.route.Build.{key_in, num_in, literal_for, size_for}
use Rattle.reader.proofs.Scans.{by_test, Scans, piece, operand_key, operand_num}

-- ---- the first operand

letter_test : ℕ → Bool
letter_test r = eqb (letter_for (packed (operand_key Hint r) 44)) 0x23

-- the letter by the key of the operand and its comma
pub letter_is : (o : Operand) (r : ℕ) → r < 32 → letter_for (packed (operand_key o r) 44) ≡ letter_of o
unfolding letter_for letter_test hint_text part dec
letter_is Narrow r h = by_test (eqb r 31) (λ e. rw e) (λ e. rw e)
letter_is Wide r h = by_test (eqb r 31) (λ e. rw e) (λ e. rw e)
letter_is Hint r h = eqb-true _ _ (tested 32 letter_test refl r h)
letter_is VectorB r h = refl
letter_is VectorH r h = refl
letter_is VectorS r h = refl
letter_is VectorD r h = refl
letter_is VectorQ r h = refl

target_test : ℕ → Bool
target_test r = eqb (target_at (packed (operand_key Hint r) 44) (operand_num Hint r)) r

-- which register or hint the key and the number mean
pub target_is : (o : Operand) (r : ℕ) → r < 32 → target_at (packed (operand_key o r) 44) (operand_num o r) ≡ r
unfolding target_at low_bits target_test hint_text part dec
target_is Narrow r h = by_test (eqb r 31) (λ e. rw e (mod-eq_of_lt h)) (λ e. rw e (mod-eq_of_lt h))
target_is Wide r h = by_test (eqb r 31) (λ e. rw e (mod-eq_of_lt h)) (λ e. rw e (mod-eq_of_lt h))
target_is Hint r h = eqb-true _ _ (tested 32 target_test refl r h)
target_is VectorB r h = mod-eq_of_lt h
target_is VectorH r h = mod-eq_of_lt h
target_is VectorS r h = mod-eq_of_lt h
target_is VectorD r h = mod-eq_of_lt h
target_is VectorQ r h = mod-eq_of_lt h

-- ---- mnemonics

-- before the first operand, with what the mnemonic left
abbrev pub named : ℕ → ℕ → Scan
named k n = record { keys = k ∷ 0 ∷ 0 ∷ 0 ∷ 0 ∷ 0 ∷ 0 ∷ 0 ∷ []; nums = n ∷ 0 ∷ 0 ∷ 0 ∷ 0 ∷ 0 ∷ 0 ∷ 0 ∷ []; at = 1 }

scan_of : Name → Scan
scan_of x = foldl step_of scan_start (name_text x ++ asc " ")

pub record Named (name : List ℕ) (o : Operand) (n : Name) : Type 0 where
  pub key : ℕ
  pub num : ℕ
  pub scan : Scans scan_start (name ++ asc " ") (named key num)
  pub reads : (r : ℕ) → r < 32 → name_for (packed (operand_key o r) 44) key ≡ n

-- ---- the test

-- only the words of the mnemonic are left, which may have a number, since p has one
scan_test : ℕ → Bool
scan_test k =
    let s = scan_of (name_at k) in
    let t = named (key_in s 0) (num_in s 0) in
    same s.keys t.keys && (same s.nums t.nums && eqb s.at t.at)

-- the search comes to the same number, but for 46, the ordered prefetch, and for 2 and 6, the store-exclusives of a word, whose
-- names those of a doubleword have too
found_test : ℕ → Bool
found_test k =
    eqb (number_of (searched name_count (key_in (scan_of (name_at k)) 0) (letter_of (name_operand (name_at k))))) (number_of (name_at k))
    || (eqb (number_of (name_at k)) 46 || (eqb (number_of (name_at k)) 2 || eqb (number_of (name_at k)) 6))

-- the numbers of the names that no later one has
abbrev Own : ℕ → Type 0
Own n = ¬ (n ≡ 46) × ¬ (n ≡ 2) × ¬ (n ≡ 6)

scans_to : (k : ℕ) → k < name_count → scan_of (name_at k) ≡ named (key_in (scan_of (name_at k)) 0) (num_in (scan_of (name_at k)) 0)
unfolding scan_test scan_of same name_at stem_at sized_at pair_at exclusive_at store_exclusive_at size_at plain_of step_of scan_start
scans_to k h =
    let s = scan_of (name_at k) in
    let t = both _ _ (tested name_count scan_test refl k h) in
    let u = both _ _ t.1 in
    let a = same_is s.keys _ t.0 in
    let b = same_is s.nums _ u.0 in
    let c = eqb-true s.at 1 u.1 in
    λ i. record { keys = a i; nums = b i; at = c i }

found_number : (k : ℕ) → k < name_count → Own (number_of (name_at k))
    → number_of (searched name_count (key_in (scan_of (name_at k)) 0) (letter_of (name_operand (name_at k)))) ≡ number_of (name_at k)
unfolding found_test scan_of is_name searched name_at stem_at sized_at pair_at exclusive_at store_exclusive_at size_at plain_of step_of scan_start
found_number k h n = eqb-true _ _ (simp (ne_eqb _ _ n.0, ne_eqb _ _ n.1, ne_eqb _ _ n.2, or-false) at (tested name_count found_test refl k h))

-- ---- every name

pub name_named : (x : Name) → Own (number_of x) → Named (name_text x) (name_operand x) x
unfolding name_for scan_of
name_named x n =
    let e = name_back x in
    let h = number_below x in
    let f = found_number (number_of x) h (rw e n) in
    record {
      key = key_in (scan_of x) 0;
      num = num_in (scan_of x) 0;
      scan = piece (name_text x ++ asc " ") (rw e at (scans_to (number_of x) h));
      reads = λ r b. rw (letter_is (name_operand x) r b) (sym (name_back _) ∙ ap name_at (rw e at f) ∙ e);
    }

pub plain_named : (op : SizedOp) → Named (name_text (Name.Sized Stem.Plain op)) (name_operand (Name.Sized Stem.Plain op)) (Name.Sized Stem.Plain op)
plain_named op = name_named (Name.Sized Stem.Plain op) ((λ e. omega arith), (λ e. omega arith), (λ e. omega arith))

pub unscaled_named : (op : SizedOp) → Named (name_text (Name.Sized Stem.Unscale op)) (name_operand (Name.Sized Stem.Unscale op)) (Name.Sized Stem.Unscale op)
unscaled_named op = name_named (Name.Sized Stem.Unscale op) ((λ e. omega arith), (λ e. omega arith), (λ e. omega arith))

-- no ordered prefetch is allocated
pub ordered_named : (op : SizedOp) → ¬ (op ≡ Prefetch) → Named (name_text (Name.Sized Stem.Order op)) (name_operand (Name.Sized Stem.Order op)) (Name.Sized Stem.Order op)
unfolding sized_at
ordered_named op n =
    name_named (Name.Sized Stem.Order op)
    ((λ e. let k : sized_code op ≡ 14 = omega arith in n (sym (sized_whole op) ∙ ap sized_at k)), (λ e. omega arith), (λ e. omega arith))

pub pair_named_lem : (op : PairOp) → Named (name_text (Name.AllocatePair op)) (name_operand (Name.AllocatePair op)) (Name.AllocatePair op)
pair_named_lem op = name_named (Name.AllocatePair op) ((λ e. omega arith), (λ e. omega arith), (λ e. omega arith))

pub noallocate_named : (op : PairOp) → Named (name_text (Name.NoAllocatePair op)) (name_operand (Name.NoAllocatePair op)) (Name.NoAllocatePair op)
noallocate_named op = name_named (Name.NoAllocatePair op) ((λ e. omega arith), (λ e. omega arith), (λ e. omega arith))

pub exclusive_named_lem : (op : ExclusiveOp) (size : AccessSize)
    → Named (name_text (Name.Exclusive op size)) (name_operand (Name.Exclusive op size)) (Name.Exclusive op size)
exclusive_named_lem op size =
    let a = exclusive_after op in
    let b = scale_below size in
    name_named (Name.Exclusive op size) ((λ e. omega (arith, exclusive_below op)), (λ e. omega arith), (λ e. omega arith))

-- the size that is found for a store-exclusive by its name alone
abbrev pub widest : AccessSize → AccessSize
widest Byte = Byte
widest Half = Half
widest Word = Double
widest Double = Double

pub store_exclusive_named : (op : StoreExclusiveOp) (size : AccessSize)
    → Named (name_text (Name.StoreExclusive op size)) Narrow (Name.StoreExclusive op (widest size))
store_exclusive_named op Byte = name_named (Name.StoreExclusive op Byte) ((λ e. omega arith), (λ e. omega arith), (λ e. omega arith))
store_exclusive_named op Half = name_named (Name.StoreExclusive op Half) ((λ e. omega arith), (λ e. omega arith), (λ e. omega arith))
store_exclusive_named op Word = name_named (Name.StoreExclusive op Double) ((λ e. omega arith), (λ e. omega arith), (λ e. omega arith))
store_exclusive_named op Double = name_named (Name.StoreExclusive op Double) ((λ e. omega arith), (λ e. omega arith), (λ e. omega arith))

-- the letter of the data tells it
pub size_for_lem : (size : AccessSize) → size_for (widest size) (letter_of (access_operand size)) ≡ size
unfolding size_for
size_for_lem Byte = refl
size_for_lem Half = refl
size_for_lem Word = refl
size_for_lem Double = refl

-- a load from a literal has the name of a load with a size
pub literal_for_lem : (op : LiteralOp) → literal_for (literal_sized op) ≡ op
unfolding literal_for
literal_for_lem LiteralWord = refl
literal_for_lem LiteralDouble = refl
literal_for_lem LiteralSignedWord = refl
literal_for_lem LiteralPrefetch = refl
literal_for_lem LiteralVectorWord = refl
literal_for_lem LiteralVectorDouble = refl
literal_for_lem LiteralVectorQuad = refl
