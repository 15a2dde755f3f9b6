-- Every name has a number, and a mnemonic is the number that its letters make. Assumes nothing.
use Rattle.std.proofs.Common.{◌≡◌, ℕ, zero, suc, ◌+◌, ◌*◌, ◌/◌, ◌%◌, ◌^◌, ◌<◌, ◌≤◌, ltb, leb, List, length, sym, refl, ap, ◌∙◌, pow-suc, arith, ltb-true, le-ltb, lt-ltb}
use Rattle.bits.specs.Bytes.{bytes_of}
use Rattle.bits.proofs.Choices.{both}
use Rattle.bits.proofs.Bytes.{length_bytes}
use Rattle.instruction.specs.Operations.{sized_code, pair_code, exclusive_code, store_exclusive_code, access_scale}
use Rattle.instruction.proofs.Codes.{code_below, sized_whole, pair_below, pair_whole, exclusive_at_lem, exclusive_below, store_exclusive_at_lem, store_exclusive_below, size_at_lem, scale_below}
use Rattle.instruction.specs.declared.exclusive.ExclusiveOp.{ExclusiveOp}
use Rattle.mnemonic.specs.Operands.{Operand, letter_of}
use Rattle.mnemonic.specs.declared.Stem.{Stem}
use Rattle.mnemonic.specs.declared.Mnemonic.{Mnemonic}
use Rattle.mnemonic.specs.declared.names.Name.{Name}
use Rattle.mnemonic.specs.route.Named.{Known, known, told}
use Rattle.mnemonic.specs.route.Parts.{packed}
use Rattle.mnemonic.specs.route.Names.{stem_at, name_at, stem_number, number_of, name_count}

-- ---- names by number

stem_at_lem : (stem : Stem) → stem_at (stem_number stem) ≡ stem
unfolding stem_at
stem_at_lem Stem.Plain = refl
stem_at_lem Stem.Unscale = refl
stem_at_lem Stem.Order = refl

stem_within : (stem : Stem) → (1 ≤ stem_number stem) × (stem_number stem < 4)
stem_within Stem.Plain = (omega arith, omega arith)
stem_within Stem.Unscale = (omega arith, omega arith)
stem_within Stem.Order = (omega arith, omega arith)

pub exclusive_after : (op : ExclusiveOp) → 2 ≤ exclusive_code op
exclusive_after ExclusiveOp.LoadExclusive = omega arith
exclusive_after ExclusiveOp.LoadAcquireExclusive = omega arith
exclusive_after ExclusiveOp.StoreRelease = omega arith
exclusive_after ExclusiveOp.LoadAcquire = omega arith

pub number_below : (x : Name) → number_of x < name_count
number_below (Name.Sized stem op) = omega (arith, stem_within stem, code_below op)
number_below (Name.NoAllocatePair op) = omega (arith, pair_below op)
number_below (Name.AllocatePair op) = omega (arith, pair_below op)
number_below (Name.Exclusive op size) = omega (arith, exclusive_below op, scale_below size)
number_below (Name.StoreExclusive op size) = omega (arith, store_exclusive_below op, scale_below size)

pub name_back : (x : Name) → name_at (number_of x) ≡ x
unfolding name_at
name_back (Name.Sized stem op) =
    let k = sized_code op in
    let n = stem_number stem * 32 + k in
    let h = code_below op in
    let s = stem_within stem in
    let d : n / 32 ≡ stem_number stem = omega arith in
    let m : n % 32 ≡ k = omega arith in
    rw (le-ltb n 8 (omega arith), le-ltb n 32 (omega arith), lt-ltb n 128 (omega arith), d, m, stem_at_lem stem, sized_whole op)
name_back (Name.NoAllocatePair op) =
    let k = pair_code op in
    let h = pair_below op in
    let m : (128 + k) % 16 ≡ k = omega arith in
    rw (le-ltb (128 + k) 8 (omega arith), le-ltb (128 + k) 32 (omega arith), le-ltb (128 + k) 128 (omega arith), lt-ltb (128 + k) 144 (omega arith), m, pair_whole op)
name_back (Name.AllocatePair op) =
    let k = pair_code op in
    let h = pair_below op in
    let m : (144 + k) % 16 ≡ k = omega arith in
    rw (le-ltb (144 + k) 8 (omega arith), le-ltb (144 + k) 32 (omega arith), le-ltb (144 + k) 128 (omega arith), le-ltb (144 + k) 144 (omega arith), m, pair_whole op)
name_back (Name.Exclusive op size) =
    let n = exclusive_code op * 4 + access_scale size in
    let s = scale_below size in
    let d : n / 4 ≡ exclusive_code op = omega arith in
    let m : n % 4 ≡ access_scale size = omega arith in
    rw (le-ltb n 8 (omega (arith, exclusive_after op)), lt-ltb n 32 (omega (arith, exclusive_below op)), d, m, exclusive_at_lem op, size_at_lem size)
name_back (Name.StoreExclusive op size) =
    let n = store_exclusive_code op * 4 + access_scale size in
    let s = scale_below size in
    let d : n / 4 ≡ store_exclusive_code op = omega arith in
    let m : n % 4 ≡ access_scale size = omega arith in
    rw (lt-ltb n 8 (omega (arith, store_exclusive_below op)), d, m, store_exclusive_at_lem op, size_at_lem size)

-- ---- letters in a number

packed_bytes : (n v : ℕ) → v < 256 ^ n → packed (bytes_of n v) ≡ v
unfolding bytes_of
packed_bytes zero v h = omega arith
packed_bytes (suc n) v h = let e = packed_bytes n (v / 256) (omega (arith, pow-suc 256 n)) in omega arith

-- what a mnemonic tells is all that it is
pub record Letters (m : Mnemonic) (name : List ℕ) (o : Operand) : Type 0 where
  pub letters : m.letters ≡ packed name
  pub count : m.shape % 256 ≡ length name
  pub letter : m.shape / 256 ≡ letter_of o

pub letters_of : (m : Mnemonic) (name : List ℕ) (o : Operand) → known m ≡ told name o → Letters m name o
letters_of m name o e =
    let n = m.shape % 256 in
    let low = (both (leb n 8) (ltb m.letters (256 ^ n)) (ap (λ (k : Known). k.fits) e)).1 in
    let text = ap (λ (k : Known). k.letters) e in
    record {
      letters = sym (packed_bytes n m.letters (ltb-true _ _ low)) ∙ ap packed text;
      count = sym (length_bytes n m.letters) ∙ ap length text;
      letter = ap (λ (k : Known). k.letter) e;
    }
