-- The two parts of a mnemonic make its name: one computed test for each stem over the codes of all operations. Assumes nothing.
use Rattle.std.proofs.Common.{◌≡◌, ℕ, ◌+◌, ◌*◌, ◌/◌, ◌%◌, ◌<◌, Bool, true, false, ◌&&◌, eqb, List, [], ◌∷◌, refl, ap, ◌∙◌, arith, eqb-true}
use mathlib.Core.Bool.{false≢true}
use Rattle.bits.specs.Bytes.{bytes_of}
use Rattle.bits.proofs.Choices.{both, up_to, tested}
use Rattle.instruction.specs.Operations.{sized_code, sized_at, pair_code, pair_at, access_scale, size_at}
use Rattle.instruction.specs.declared.exclusive.AccessSize.{AccessSize}
use Rattle.instruction.specs.declared.operation.SizedOp.{SizedOp}
use Rattle.instruction.specs.declared.operation.PairOp.{PairOp}
use Rattle.instruction.specs.declared.operation.PairMode.{PairMode}
use Rattle.instruction.proofs.Codes.{code_below, sized_whole, pair_below, pair_whole, size_at_lem}
use Rattle.mnemonic.specs.Mnemonics.{sized_name, pair_name, exclusive_name}
use Rattle.mnemonic.specs.Operands.{Operand, Narrow, letter_of, sized_operand, pair_operand, access_operand}
use Rattle.mnemonic.specs.declared.Stem.{Stem}
use Rattle.mnemonic.specs.declared.Mnemonic.{Mnemonic}
use Rattle.mnemonic.specs.declared.table.Entry.{Entry}
use Rattle.mnemonic.specs.route.Named.{Known, known, told}
use Rattle.mnemonic.specs.route.Parts.{sized_stem, pair_stem, exclusive_stem, sized_entry, pair_entry, behind_stem}

-- ---- a test of what a mnemonic tells

unfoldable pub same : List ℕ → List ℕ → Bool
same [] [] = true
same [] (b ∷ bs) = false
same (a ∷ as') [] = false
same (a ∷ as') (b ∷ bs) = eqb a b && same as' bs

pub same_is : (as' bs : List ℕ) → same as' bs ≡ true → as' ≡ bs
unfolding same
same_is [] [] h = refl
same_is [] (b ∷ bs) h = absurd (false≢true h)
same_is (a ∷ as') [] h = absurd (false≢true h)
same_is (a ∷ as') (b ∷ bs) h =
    let t = both (eqb a b) (same as' bs) h in
    rw (eqb-true a b t.0, same_is as' bs t.1)

tells : Mnemonic → List ℕ → Operand → Bool
tells m name operand = same (known m).letters name && (eqb (known m).letter (letter_of operand) && (known m).fits)

tells_is : (m : Mnemonic) (name : List ℕ) (operand : Operand) → tells m name operand ≡ true → known m ≡ told name operand
unfolding tells
tells_is m name operand h =
    let t = both (same (known m).letters name) (eqb (known m).letter (letter_of operand) && (known m).fits) h in
    let u = both (eqb (known m).letter (letter_of operand)) (known m).fits t.1 in
    let a = same_is (known m).letters name t.0 in
    let b = eqb-true (known m).letter (letter_of operand) u.0 in
    λ i. record { letters = a i; letter = b i; fits = u.1 i }

-- ---- the operations with a size

sized_made : Stem → Entry → Mnemonic
sized_made stem e = behind_stem (sized_stem stem e.kind) e.letters e.shape

sized_test : Stem → ℕ → Bool
sized_test stem k = tells (sized_made stem (sized_entry (sized_at k))) (sized_name stem (sized_at k)) (sized_operand (sized_at k))

all_sized : (stem : Stem) → up_to 32 (sized_test stem) ≡ true
unfolding sized_test sized_made tells same sized_at bytes_of
all_sized Stem.Plain = refl
all_sized Stem.Unscale = refl
all_sized Stem.Order = refl

pub sized_is : (stem : Stem) (op : SizedOp) {t : ℕ} {e : Entry} {m : Mnemonic} → e ≡ sized_entry op
    → t ≡ sized_stem stem e.kind → m ≡ behind_stem t e.letters e.shape → known m ≡ told (sized_name stem op) (sized_operand op)
unfolding sized_test sized_made
sized_is stem op e t m =
    rw (m, t, e) (tells_is _ _ (sized_operand op) (rw (sized_whole op) at (tested 32 (sized_test stem) (all_sized stem) (sized_code op) (code_below op))))

-- by the code
pub sized_by : (stem : Stem) (op : SizedOp) {code : ℕ} {k : Known} → code ≡ sized_code op
    → k ≡ told (sized_name stem (sized_at code)) (sized_operand (sized_at code)) → k ≡ told (sized_name stem op) (sized_operand op)
sized_by stem op s e = e ∙ rw (s, sized_whole op)

-- ---- pairs

pair_made : PairMode → Entry → Mnemonic
pair_made mode e = behind_stem (pair_stem mode e.kind) e.letters e.shape

pair_test : PairMode → ℕ → Bool
pair_test mode k = tells (pair_made mode (pair_entry (pair_at k))) (pair_name mode (pair_at k)) (pair_operand (pair_at k))

all_pairs : (mode : PairMode) → up_to 16 (pair_test mode) ≡ true
unfolding pair_test pair_made tells same pair_at bytes_of
all_pairs PairMode.NoAllocate = refl
all_pairs PairMode.Post = refl
all_pairs PairMode.Offset = refl
all_pairs PairMode.Pre = refl

pub pair_is : (mode : PairMode) (op : PairOp) {t : ℕ} {e : Entry} {m : Mnemonic} → e ≡ pair_entry op
    → t ≡ pair_stem mode e.kind → m ≡ behind_stem t e.letters e.shape → known m ≡ told (pair_name mode op) (pair_operand op)
unfolding pair_test pair_made
pair_is mode op e t m =
    rw (m, t, e) (tells_is _ _ (pair_operand op) (rw (pair_whole op) at (tested 16 (pair_test mode) (all_pairs mode) (pair_code op) (pair_below op))))

pub pair_by : (mode : PairMode) (op : PairOp) {code : ℕ} {k : Known} → code ≡ pair_code op
    → k ≡ told (pair_name mode (pair_at code)) (pair_operand (pair_at code)) → k ≡ told (pair_name mode op) (pair_operand op)
pair_by mode op s e = e ∙ rw (s, pair_whole op)

-- ---- the ninth family

exclusive_made : ℕ → Entry → Mnemonic
exclusive_made code e = behind_stem (exclusive_stem code) e.letters e.shape

exclusive_test : ℕ → Bool
exclusive_test k =
    tells (exclusive_made (k / 4) (sized_entry (sized_at (k % 4 * 4)))) (exclusive_name (k / 4) (size_at (k % 4))) (access_operand (size_at (k % 4)))

all_exclusive : up_to 32 exclusive_test ≡ true
unfolding exclusive_test exclusive_made tells same sized_at size_at bytes_of
all_exclusive = refl

pub exclusive_is : (code scale : ℕ) {t : ℕ} {e : Entry} {m : Mnemonic} → code < 8 → scale < 4 → e ≡ sized_entry (sized_at (scale * 4))
    → t ≡ exclusive_stem code → m ≡ behind_stem t e.letters e.shape → known m ≡ told (exclusive_name code (size_at scale)) (access_operand (size_at scale))
unfolding exclusive_test exclusive_made
exclusive_is code scale h g e t m =
    let k = code * 4 + scale in
    let d : k / 4 ≡ code = omega arith in
    let r : k % 4 ≡ scale = omega arith in
    rw (m, t, e) (tells_is _ _ (access_operand (size_at scale)) (rw (d, r) at (tested 32 exclusive_test all_exclusive k (omega arith))))

-- by an operation and a size
pub exclusive_by : (size : AccessSize) {code scale : ℕ} (c : ℕ) {k : Known} → code ≡ c → scale ≡ access_scale size
    → k ≡ told (exclusive_name code (size_at scale)) (access_operand (size_at scale)) → k ≡ told (exclusive_name c size) (access_operand size)
exclusive_by size c p s e = e ∙ rw (p, s, size_at_lem size)

-- with a w for the first operand
pub with_status : (m : Mnemonic) (name : List ℕ) (o : Operand) → known m ≡ told name o
    → known (record { letters = m.letters; shape = m.shape % 256 + 0x7700 }) ≡ told name Narrow
with_status m name o e =
    let low : (m.shape % 256 + 0x7700) % 256 ≡ m.shape % 256 = omega arith in
    let high : (m.shape % 256 + 0x7700) / 256 ≡ 119 = omega arith in
    let a = ap (λ (k : Known). k.letters) e in
    let b = ap (λ (k : Known). k.fits) e in
    rw (low, high) (λ i. record { letters = a i; letter = 119; fits = b i })
