-- The codes of operations: how large they are, and how they lead back to the operations. Assumes nothing.
use Prim.Native.Nat.{ℕ, ◌+◌, ◌*◌, ◌/◌, ◌%◌, ◌≤◌, ◌<◌}
use mathlib.Core.Path.{◌≡◌, refl, sym, ap, ◌∙◌}
use mathlib.Core.Bool.{Bool, true, false, ◌||◌, or-false}
use native.Mathlib.Nat.{one-le-pow, pow-le-pow_right}
use native.Mathlib.Omega.{arith}
use lib.Dec.{eqb, ltb}
use borrow.Author.Tests.{eqb-true, ne_eqb, ltb-true, le-ltb}
use Rattle.bits.specs.Choice.{by_code, any}
use Rattle.bits.proofs.Choices.{pick_by, tested, every, each}
use Rattle.instruction.specs.Types.{SizedOp, PairOp, LiteralOp, PairMode, AccessSize, ExclusiveOp, StoreExclusiveOp}
use Rattle.instruction.specs.Operations.{sized_code, vector_of, size_of, opc_of, scale_of, sized_bytes, sized_ops, sized_at, literal_code, literal_vector, literal_opc, literal_ops, literal_at, pair_code, pair_vector, pair_opc, pair_load, pair_bytes, pair_ops, pair_at, mode_code, modes, mode_at, exclusive_code, exclusive_ops, exclusive_at, store_exclusive_code, store_exclusive_at, access_scale, access_sizes, size_at}
use Rattle.instruction.specs.Undefined.{undefined_codes}

-- ---- from an operation to its code and back: each is found by its code, so a test that is computed for all shows a fact of each

pub sized_at_lem : (op : SizedOp) → sized_at (vector_of op * 16 + size_of op * 4 + opc_of op) ≡ op
unfolding sized_at
sized_at_lem SizedOp.StoreByte = refl
sized_at_lem SizedOp.LoadByte = refl
sized_at_lem SizedOp.LoadSignedByte64 = refl
sized_at_lem SizedOp.LoadSignedByte32 = refl
sized_at_lem SizedOp.StoreHalf = refl
sized_at_lem SizedOp.LoadHalf = refl
sized_at_lem SizedOp.LoadSignedHalf64 = refl
sized_at_lem SizedOp.LoadSignedHalf32 = refl
sized_at_lem SizedOp.StoreWord = refl
sized_at_lem SizedOp.LoadWord = refl
sized_at_lem SizedOp.LoadSignedWord64 = refl
sized_at_lem SizedOp.StoreDouble = refl
sized_at_lem SizedOp.LoadDouble = refl
sized_at_lem SizedOp.Prefetch = refl
sized_at_lem SizedOp.StoreVectorByte = refl
sized_at_lem SizedOp.LoadVectorByte = refl
sized_at_lem SizedOp.StoreVectorQuad = refl
sized_at_lem SizedOp.LoadVectorQuad = refl
sized_at_lem SizedOp.StoreVectorHalf = refl
sized_at_lem SizedOp.LoadVectorHalf = refl
sized_at_lem SizedOp.StoreVectorWord = refl
sized_at_lem SizedOp.LoadVectorWord = refl
sized_at_lem SizedOp.StoreVectorDouble = refl
sized_at_lem SizedOp.LoadVectorDouble = refl

pub literal_at_lem : (op : LiteralOp) → literal_at (literal_vector op * 4 + literal_opc op) ≡ op
unfolding literal_at
literal_at_lem LiteralOp.LiteralWord = refl
literal_at_lem LiteralOp.LiteralDouble = refl
literal_at_lem LiteralOp.LiteralSignedWord = refl
literal_at_lem LiteralOp.LiteralPrefetch = refl
literal_at_lem LiteralOp.LiteralVectorWord = refl
literal_at_lem LiteralOp.LiteralVectorDouble = refl
literal_at_lem LiteralOp.LiteralVectorQuad = refl

pub pair_at_lem : (op : PairOp) → pair_at (pair_vector op * 8 + pair_opc op * 2 + pair_load op) ≡ op
unfolding pair_at
pair_at_lem PairOp.StoreWords = refl
pair_at_lem PairOp.LoadWords = refl
pair_at_lem PairOp.LoadSignedWords = refl
pair_at_lem PairOp.StoreDoubles = refl
pair_at_lem PairOp.LoadDoubles = refl
pair_at_lem PairOp.StoreVectorWords = refl
pair_at_lem PairOp.LoadVectorWords = refl
pair_at_lem PairOp.StoreVectorDoubles = refl
pair_at_lem PairOp.LoadVectorDoubles = refl
pair_at_lem PairOp.StoreVectorQuads = refl
pair_at_lem PairOp.LoadVectorQuads = refl

pub mode_at_lem : (m : PairMode) → mode_at (mode_code m) ≡ m
unfolding mode_at
mode_at_lem PairMode.NoAllocate = refl
mode_at_lem PairMode.Post = refl
mode_at_lem PairMode.Offset = refl
mode_at_lem PairMode.Pre = refl

pub exclusive_at_lem : (op : ExclusiveOp) → exclusive_at (exclusive_code op) ≡ op
unfolding exclusive_at
exclusive_at_lem ExclusiveOp.LoadExclusive = refl
exclusive_at_lem ExclusiveOp.LoadAcquireExclusive = refl
exclusive_at_lem ExclusiveOp.StoreRelease = refl
exclusive_at_lem ExclusiveOp.LoadAcquire = refl

pub store_exclusive_at_lem : (op : StoreExclusiveOp) → store_exclusive_at (store_exclusive_code op) ≡ op
unfolding store_exclusive_at
store_exclusive_at_lem StoreExclusiveOp.StorePlainExclusive = refl
store_exclusive_at_lem StoreExclusiveOp.StoreReleaseExclusive = refl

pub size_at_lem : (size : AccessSize) → size_at (access_scale size) ≡ size
unfolding size_at
size_at_lem AccessSize.Byte = refl
size_at_lem AccessSize.Half = refl
size_at_lem AccessSize.Word = refl
size_at_lem AccessSize.Double = refl

-- ---- bounds

pub each_sized : (p : SizedOp → Bool) → every p SizedOp.Prefetch (by_code sized_code sized_ops) ≡ true → (op : SizedOp) → p op ≡ true
unfolding sized_at
each_sized p h op = each SizedOp.Prefetch (by_code sized_code sized_ops) (λ x. vector_of x * 16 + size_of x * 4 + opc_of x) sized_at_lem p h op

pub code_below : (op : SizedOp) → sized_code op < 32
code_below op = ltb-true (sized_code op) 32 (each_sized (λ x. ltb (sized_code x) 32) refl op)

-- by its whole code
pub sized_whole : (op : SizedOp) → sized_at (sized_code op) ≡ op
sized_whole op =
    let e : sized_code op ≡ vector_of op * 16 + size_of op * 4 + opc_of op = omega (arith, code_below op) in
    ap sized_at e ∙ sized_at_lem op

pub record Sized (op : SizedOp) : Type 0 where
  pub vector : vector_of op < 2
  pub size : size_of op < 4
  pub opc : opc_of op < 4
  pub scale : scale_of op < 5
  pub some : 0 < sized_bytes op
  pub most : sized_bytes op ≤ 16

pub sized : (op : SizedOp) → Sized op
sized op =
    let size : size_of op < 4 = omega arith in
    let scale : scale_of op < 5 = pick_by (λ n. n < 5) (eqb (sized_code op / 2) 0b1_00_1) (λ e. omega arith) (λ e. omega arith) in
    record {
      vector = omega (arith, code_below op);
      size = size;
      opc = omega arith;
      scale = scale;
      some = one-le-pow (scale_of op) 2 (omega arith);
      most = pow-le-pow_right {n = 2} (omega arith) {i = scale_of op} {j = 4} (omega (arith, scale));
    }

literal_code_below : (op : LiteralOp) → literal_code op < 8
unfolding literal_at
literal_code_below op =
    ltb-true (literal_code op) 8
    (each LiteralOp.LiteralPrefetch (by_code literal_code literal_ops) (λ x. literal_vector x * 4 + literal_opc x) literal_at_lem (λ x. ltb (literal_code x) 8) refl op)

pub literal_whole : (op : LiteralOp) → literal_at (literal_code op) ≡ op
literal_whole op =
    let e : literal_code op ≡ literal_vector op * 4 + literal_opc op = omega (arith, literal_code_below op) in
    ap literal_at e ∙ literal_at_lem op

pub record Lettered (op : LiteralOp) : Type 0 where
  pub vector : literal_vector op < 2
  pub opc : literal_opc op < 4

pub lettered : (op : LiteralOp) → Lettered op
lettered op = record { vector = omega (arith, literal_code_below op); opc = omega arith }

-- a test that is computed for each pair
pub each_pair : (p : PairOp → Bool) → every p PairOp.LoadDoubles (by_code pair_code pair_ops) ≡ true → (op : PairOp) → p op ≡ true
unfolding pair_at
each_pair p h op =
    each PairOp.LoadDoubles (by_code pair_code pair_ops) (λ x. pair_vector x * 8 + pair_opc x * 2 + pair_load x) pair_at_lem p h op

pub pair_below : (op : PairOp) → pair_code op < 16
pair_below op = ltb-true (pair_code op) 16 (each_pair (λ x. ltb (pair_code x) 16) refl op)

pub pair_whole : (op : PairOp) → pair_at (pair_code op) ≡ op
pair_whole op =
    let e : pair_code op ≡ pair_vector op * 8 + pair_opc op * 2 + pair_load op = omega (arith, pair_below op) in
    ap pair_at e ∙ pair_at_lem op

pub record Paired (op : PairOp) : Type 0 where
  pub vector : pair_vector op < 2
  pub opc : pair_opc op < 4
  pub load : pair_load op < 2
  pub some : 0 < pair_bytes op
  pub most : pair_bytes op ≤ 16

pub paired : (op : PairOp) → Paired op
paired op =
    record {
      vector = omega (arith, pair_below op);
      opc = omega arith;
      load = omega arith;
      some = ltb-true 0 (pair_bytes op) (each_pair (λ x. ltb 0 (pair_bytes x)) refl op);
      most = omega (arith, ltb-true (pair_bytes op) 17 (each_pair (λ x. ltb (pair_bytes x) 17) refl op));
    }

pub mode_below : (mode : PairMode) → mode_code mode < 4
unfolding mode_at
mode_below mode =
    ltb-true (mode_code mode) 4 (each PairMode.Pre (by_code mode_code modes) mode_code mode_at_lem (λ x. ltb (mode_code x) 4) refl mode)

pub exclusive_below : (op : ExclusiveOp) → exclusive_code op < 8
unfolding exclusive_at
exclusive_below op =
    ltb-true (exclusive_code op) 8
    (each ExclusiveOp.LoadAcquire (by_code exclusive_code exclusive_ops) exclusive_code exclusive_at_lem (λ x. ltb (exclusive_code x) 8) refl op)

pub store_exclusive_below : (op : StoreExclusiveOp) → store_exclusive_code op < 2
store_exclusive_below StoreExclusiveOp.StorePlainExclusive = omega arith
store_exclusive_below StoreExclusiveOp.StoreReleaseExclusive = omega arith

pub scale_below : (size : AccessSize) → access_scale size < 4
unfolding size_at
scale_below size =
    ltb-true (access_scale size) 4
    (each AccessSize.Double (by_code access_scale access_sizes) access_scale size_at_lem (λ x. ltb (access_scale x) 4) refl size)

-- ---- from a code to its operation and back

one_of : (a b : Bool) → (a || b) ≡ true → b ≡ false → a ≡ true
one_of true b h e = refl
one_of false b h e = sym e ∙ h

sized_test : ℕ → Bool
sized_test k = eqb (vector_of (sized_at k) * 16 + size_of (sized_at k) * 4 + opc_of (sized_at k)) k || any (eqb k) undefined_codes

pub sized_code_lem : (k : ℕ) → k < 32 → any (eqb k) undefined_codes ≡ false → vector_of (sized_at k) * 16 + size_of (sized_at k) * 4 + opc_of (sized_at k) ≡ k
unfolding sized_test sized_at
sized_code_lem k h a = eqb-true _ _ (one_of _ (any (eqb k) undefined_codes) (tested 32 sized_test refl k h) a)

literal_test : ℕ → Bool
literal_test k = eqb (literal_vector (literal_at k) * 4 + literal_opc (literal_at k)) k || eqb k 0b1_11

pub literal_code_lem : (k : ℕ) → k < 8 → eqb k 0b1_11 ≡ false → literal_vector (literal_at k) * 4 + literal_opc (literal_at k) ≡ k
unfolding literal_test literal_at
literal_code_lem k h a = eqb-true _ _ (one_of _ (eqb k 0b1_11) (tested 8 literal_test refl k h) a)

pair_test : ℕ → Bool
pair_test k = eqb (pair_vector (pair_at k) * 8 + pair_opc (pair_at k) * 2 + pair_load (pair_at k)) k || (eqb k 0b0_01_0 || eqb (k / 2 % 4) 0b11)

pub pair_code_lem : (k : ℕ) → k < 16 → ¬ (k ≡ 0b0_01_0) → ¬ (k / 2 % 4 ≡ 0b11)
    → pair_vector (pair_at k) * 8 + pair_opc (pair_at k) * 2 + pair_load (pair_at k) ≡ k
unfolding pair_test pair_at
pair_code_lem k h a b =
    eqb-true _ _ (one_of _ (eqb k 0b0_01_0 || eqb (k / 2 % 4) 0b11) (tested 16 pair_test refl k h) (rw (ne_eqb k 0b0_01_0 a) (ne_eqb (k / 2 % 4) 0b11 b)))

mode_test : ℕ → Bool
mode_test k = eqb (mode_code (mode_at k)) k

pub mode_code_lem : (k : ℕ) → k < 4 → mode_code (mode_at k) ≡ k
unfolding mode_test mode_at
mode_code_lem k h = eqb-true _ _ (tested 4 mode_test refl k h)

exclusive_test : ℕ → Bool
exclusive_test k = eqb (exclusive_code (exclusive_at k)) k || (ltb k 0b010 || (eqb k 0b100 || eqb k 0b110))

pub exclusive_code_lem : (k : ℕ) → k < 8 → 0b010 ≤ k → ¬ (k ≡ 0b100) → ¬ (k ≡ 0b110) → exclusive_code (exclusive_at k) ≡ k
unfolding exclusive_test exclusive_at
exclusive_code_lem k h a b c =
    eqb-true _ _ (simp (le-ltb k 0b010 a, ne_eqb k 0b100 b, ne_eqb k 0b110 c, or-false) at (tested 8 exclusive_test refl k h))

store_exclusive_test : ℕ → Bool
store_exclusive_test k = eqb (store_exclusive_code (store_exclusive_at k)) k

pub store_exclusive_code_lem : (k : ℕ) → k < 2 → store_exclusive_code (store_exclusive_at k) ≡ k
unfolding store_exclusive_test store_exclusive_at
store_exclusive_code_lem k h = eqb-true _ _ (tested 2 store_exclusive_test refl k h)

scale_test : ℕ → Bool
scale_test k = eqb (access_scale (size_at k)) k

pub scale_code : (k : ℕ) → k < 4 → access_scale (size_at k) ≡ k
unfolding scale_test size_at
scale_code k h = eqb-true _ _ (tested 4 scale_test refl k h)
