-- From a word to its instruction and back to the word. Assumes nothing.
use Prim.Native.Nat.{ℕ, ◌+◌, ◌*◌, ◌/◌, ◌%◌, ◌^◌, ◌<◌}
use mathlib.Core.Path.{◌≡◌, refl, sym, ◌∙◌}
use mathlib.Core.Bool.{Bool, true, false, ◌&&◌, ◌||◌, not}
use mathlib.Core.List.{[], ◌∷◌}
use native.Mathlib.Omega.{arith}
use lib.Dec.{eqb}
use borrow.Author.Tests.{lt-ltb, eq-eqb, eqb-true, eqb-false}
use Rattle.std.specs.Prelude.{Some}
use Rattle.bits.specs.Fields.{part, field, bits}
use Rattle.bits.proofs.Choices.{neither}
use Rattle.bits.proofs.Parts.{part_lt, top, split, Has}
use Rattle.bits.proofs.Offsets.{bits_back, plain_back}
use Rattle.instruction.specs.declared.row.Row.{Row}
use Rattle.instruction.specs.declared.family.Family.{Family}
use Rattle.instruction.specs.Undefined.{size_opc, literal_bits, undefined_size, undefined_literal, undefined_pair, undefined_second, undefined_unused}
use Rattle.instruction.specs.Operands.{sized_in, literal_op_in, literal_in, pair_bits, pair_op_in, pair_in, signed_in, index_in, unsigned_in, exclusive_bits, exclusive_op_in, store_exclusive_op_in, exclusive_in, store_exclusive_in}
use Rattle.instruction.specs.Table.{columns_of}
use Rattle.instruction.specs.Operations.{vector_of, size_of, opc_of, sized_at, literal_vector, literal_opc, literal_at, pair_vector, pair_opc, pair_load, pair_at, size_at}
use Rattle.encoder.specs.Encoding.{literal_word, pair_word, signed_word, ordered_word, index_word, unsigned_word, exclusive_word, word_of}
use Rattle.instruction.proofs.Rows.{prefetch_no, option_no, second_no, unused_no}
use Rattle.instruction.proofs.Codes.{sized, lettered, paired, sized_code_lem, literal_code_lem, pair_code_lem, mode_code_lem, exclusive_code_lem, store_exclusive_code_lem, scale_code}
use Rattle.encoder.proofs.Words.{word_is}

-- ---- the codes of a word that is not undefined

record Sizes (w : ℕ) : Type 0 where
  vector : vector_of (sized_in w) ≡ part 26 1 w
  size : size_of (sized_in w) ≡ part 30 2 w
  opc : opc_of (sized_in w) ≡ part 22 2 w

sizes : (w : ℕ) → undefined_size w ≡ false → Sizes w
unfolding undefined_size sized_in
sizes w u =
    let v = part_lt 26 1 w in
    let a = part_lt 30 2 w in
    let b = part_lt 22 2 w in
    let c = sized_code_lem (size_opc w) (omega arith) u in
    let s = sized (sized_at (size_opc w)) in
    omega arith

record Literals (w : ℕ) : Type 0 where
  vector : literal_vector (literal_op_in w) ≡ part 26 1 w
  opc : literal_opc (literal_op_in w) ≡ part 30 2 w

literals : (w : ℕ) → undefined_literal w ≡ false → Literals w
unfolding undefined_literal literal_op_in
literals w u =
    let v = part_lt 26 1 w in
    let a = part_lt 30 2 w in
    let c = literal_code_lem (literal_bits w) (omega arith) u in
    let s = lettered (literal_at (literal_bits w)) in
    omega arith

record Pairs (w : ℕ) : Type 0 where
  vector : pair_vector (pair_op_in w) ≡ part 26 1 w
  opc : pair_opc (pair_op_in w) ≡ part 30 2 w
  load : pair_load (pair_op_in w) ≡ part 22 1 w

pair_defined : (vector opc load mode : ℕ)
    → (eqb opc 0b11 || ((eqb vector 0 && eqb opc 0b01) && not (eqb load 1 && not (eqb mode 0b00)))) ≡ false
    → ¬ (opc ≡ 3) × (vector ≡ 0 → opc ≡ 1 → load ≡ 1)
pair_defined vector opc load mode u =
    let n = neither (eqb opc 0b11) ((eqb vector 0 && eqb opc 0b01) && not (eqb load 1 && not (eqb mode 0b00))) u in
    (eqb-false _ _ n.0, λ v e. loaded (eqb load 1) refl (rw (v, e) at n.1))
  where
    loaded : (l : Bool) → eqb load 1 ≡ l → ((eqb 0 0 && eqb 1 1) && not (eqb load 1 && not (eqb mode 0b00))) ≡ false → load ≡ 1
    loaded true e h = eqb-true _ _ e
    loaded false e h = let z : true ≡ false = rw e at h in cc

pairs : (w : ℕ) → undefined_pair w ≡ false → Pairs w
unfolding undefined_pair pair_op_in
pairs w u =
    let n = pair_defined (part 26 1 w) (part 30 2 w) (part 22 1 w) (part 23 2 w) u in
    let v = part_lt 26 1 w in
    let a = part_lt 30 2 w in
    let b = part_lt 22 1 w in
    let k : ¬ (pair_bits w ≡ 2) = λ e. (let q = n.1 (omega arith) (omega arith) in omega arith) in
    let three : ¬ (pair_bits w / 2 % 4 ≡ 3) = λ e. n.0 (omega arith) in
    let c = pair_code_lem (pair_bits w) (omega arith) k three in
    let s = paired (pair_at (pair_bits w)) in
    omega arith

-- ---- the word of each family

module _ (w : ℕ) (h : w < 2 ^ 32) where
  literal_there : Has w (columns_of Row.LiteralRow).fixed → undefined_literal w ≡ false → literal_word (literal_op_in w) (literal_in w) ≡ Some w
  unfolding literal_word literal_in
  literal_there g u =
      let p = literals w u in
      rw (bits_back 262144 {scale = 4} (omega arith) (part 5 19 w) (part_lt 5 19 w))
      (sym (word_is _ _ (simp (p.opc, p.vector, lt-ltb _ _ (part_lt 30 2 w), lt-ltb _ _ (part_lt 26 1 w), lt-ltb _ _ (part_lt 0 5 w), lt-ltb _ _ (part_lt 5 19 w)))
      (omega (arith, p.opc, p.vector, split (5 ∷ 19 ∷ 2 ∷ 1 ∷ 3 ∷ 2 ∷ []) w, top w 32 h))))

  pair_there : Has w (columns_of Row.PairRow).fixed → undefined_pair w ≡ false → pair_word (pair_op_in w) (pair_in (pair_op_in w) w) ≡ Some w
  unfolding pair_word pair_in
  pair_there g u =
      let p = pairs w u in
      let m = mode_code_lem (part 23 2 w) (part_lt 23 2 w) in
      rw (bits_back 64 (paired (pair_op_in w)).some (part 15 7 w) (part_lt 15 7 w))
      (sym (word_is _ _
      (simp (
        p.opc,
        p.vector,
        p.load,
        m,
        lt-ltb _ _ (part_lt 30 2 w),
        lt-ltb _ _ (part_lt 26 1 w),
        lt-ltb _ _ (part_lt 23 2 w),
        lt-ltb _ _ (part_lt 22 1 w),
        lt-ltb _ _ (part_lt 5 5 w),
        lt-ltb _ _ (part_lt 0 5 w),
        lt-ltb _ _ (part_lt 10 5 w),
        lt-ltb _ _ (part_lt 15 7 w),
      ))
      (omega (arith, split (5 ∷ 5 ∷ 5 ∷ 7 ∷ 1 ∷ 2 ∷ 1 ∷ 1 ∷ 3 ∷ 2 ∷ []) w, top w 32 h))))

  -- the four families with imm9, over what tells them apart: bits 29..27, 25..24 and 11..10
  signed_there : (a b d : ℕ) {f : ℕ} → Has w (bits 29 27 a ∷ bits 25 24 b ∷ bits 21 21 0 ∷ bits 11 10 d ∷ [])
      → f ≡ a * 2 ^ 27 + b * 2 ^ 24 + d * 2 ^ 10 → undefined_size w ≡ false → signed_word f (sized_in w) (signed_in w) ≡ Some w
  unfolding signed_word signed_in
  signed_there a b d g e u =
      let s = sizes w u in
      rw (bits_back 256 {scale = 1} (omega arith) (part 12 9 w) (part_lt 12 9 w))
      (sym (word_is _ _
      (simp (
        s.size,
        s.vector,
        s.opc,
        lt-ltb _ _ (part_lt 30 2 w),
        lt-ltb _ _ (part_lt 26 1 w),
        lt-ltb _ _ (part_lt 22 2 w),
        lt-ltb _ _ (part_lt 5 5 w),
        lt-ltb _ _ (part_lt 0 5 w),
        lt-ltb _ _ (part_lt 12 9 w),
      ))
      (rw (s.size, s.vector, s.opc) (omega (arith, split (5 ∷ 5 ∷ 2 ∷ 9 ∷ 1 ∷ 2 ∷ 2 ∷ 1 ∷ 3 ∷ 2 ∷ []) w, top w 32 h)))))

  -- and bit 26 = 0
  ordered_there : Has w (columns_of Row.OrderedRow).fixed → undefined_size w ≡ false → ordered_word (sized_in w) (signed_in w) ≡ Some w
  unfolding ordered_word
  ordered_there g u =
      rw (eq-eqb (vector_of (sized_in w)) 0 ((sizes w u).vector ∙ g.1.0))
      (signed_there 3 1 0 (g.0, (g.1.1.0, (g.1.1.1.0, (g.1.1.1.1.0, tt)))) refl u)

  index_there : Has w (columns_of Row.RegisterRow).fixed → undefined_size w ≡ false → index_word (sized_in w) (index_in w) ≡ Some w
  unfolding index_word index_in
  index_there g u =
      let s = sizes w u in
      sym (word_is _ _
      (simp (
        s.size,
        s.vector,
        s.opc,
        lt-ltb _ _ (part_lt 30 2 w),
        lt-ltb _ _ (part_lt 26 1 w),
        lt-ltb _ _ (part_lt 22 2 w),
        lt-ltb _ _ (part_lt 5 5 w),
        lt-ltb _ _ (part_lt 0 5 w),
        lt-ltb _ _ (part_lt 16 5 w),
        lt-ltb _ _ (part_lt 13 3 w),
        lt-ltb _ _ (part_lt 12 1 w),
      ))
      (omega (arith, split (5 ∷ 5 ∷ 2 ∷ 1 ∷ 3 ∷ 5 ∷ 1 ∷ 2 ∷ 2 ∷ 1 ∷ 3 ∷ 2 ∷ []) w, top w 32 h)))

  unsigned_there : Has w (columns_of Row.UnsignedRow).fixed → undefined_size w ≡ false → unsigned_word (sized_in w) (unsigned_in (sized_in w) w) ≡ Some w
  unfolding unsigned_word unsigned_in
  unsigned_there g u =
      let s = sizes w u in
      rw (plain_back 4096 (part 10 12 w) (sized (sized_in w)).some (part_lt 10 12 w))
      (sym (word_is _ _
      (simp (
        s.size,
        s.vector,
        s.opc,
        lt-ltb _ _ (part_lt 30 2 w),
        lt-ltb _ _ (part_lt 26 1 w),
        lt-ltb _ _ (part_lt 22 2 w),
        lt-ltb _ _ (part_lt 5 5 w),
        lt-ltb _ _ (part_lt 0 5 w),
        lt-ltb _ _ (part_lt 10 12 w),
      ))
      (omega (arith, split (5 ∷ 5 ∷ 12 ∷ 2 ∷ 2 ∷ 1 ∷ 3 ∷ 2 ∷ []) w, top w 32 h))))

  -- what the three rows of the ninth family share, over their operation and status
  exclusive_there : Has w (bits 29 27 0b001 ∷ bits 26 26 0 ∷ bits 25 24 0b00 ∷ bits 21 21 0 ∷ bits 14 10 31 ∷ []) → (code status : ℕ)
      → code ≡ exclusive_bits w → status ≡ field 20 16 w → exclusive_word code (size_at (field 31 30 w)) status (field 4 0 w) (field 9 5 w) ≡ Some w
  unfolding exclusive_word
  exclusive_there g code status c s =
      let b23 = part_lt 23 1 w in
      let b22 = part_lt 22 1 w in
      let b15 = part_lt 15 1 w in
      let high : code / 4 ≡ part 23 1 w = omega (arith, c) in
      let load : code / 2 % 2 ≡ part 22 1 w = omega (arith, c) in
      let low : code % 2 ≡ part 15 1 w = omega (arith, c) in
      sym (word_is _ _
      (simp (
        scale_code (part 30 2 w) (part_lt 30 2 w),
        high,
        load,
        low,
        s,
        lt-ltb _ _ (part_lt 30 2 w),
        lt-ltb _ _ b23,
        lt-ltb _ _ b22,
        lt-ltb _ _ (part_lt 16 5 w),
        lt-ltb _ _ b15,
        lt-ltb _ _ (part_lt 5 5 w),
        lt-ltb _ _ (part_lt 0 5 w),
      ))
      (rw (scale_code (part 30 2 w) (part_lt 30 2 w), high, load, low, s)
      (omega (arith, split (5 ∷ 5 ∷ 5 ∷ 1 ∷ 5 ∷ 1 ∷ 1 ∷ 1 ∷ 2 ∷ 1 ∷ 3 ∷ 2 ∷ []) w, top w 32 h, g))))

  load_exclusive_there : Has w (columns_of Row.LoadExclusiveRow).fixed → undefined_unused w ≡ false
      → word_of (Family.Exclusive (exclusive_op_in w) (exclusive_in w)) ≡ Some w
  unfolding exclusive_op_in exclusive_in
  load_exclusive_there g u =
      let n = unused_no w u in
      let b15 = part_lt 15 1 w in
      let c = exclusive_code_lem (exclusive_bits w) (omega arith) (omega arith) (λ e. omega arith) (λ e. omega arith) in
      exclusive_there (g.0, (g.1.0, (g.1.1.0, (g.1.1.1.1.1.0, (n.0, tt))))) _ 31 c (sym n.1)

  store_exclusive_there : Has w (columns_of Row.StoreExclusiveRow).fixed → undefined_second w ≡ false
      → word_of (Family.StoreExclusive (store_exclusive_op_in w) (store_exclusive_in w)) ≡ Some w
  unfolding store_exclusive_op_in store_exclusive_in
  store_exclusive_there g u =
      let b15 = part_lt 15 1 w in
      let c = store_exclusive_code_lem (exclusive_bits w) (omega arith) in
      exclusive_there (g.0, (g.1.0, (g.1.1.0, (g.1.1.1.1.1.0, (second_no w u, tt))))) _ (field 20 16 w) c refl

  acquire_release_there : Has w (columns_of Row.AcquireReleaseRow).fixed → undefined_unused w ≡ false
      → word_of (Family.Exclusive (exclusive_op_in w) (exclusive_in w)) ≡ Some w
  unfolding exclusive_op_in exclusive_in
  acquire_release_there g u =
      let n = unused_no w u in
      let b22 = part_lt 22 1 w in
      let c = exclusive_code_lem (exclusive_bits w) (omega arith) (omega arith) (λ e. omega arith) (λ e. omega arith) in
      exclusive_there (g.0, (g.1.0, (g.1.1.0, (g.1.1.1.1.0, (n.0, tt))))) _ 31 c (sym n.1)

  pub there : (r : Row) → Has w (columns_of r).fixed → (columns_of r).undefined w ≡ false → word_of ((columns_of r).family w) ≡ Some w
  there Row.NoRow g u = absurd (omega arith)
  there Row.LiteralRow g u = literal_there g u
  there Row.PairRow g u = pair_there g u
  there Row.OrderedRow g u = ordered_there g (prefetch_no w u).0
  there Row.UnscaledRow g u = signed_there 7 0 0 g refl u
  there Row.PostRow g u = signed_there 7 0 1 g refl (prefetch_no w u).0
  there Row.PreRow g u = signed_there 7 0 3 g refl (prefetch_no w u).0
  there Row.RegisterRow g u = index_there g (option_no w u).0
  there Row.UnsignedRow g u = unsigned_there g u
  there Row.LoadExclusiveRow g u = load_exclusive_there g u
  there Row.StoreExclusiveRow g u = store_exclusive_there g u
  there Row.AcquireReleaseRow g u = acquire_release_there g u
