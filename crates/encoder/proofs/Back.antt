-- From an instruction to its word and back to the instruction. Assumes nothing.
use Prim.Native.Nat.{ℕ, ◌+◌, ◌*◌, ◌/◌, ◌%◌, ◌^◌, ◌<◌}
use mathlib.Core.Path.{◌≡◌, refl, ap, ◌∙◌}
use mathlib.Core.List.{List, [], ◌∷◌}
use native.Mathlib.Omega.{arith}
use lib.Dec.{eqb}
use borrow.Author.Tests.{eqb-true}
use Rattle.std.specs.Prelude.{Option, Some, None}
use Rattle.bits.specs.Fields.{part, Bits, bits, fit, placed}
use Rattle.bits.specs.Signed.{bits_of, plain_bits_of}
use Rattle.bits.proofs.Choices.{picked}
use Rattle.bits.proofs.Parts.{unpack, Has, Fit, fit_true}
use Rattle.bits.proofs.Offsets.{unfit, signed_back, plain_is}
use Rattle.instruction.specs.declared.row.Row.{Row}
use Rattle.instruction.specs.declared.family.Family.{Family}
use Rattle.instruction.specs.declared.family.LiteralOperands.{LiteralOperands}
use Rattle.instruction.specs.declared.family.PairOperands.{PairOperands}
use Rattle.instruction.specs.declared.family.OffsetOperands.{OffsetOperands}
use Rattle.instruction.specs.declared.family.IndexOperands.{IndexOperands}
use Rattle.instruction.specs.declared.family.ExclusiveOperands.{ExclusiveOperands}
use Rattle.instruction.specs.declared.family.StoreExclusiveOperands.{StoreExclusiveOperands}
use Rattle.instruction.specs.declared.exclusive.AccessSize.{AccessSize}
use Rattle.instruction.specs.declared.exclusive.ExclusiveOp.{ExclusiveOp}
use Rattle.instruction.specs.declared.exclusive.StoreExclusiveOp.{StoreExclusiveOp}
use Rattle.instruction.specs.declared.operation.LiteralOp.{LiteralOp}
use Rattle.instruction.specs.declared.operation.PairOp.{PairOp}
use Rattle.instruction.specs.declared.operation.SizedOp.{SizedOp}
use Rattle.instruction.specs.Operands.{sized_in, literal_op_in, literal_in, pair_op_in, pair_in, signed_in, index_in, unsigned_in, exclusive_op_in, store_exclusive_op_in, exclusive_in, store_exclusive_in}
use Rattle.instruction.specs.Table.{columns_of, row_of}
use Rattle.instruction.specs.Operations.{vector_of, size_of, opc_of, sized_bytes, literal_vector, literal_opc, pair_vector, pair_opc, pair_load, pair_bytes, mode_code, exclusive_code, exclusive_at, store_exclusive_code, store_exclusive_at, access_scale, size_at}
use Rattle.encoder.specs.Encoding.{fixed, word_with, with_bits, literal_fields, literal_word, pair_fields, pair_word, sized_fields, signed_word, ordered_word, index_fields, index_word, unsigned_word, exclusive_fields, exclusive_word, word_of}
use Rattle.instruction.proofs.Rows.{row_is}
use Rattle.instruction.proofs.Codes.{sized_at_lem, literal_at_lem, pair_at_lem, mode_at_lem, exclusive_at_lem, store_exclusive_at_lem, store_exclusive_below, size_at_lem}

-- ---- what a word that was found says

with_back : (F : Option ℕ) (f : ℕ → Option ℕ) (w : ℕ) → with_bits F f ≡ Some w → (b : ℕ) × (F ≡ Some b) × (f b ≡ Some w)
with_back (Some b) f w h = (b, refl, h)
with_back None f w h = absurd (unfit h)

word_back : (f : ℕ) (fs : List Bits) (w : ℕ) → word_with f fs ≡ Some w → Fit fs × (f + placed fs ≡ w)
unfolding word_with
word_back f fs w h =
    let p = picked (fit fs) h unfit in
    (fit_true fs p.0, cc)

-- the word is of the row, and its family is the one that it was made of
abbrev Back : ℕ → Row → Family → Type 0
Back w l F = (row_of w ≡ l) × ((columns_of l).family w ≡ F) × (w < 2 ^ 32)

literal_back : (op : LiteralOp) (o : LiteralOperands) (w : ℕ) → literal_word op o ≡ Some w → Back w Row.LiteralRow (Family.Literal op o)
unfolding literal_word literal_in literal_op_in
literal_back op o w h =
    let p = with_back (bits_of 262144 4 o.offset) (λ b. word_with (fixed Row.LiteralRow) (literal_fields op o.target b)) w h in
    let s = signed_back 262144 4 p.0 o.offset p.1 in
    let q = word_back (fixed Row.LiteralRow) (literal_fields op o.target p.0) w p.2 in
    let r = q.0 in
    let u = unpack ((o.target, 5) ∷ (p.0, 19) ∷ (0, 2) ∷ (literal_vector op, 1) ∷ (3, 3) ∷ (literal_opc op, 2) ∷ []) w (omega (arith, q.1))
    (r.1.1.0, (r.1.1.1.0, (omega arith, (r.1.0, (omega arith, (r.0, tt)))))) in (
      row_is w Row.LiteralRow (u.1.1.1.1.0, (u.1.1.0, tt)),
      simp (u.1.1.1.0, u.1.1.1.1.1.0, literal_at_lem op, u.0, u.1.0, s.1),
      omega (arith, q.1, r.0, r.1.0, r.1.1.0, r.1.1.1.0),
    )

pair_back : (op : PairOp) (o : PairOperands) (w : ℕ) → pair_word op o ≡ Some w → Back w Row.PairRow (Family.Pair op o)
unfolding pair_word pair_in pair_op_in
pair_back op o w h =
    let p = with_back (bits_of 64 (pair_bytes op) o.offset) (λ b. word_with (fixed Row.PairRow) (pair_fields op o b)) w h in
    let s = signed_back 64 (pair_bytes op) p.0 o.offset p.1 in
    let q = word_back (fixed Row.PairRow) (pair_fields op o p.0) w p.2 in
    let (opc, (vector, (mode, (load, (base, (first, (second, (imm7, t)))))))) = q.0 in
    let u = unpack
    ((o.first, 5) ∷ (o.base, 5) ∷ (o.second, 5) ∷ (p.0, 7) ∷ (pair_load op, 1) ∷ (mode_code o.mode, 2) ∷ (0, 1) ∷ (pair_vector op, 1) ∷ (5, 3) ∷ (pair_opc op, 2) ∷ [])
    w (omega (arith, q.1)) (first, (base, (second, (imm7, (load, (mode, (omega arith, (vector, (omega arith, (opc, tt)))))))))) in
    let (first=, (base=, (second=, (imm7=, (load=, (mode=, (b25, (b26, (b27, (opc=, _)))))))))) = u in (
      row_is w Row.PairRow (b27, (b25, tt)),
      simp (b26, opc=, load=, pair_at_lem op, first=, second=, base=, mode=, mode_at_lem o.mode, imm7=, s.1),
      omega (arith, q.1, opc, vector, mode, load, base, first, second, imm7),
    )

-- the families with a size: what all of them have
module _ (op : SizedOp) (w : ℕ) where
  sized_back : part 26 1 w ≡ vector_of op → part 30 2 w ≡ size_of op → part 22 2 w ≡ opc_of op → sized_in w ≡ op
  unfolding sized_in
  sized_back v s o = simp (v, s, o, sized_at_lem op)

-- the four families with imm9, over what tells them apart: bits 29..27, 25..24 and 11..10
module _ (op : SizedOp) (o : OffsetOperands) (w a b d : ℕ) (ha : a < 8) (hb : b < 4) (hd : d < 4) where
  record Signed : Type 0 where
    vector : part 26 1 w ≡ vector_of op
    has : Has w (bits 29 27 a ∷ bits 25 24 b ∷ bits 21 21 0 ∷ bits 11 10 d ∷ [])
    op= : sized_in w ≡ op
    operands : signed_in w ≡ o
    word : w < 2 ^ 32

  signed_back_from : {f : ℕ} → f ≡ a * 2 ^ 27 + b * 2 ^ 24 + d * 2 ^ 10 → signed_word f op o ≡ Some w → Signed
  unfolding signed_word signed_in
  signed_back_from {f} e h =
      let p = with_back (bits_of 256 1 o.offset) (λ b. word_with f (sized_fields op o.base o.target (bits 20 12 b ∷ []))) w h in
      let s = signed_back 256 1 p.0 o.offset p.1 in
      let q = word_back f (sized_fields op o.base o.target (bits 20 12 p.0 ∷ [])) w p.2 in
      let (size, (vector, (opc, (base, (target, (imm9, t)))))) = q.0 in
      let u = unpack
      ((o.target, 5) ∷ (o.base, 5) ∷ (d, 2) ∷ (p.0, 9) ∷ (0, 1) ∷ (opc_of op, 2) ∷ (b, 2) ∷ (vector_of op, 1) ∷ (a, 3) ∷ (size_of op, 2) ∷ [])
      w (omega (arith, q.1, e)) (target, (base, (hd, (imm9, (omega arith, (opc, (hb, (vector, (ha, (size, tt)))))))))) in
      let (target=, (base=, (b10, (imm9=, (b21, (opc=, (b24, (b26, (b27, (size=, _)))))))))) = u in
      record {
        vector = b26;
        has = (b27, (b24, (b21, (b10, tt))));
        op= = sized_back op w b26 size= opc=;
        operands = simp (target=, base=, imm9=, s.1);
        word = omega (arith, q.1, e, size, vector, opc, base, target, imm9);
      }

  signed_family : (l : Row) (F : SizedOp → OffsetOperands → Family) {f : ℕ} → f ≡ a * 2 ^ 27 + b * 2 ^ 24 + d * 2 ^ 10 → signed_word f op o ≡ Some w
      → (Has w (bits 29 27 a ∷ bits 25 24 b ∷ bits 21 21 0 ∷ bits 11 10 d ∷ []) → row_of w ≡ l)
      → (columns_of l).family w ≡ F (sized_in w) (signed_in w) → Back w l (F op o)
  signed_family l F e h line q =
      let s = signed_back_from e h in
      (line s.has, q ∙ ap (λ (x : SizedOp). F x (signed_in w)) s.op= ∙ ap (F op) s.operands, s.word)

-- and bit 26 = 0
ordered_back : (op : SizedOp) (o : OffsetOperands) (w : ℕ) → ordered_word op o ≡ Some w → Back w Row.OrderedRow (Family.Ordered op o)
unfolding ordered_word
ordered_back op o w h =
    let p = picked (eqb (vector_of op) 0) h unfit in
    let s = signed_back_from op o w 3 1 0 (omega arith) (omega arith) (omega arith) refl p.1 in
    signed_family op o w 3 1 0 (omega arith) (omega arith) (omega arith) Row.OrderedRow Family.Ordered refl p.1
    (λ g. row_is w Row.OrderedRow (g.0, (s.vector ∙ eqb-true _ _ p.0, g.1))) refl

index_back : (op : SizedOp) (o : IndexOperands) (w : ℕ) → index_word op o ≡ Some w → Back w Row.RegisterRow (Family.Register op o)
unfolding index_word index_in
index_back op o w h =
    let q = word_back (fixed Row.RegisterRow) (sized_fields op o.base o.target (index_fields o)) w h in
    let (size, (vector, (opc, (base, (target, (index, (option, (scaled, t)))))))) = q.0 in
    let u = unpack
    ((o.target, 5) ∷ (o.base, 5) ∷ (2, 2) ∷ (o.scaled, 1) ∷ (o.option, 3) ∷ (o.index, 5) ∷ (1, 1) ∷ (opc_of op, 2) ∷ (0, 2) ∷ (vector_of op, 1) ∷ (7, 3) ∷ (size_of op, 2) ∷ [])
    w (omega (arith, q.1))
    (target, (base, (omega arith, (scaled, (option, (index, (omega arith, (opc, (omega arith, (vector, (omega arith, (size, tt)))))))))))) in
    let (target=, (base=, (b10, (scaled=, (option=, (index=, (b21, (opc=, (b24, (b26, (b27, (size=, _)))))))))))) = u in (
      row_is w Row.RegisterRow (b27, (b24, (b21, (b10, tt)))),
      simp (sized_back op w b26 size= opc=, target=, base=, index=, option=, scaled=),
      omega (arith, q.1, size, vector, opc, base, target, index, option, scaled),
    )

unsigned_back : (op : SizedOp) (o : OffsetOperands) (w : ℕ) → unsigned_word op o ≡ Some w → Back w Row.UnsignedRow (Family.Unsigned op o)
unfolding unsigned_word unsigned_in
unsigned_back op o w h =
    let p = with_back (plain_bits_of 4096 (sized_bytes op) o.offset) (λ b. word_with (fixed Row.UnsignedRow) (sized_fields op o.base o.target (bits 21 10 b ∷ []))) w h in
    let s = plain_is 4096 (sized_bytes op) p.0 o.offset p.1 in
    let q = word_back (fixed Row.UnsignedRow) (sized_fields op o.base o.target (bits 21 10 p.0 ∷ [])) w p.2 in
    let (size, (vector, (opc, (base, (target, (imm12, t)))))) = q.0 in
    let u = unpack
    ((o.target, 5) ∷ (o.base, 5) ∷ (p.0, 12) ∷ (opc_of op, 2) ∷ (1, 2) ∷ (vector_of op, 1) ∷ (7, 3) ∷ (size_of op, 2) ∷ [])
    w (omega (arith, q.1)) (target, (base, (imm12, (opc, (omega arith, (vector, (omega arith, (size, tt)))))))) in
    let (target=, (base=, (imm12=, (opc=, (b24, (b26, (b27, (size=, _)))))))) = u in (
      row_is w Row.UnsignedRow (b27, (b24, tt)),
      simp (sized_back op w b26 size= opc=, target=, base=, imm12=, s.1),
      omega (arith, q.1, size, vector, opc, base, target, imm12),
    )

-- the ninth family: what its three rows share, over the operation and the status
module _ (code : ℕ) (size : AccessSize) (status target base w : ℕ) where
  record Exclusives : Type 0 where
    group : part 27 3 w ≡ 1
    b26 : part 26 1 w ≡ 0
    b24 : part 24 2 w ≡ 0
    b23 : part 23 1 w ≡ code / 4
    b22 : part 22 1 w ≡ code / 2 % 2
    b21 : part 21 1 w ≡ 0
    b15 : part 15 1 w ≡ code % 2
    size= : size_at (part 30 2 w) ≡ size
    status= : part 16 5 w ≡ status
    target= : part 0 5 w ≡ target
    base= : part 5 5 w ≡ base
    word : w < 2 ^ 32

  exclusives : exclusive_word code size status target base ≡ Some w → Exclusives
  unfolding exclusive_word
  exclusives h =
      let q = word_back (fixed Row.StoreExclusiveRow) (exclusive_fields code size status target base) w h in
      let (scale, (high, (load, (rs, (low, (rt2, (rn, (rt, t)))))))) = q.0 in
      let u = unpack
      ((target, 5) ∷ (base, 5) ∷ (31, 5) ∷ (code % 2, 1) ∷ (status, 5) ∷ (0, 1) ∷ (code / 2 % 2, 1) ∷ (code / 4, 1) ∷ (0, 2) ∷ (0, 1) ∷ (1, 3) ∷ (access_scale size, 2) ∷ [])
      w (omega (arith, q.1)) (rt, (rn, (rt2, (low, (rs, (omega arith, (load, (high, (omega arith, (omega arith, (omega arith, (scale, tt)))))))))))) in
      let (target=, (base=, (rt2=, (b15, (status=, (b21, (b22, (b23, (b24, (b26, (group, (scale=, _)))))))))))) = u in
      record {
        group = group;
        b26 = b26;
        b24 = b24;
        b23 = b23;
        b22 = b22;
        b21 = b21;
        b15 = b15;
        size= = ap size_at scale= ∙ size_at_lem size;
        status= = status=;
        target= = target=;
        base= = base=;
        word = omega (arith, q.1, scale, high, load, rs, low, rt2, rn, rt);
      }

-- the row of an operation
abbrev exclusive_row : ExclusiveOp → Row
exclusive_row ExclusiveOp.LoadExclusive = Row.LoadExclusiveRow
exclusive_row ExclusiveOp.LoadAcquireExclusive = Row.LoadExclusiveRow
exclusive_row ExclusiveOp.StoreRelease = Row.AcquireReleaseRow
exclusive_row ExclusiveOp.LoadAcquire = Row.AcquireReleaseRow

exclusive_row_lem : (op : ExclusiveOp) (size : AccessSize) (status target base w : ℕ) → Exclusives (exclusive_code op) size status target base w
    → row_of w ≡ exclusive_row op
exclusive_row_lem ExclusiveOp.LoadExclusive size status target base w x =
    row_is w Row.LoadExclusiveRow (x.group, (x.b26, (x.b24, (x.b23, (x.b22, (x.b21, tt))))))
exclusive_row_lem ExclusiveOp.LoadAcquireExclusive size status target base w x =
    row_is w Row.LoadExclusiveRow (x.group, (x.b26, (x.b24, (x.b23, (x.b22, (x.b21, tt))))))
exclusive_row_lem ExclusiveOp.StoreRelease size status target base w x =
    row_is w Row.AcquireReleaseRow (x.group, (x.b26, (x.b24, (x.b23, (x.b21, (x.b15, tt))))))
exclusive_row_lem ExclusiveOp.LoadAcquire size status target base w x =
    row_is w Row.AcquireReleaseRow (x.group, (x.b26, (x.b24, (x.b23, (x.b21, (x.b15, tt))))))

exclusive_family : (op : ExclusiveOp) (w : ℕ) → (columns_of (exclusive_row op)).family w ≡ Family.Exclusive (exclusive_op_in w) (exclusive_in w)
exclusive_family ExclusiveOp.LoadExclusive w = refl
exclusive_family ExclusiveOp.LoadAcquireExclusive w = refl
exclusive_family ExclusiveOp.StoreRelease w = refl
exclusive_family ExclusiveOp.LoadAcquire w = refl

-- the bits of a code make it
code_back : {a b d : ℕ} (code : ℕ) → a ≡ code / 4 → b ≡ code / 2 % 2 → d ≡ code % 2 → a * 4 + b * 2 + d ≡ code
code_back code p q r = omega (arith, p, q, r)

exclusive_back : (op : ExclusiveOp) (o : ExclusiveOperands) (w : ℕ) → word_of (Family.Exclusive op o) ≡ Some w
    → Back w (exclusive_row op) (Family.Exclusive op o)
unfolding exclusive_op_in exclusive_in
exclusive_back op o w h =
    let x = exclusives (exclusive_code op) o.size 31 o.target o.base w h in
    let c = ap exclusive_at (code_back (exclusive_code op) x.b23 x.b22 x.b15) ∙ exclusive_at_lem op in
    (exclusive_row_lem op o.size 31 o.target o.base w x, exclusive_family op w ∙ simp (c, x.size=, x.target=, x.base=), x.word)

store_exclusive_row : (op : StoreExclusiveOp) (size : AccessSize) (status target base w : ℕ) → Exclusives (store_exclusive_code op) size status target base w
    → row_of w ≡ Row.StoreExclusiveRow
store_exclusive_row op size status target base w x =
    let k = store_exclusive_below op in
    row_is w Row.StoreExclusiveRow (x.group, (x.b26, (x.b24, (omega (arith, x.b23), (omega (arith, x.b22), (x.b21, tt))))))

store_exclusive_back : (op : StoreExclusiveOp) (o : StoreExclusiveOperands) (w : ℕ) → word_of (Family.StoreExclusive op o) ≡ Some w
    → Back w Row.StoreExclusiveRow (Family.StoreExclusive op o)
unfolding store_exclusive_op_in store_exclusive_in
store_exclusive_back op o w h =
    let x = exclusives (store_exclusive_code op) o.size o.status o.target o.base w h in
    let c = ap store_exclusive_at (code_back (store_exclusive_code op) x.b23 x.b22 x.b15) ∙ store_exclusive_at_lem op in
    (store_exclusive_row op o.size o.status o.target o.base w x, simp (c, x.size=, x.status=, x.target=, x.base=), x.word)

pub back : (F : Family) (w : ℕ) → word_of F ≡ Some w → (r : Row) × Back w r F
back Family.Empty w h = absurd (unfit h)
back (Family.Literal op o) w h = (Row.LiteralRow, literal_back op o w h)
back (Family.Pair op o) w h = (Row.PairRow, pair_back op o w h)
back (Family.Ordered op o) w h = (Row.OrderedRow, ordered_back op o w h)
back (Family.Unscaled op o) w h =
    (Row.UnscaledRow, signed_family op o w 7 0 0 (omega arith) (omega arith) (omega arith) Row.UnscaledRow Family.Unscaled refl h (row_is w Row.UnscaledRow) refl)
back (Family.PostIndex op o) w h =
    (Row.PostRow, signed_family op o w 7 0 1 (omega arith) (omega arith) (omega arith) Row.PostRow Family.PostIndex refl h (row_is w Row.PostRow) refl)
back (Family.PreIndex op o) w h =
    (Row.PreRow, signed_family op o w 7 0 3 (omega arith) (omega arith) (omega arith) Row.PreRow Family.PreIndex refl h (row_is w Row.PreRow) refl)
back (Family.Register op o) w h = (Row.RegisterRow, index_back op o w h)
back (Family.Unsigned op o) w h = (Row.UnsignedRow, unsigned_back op o w h)
back (Family.Exclusive op o) w h = (exclusive_row op, exclusive_back op o w h)
back (Family.StoreExclusive op o) w h = (Row.StoreExclusiveRow, store_exclusive_back op o w h)
