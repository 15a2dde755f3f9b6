-- The two decoders say the same of every word: what the ten bits and the bits below decide together. Assumes nothing.
use Prim.Native.Nat.{ℕ, ◌+◌, ◌-◌, ◌*◌, ◌/◌, ◌%◌, ◌^◌, ◌≤◌, ◌<◌}
use mathlib.Core.Path.{◌≡◌, refl, sym, ap, ◌∙◌}
use mathlib.Core.Bool.{Bool, true, false, ◌&&◌, ◌||◌, and_assoc, false≢true}
use mathlib.Core.List.{List, [], ◌∷◌}
use native.Mathlib.Nat.{mod-lt, add-mul-div_right, div-eq_of_lt, add_comm, zero-add}
use native.Mathlib.Omega.{arith}
use lib.Dec.{eqb, leb}
use lib.Pow.{shr-shr, mod-pow-add, mod-mod-pow, pow_pos}
use borrow.Author.Tests.{leb-true, ne_eqb}
use Rattle.bits.specs.Choice.{pick, any}
use Rattle.bits.specs.Fields.{Bits, part, field, has}
use Rattle.bits.proofs.Choices.{both}
use Rattle.bits.proofs.Parts.{part_lt, cut}
use Rattle.instruction.specs.declared.answer.Decoded.{Decoded}
use Rattle.instruction.specs.declared.family.Family.{Family}
use Rattle.instruction.specs.declared.row.Row.{Row}
use Rattle.instruction.specs.Undefined.{size_opc, literal_bits, undefined_codes, undefined_size, undefined_prefetch, undefined_option, undefined_literal, undefined_pair, undefined_second, undefined_unused}
use Rattle.instruction.specs.Operations.{literal_at, sized_at, pair_at, exclusive_at, store_exclusive_at}
use Rattle.instruction.specs.Operands.{sized_in, literal_op_in, literal_in, pair_bits, pair_op_in, pair_in, signed_in, index_in, unsigned_in, exclusive_bits, exclusive_op_in, store_exclusive_op_in, exclusive_in, store_exclusive_in}
use Rattle.instruction.specs.Unpredictable.{unpredictable_base, unpredictable_pair, unpredictable_status}
use Rattle.instruction.specs.Table.{columns_of, rows, matches, first_row, row_of}
use Rattle.instruction.proofs.Rows.{set_matches, of_set, is_row}
use Rattle.decoder.specs.Decoding.{decode_of}
use Rattle.decoder.proofs.Arms.{Examined, class_by, instruction_by, decoded_is}
use Rattle.lookup.specs.Entries.{upper, lower, allows, families_in, code_in, names, operation_code, entry_of, entries}
use Rattle.lookup.specs.Lookup.{row_in, seen, with_bit15, examine_as, examine_by, examine_in, decode_in}
use Rattle.lookup.proofs.Rule.{names_allowed, code_allowed, entry_is}

-- ---- a part of bits 31..22 is a part of the ten bits

low_part : (x j n m : ℕ) → j + n ≤ m → x % 2 ^ m / 2 ^ j % 2 ^ n ≡ x / 2 ^ j % 2 ^ n
low_part x j n m h =
    let k = m - j - n in
    let e : m ≡ k + n + j = omega arith in
    let q : x % 2 ^ (k + n + j) / 2 ^ j ≡ x / 2 ^ j % 2 ^ (k + n) =
    ap (λ (v : ℕ). v / 2 ^ j) (mod-pow-add x (k + n) j ∙ add_comm (x / 2 ^ j % 2 ^ (k + n) * 2 ^ j) (x % 2 ^ j))
    ∙ add-mul-div_right (x % 2 ^ j) (x / 2 ^ j % 2 ^ (k + n)) (pow_pos j)
    ∙ ap (λ (v : ℕ). v + x / 2 ^ j % 2 ^ (k + n)) (div-eq_of_lt (mod-lt x (pow_pos j)))
    ∙ zero-add (x / 2 ^ j % 2 ^ (k + n))
    in
    rw (e, q, mod-mod-pow (x / 2 ^ j) k n)

ten_part : (w low n : ℕ) → 22 ≤ low → low + n ≤ 32 → part low n w ≡ part (low - 22) n (part 22 10 w)
unfolding part
ten_part w low n g h =
    let e : low ≡ 22 + (low - 22) = omega arith in
    ap (λ (v : ℕ). w / 2 ^ v % 2 ^ n) e ∙ ap (λ (v : ℕ). v % 2 ^ n) (sym (shr-shr w 22 (low - 22))) ∙ sym (low_part (w / 2 ^ 22) (low - 22) n 10 (omega arith))

-- ---- the rows that a word matches, by its ten bits and the bits below

abbrev inside : List Bits → Bool
inside [] = true
inside (b ∷ bs) = leb (b.low + b.width) 32 && inside bs

within : (r : Row) → inside (columns_of r).fixed ≡ true
within Row.NoRow = refl
within Row.LiteralRow = refl
within Row.PairRow = refl
within Row.OrderedRow = refl
within Row.UnscaledRow = refl
within Row.PostRow = refl
within Row.PreRow = refl
within Row.RegisterRow = refl
within Row.UnsignedRow = refl
within Row.LoadExclusiveRow = refl
within Row.StoreExclusiveRow = refl
within Row.AcquireReleaseRow = refl

swapped : (a b c : Bool) → (a && (b && c)) ≡ (b && (a && c))
swapped true b c = refl
swapped false true c = refl
swapped false false c = refl

module _ (w : ℕ) where
  split_at : (b : Bits) (bs : List Bits) (z : Bool) → leb 22 b.low ≡ z → leb (b.low + b.width) 32 ≡ true
      → has w bs ≡ (has (part 22 10 w) (upper bs) && has w (lower bs)) → has w (b ∷ bs) ≡ (has (part 22 10 w) (upper (b ∷ bs)) && has w (lower (b ∷ bs)))
  split_at b bs true e f h =
      rw (e, h, ten_part w b.low b.width (leb-true 22 b.low e) (leb-true (b.low + b.width) 32 f))
      (sym (and_assoc (eqb (part (b.low - 22) b.width (part 22 10 w)) b.value) (has (part 22 10 w) (upper bs)) (has w (lower bs))))
  split_at b bs false e f h =
      rw (e, h) (swapped (eqb (part b.low b.width w) b.value) (has (part 22 10 w) (upper bs)) (has w (lower bs)))

  split : (bs : List Bits) → inside bs ≡ true → has w bs ≡ (has (part 22 10 w) (upper bs) && has w (lower bs))
  split [] h = refl
  split (b ∷ bs) h = let p = both (leb (b.low + b.width) 32) (inside bs) h in split_at b bs (leb 22 b.low) refl p.0 (split bs p.1)

  pub matched : (r : Row) → matches w r ≡ (allows (part 22 10 w) r && has w (lower (columns_of r).fixed))
  matched r = split (columns_of r).fixed (within r)

  -- a word that matches a row has ten bits that allow it
  pub allowed : (r : Row) → matches w r ≡ true → allows (part 22 10 w) r ≡ true
  allowed r m = (both (allows (part 22 10 w) r) (has w (lower (columns_of r).fixed)) (sym (matched r) ∙ m)).0

-- ---- the row

abbrev Proper : List Row → Type 0
Proper [] = Unit {0}
Proper (r ∷ rs) = ¬ (r ≡ Row.NoRow) × Proper rs

never : ◌≡◌ {A = Bool} false true → ⊥
never h = let z : ◌≡◌ {A = ℕ} 0 1 = cc in omega arith

proper : Proper rows
proper =
    ((λ e. never cc), ((λ e. never cc), ((λ e. never cc), ((λ e. never cc), ((λ e. never cc), ((λ e. never cc), ((λ e. never cc), ((λ e. never cc), ((λ e. never cc), ((λ e. never cc), ((λ e. never cc), tt)))))))))))

module _ (w : ℕ) where
  agree : (r : Row) → ¬ (r ≡ Row.NoRow) → (names (families_in (entry_of (part 22 10 w))) r && has w (lower (columns_of r).fixed)) ≡ matches w r
  agree r n = ap (λ (b : Bool). b && has w (lower (columns_of r).fixed)) (names_allowed (part 22 10 w) (part_lt 22 10 w) r n) ∙ sym (matched w r)

  first : (rs : List Row) → Proper rs → first_row (λ r. names (families_in (entry_of (part 22 10 w))) r && has w (lower (columns_of r).fixed)) rs ≡ first_row (matches w) rs
  first [] p = refl
  first (r ∷ rs) p = let f = first rs p.1 in rw (agree r p.0, f)

  row_same : row_in (families_in (entry_of (part 22 10 w))) w ≡ row_of w
  unfolding row_in row_of
  row_same = first rows proper

-- ---- the operation code

moved_up : (ten : ℕ) → ten < 2 ^ 10 → part 22 10 (ten * 2 ^ 22) ≡ ten
unfolding part
moved_up ten h = omega arith

-- it looks at these fields alone
module _ (v w : ℕ) (vector : part 26 1 v ≡ part 26 1 w) (top : part 30 2 v ≡ part 30 2 w) (opc : part 22 2 v ≡ part 22 2 w) (load : part 22 1 v ≡ part 22 1 w) (mode : part 23 2 v ≡ part 23 2 w) where
  code_by : (r : Row) → operation_code r v ≡ operation_code r w
  unfolding undefined_size undefined_literal undefined_pair
  code_by Row.NoRow = refl
  code_by Row.LiteralRow = rw (vector, top)
  code_by Row.PairRow = rw (vector, top, load, mode)
  code_by Row.OrderedRow = rw (vector, top, opc)
  code_by Row.UnscaledRow = rw (vector, top, opc)
  code_by Row.PostRow = rw (vector, top, opc)
  code_by Row.PreRow = rw (vector, top, opc)
  code_by Row.RegisterRow = rw (vector, top, opc)
  code_by Row.UnsignedRow = rw (vector, top, opc)
  code_by Row.LoadExclusiveRow = rw (vector, top, opc)
  code_by Row.StoreExclusiveRow = rw (vector, top, opc)
  code_by Row.AcquireReleaseRow = rw (vector, top, opc)

module _ (w : ℕ) where
  field_same : (low n : ℕ) → 22 ≤ low → low + n ≤ 32 → part low n (part 22 10 w * 2 ^ 22) ≡ part low n w
  field_same low n g h =
      ten_part (part 22 10 w * 2 ^ 22) low n g h ∙ ap (part (low - 22) n) (moved_up (part 22 10 w) (part_lt 22 10 w)) ∙ sym (ten_part w low n g h)

  code_over : (r : Row) → operation_code r (part 22 10 w * 2 ^ 22) ≡ operation_code r w
  code_over r =
      code_by (part 22 10 w * 2 ^ 22) w (field_same 26 1 (omega arith) (omega arith)) (field_same 30 2 (omega arith) (omega arith)) (field_same 22 2 (omega arith) (omega arith))
      (field_same 22 1 (omega arith) (omega arith)) (field_same 23 2 (omega arith) (omega arith)) r

  pub code_same : (r : Row) → ¬ (r ≡ Row.NoRow) → matches w r ≡ true → code_in (entry_of (part 22 10 w)) ≡ operation_code r w
  code_same r n m = code_allowed (part 22 10 w) (part_lt 22 10 w) r n (allowed w r m) ∙ code_over r

-- ---- what a row and a code say

-- a family g that goes by an operation code, undefined as u or the code tells
module _ (g : ℕ → Family) (v : Bool) (c n : ℕ) where
  plain_at : (u : Bool) → c ≡ pick u 31 n → (u ≡ false → ¬ (n ≡ 31)) → seen (eqb c 31) v (g c) ≡ seen u v (g n)
  plain_at true e d = rw e
  plain_at false e d = rw (e, ne_eqb n 31 (d refl))

  option_at_lem : (u z : Bool) → c ≡ pick u 31 n → (u ≡ false → ¬ (n ≡ 31)) → seen (eqb c 31 || z) v (g c) ≡ seen (u || z) v (g n)
  option_at_lem true z e d = rw e
  option_at_lem false z e d = rw (e, ne_eqb n 31 (d refl))

  prefetch_at : (u : Bool) → c ≡ pick u 31 n → (u ≡ false → ¬ (n ≡ 31)) → seen (eqb c 31 || eqb c 14) v (g c) ≡ seen (u || eqb n 14) v (g n)
  prefetch_at true e d = rw e
  prefetch_at false e d = rw (e, ne_eqb n 31 (d refl))

-- 31 is undefined
defined_code : (k : ℕ) → any (eqb k) undefined_codes ≡ false → ¬ (k ≡ 31)
defined_code k u e = let z : true ≡ false = rw e at u in false≢true (sym z)

defined : (w : ℕ) → undefined_size w ≡ false → ¬ (size_opc w ≡ 31)
unfolding undefined_size
defined w u = defined_code (size_opc w) u

-- bit 23 and L of an operation code are those of the word
bits_of : (w c : ℕ) → c ≡ size_opc w → with_bit15 c w ≡ exclusive_bits w
bits_of w c h =
    let p : part 22 2 w ≡ part 22 1 w + part 23 1 w * 2 = omega (arith, cut (2 ∷ []) 22 w, cut (1 ∷ 1 ∷ []) 22 w) in
    omega (arith, part_lt 22 2 w)

abbrev plain : Row → ℕ → Decoded
plain r w = seen ((columns_of r).undefined w) ((columns_of r).unpredictable w) ((columns_of r).family w)

by_code : (w c : ℕ) (r : Row) → ¬ (r ≡ Row.NoRow) → c ≡ operation_code r w → examine_as r c w ≡ plain r w
unfolding undefined_prefetch undefined_option sized_in literal_op_in pair_op_in exclusive_op_in store_exclusive_op_in
by_code w c Row.NoRow n h = absurd (n refl)
by_code w c Row.LiteralRow n h =
    plain_at (λ k. Family.Literal (literal_at k) (literal_in w)) false c (literal_bits w) (undefined_literal w) h (λ u e. omega (arith, part_lt 26 1 w, part_lt 30 2 w, e))
by_code w c Row.PairRow n h =
    plain_at (λ k. Family.Pair (pair_at k) (pair_in (pair_at k) w)) (unpredictable_pair w) c (pair_bits w) (undefined_pair w) h
    (λ u e. omega (arith, part_lt 26 1 w, part_lt 30 2 w, part_lt 22 1 w, e))
by_code w c Row.OrderedRow n h = prefetch_at (λ k. Family.Ordered (sized_at k) (signed_in w)) false c (size_opc w) (undefined_size w) h (defined w)
by_code w c Row.UnscaledRow n h = plain_at (λ k. Family.Unscaled (sized_at k) (signed_in w)) false c (size_opc w) (undefined_size w) h (defined w)
by_code w c Row.PostRow n h =
    prefetch_at (λ k. Family.PostIndex (sized_at k) (signed_in w)) (unpredictable_base w) c (size_opc w) (undefined_size w) h (defined w)
by_code w c Row.PreRow n h = prefetch_at (λ k. Family.PreIndex (sized_at k) (signed_in w)) (unpredictable_base w) c (size_opc w) (undefined_size w) h (defined w)
by_code w c Row.RegisterRow n h =
    option_at_lem (λ k. Family.Register (sized_at k) (index_in w)) false c (size_opc w) (undefined_size w) (eqb (field 14 14 w) 0) h (defined w)
by_code w c Row.UnsignedRow n h = plain_at (λ k. Family.Unsigned (sized_at k) (unsigned_in (sized_at k) w)) false c (size_opc w) (undefined_size w) h (defined w)
by_code w c Row.LoadExclusiveRow n h = ap (λ (k : ℕ). seen (undefined_unused w) false (Family.Exclusive (exclusive_at k) (exclusive_in w))) (bits_of w c h)
by_code w c Row.StoreExclusiveRow n h =
    ap (λ (k : ℕ). seen (undefined_second w) (unpredictable_status w) (Family.StoreExclusive (store_exclusive_at k) (store_exclusive_in w))) (bits_of w c h)
by_code w c Row.AcquireReleaseRow n h = ap (λ (k : ℕ). seen (undefined_unused w) false (Family.Exclusive (exclusive_at k) (exclusive_in w))) (bits_of w c h)

-- ---- every word

module _ (w : ℕ) where
  some_row : (c : ℕ) (r : Row) → row_of w ≡ r → is_row r ≡ true → ¬ (r ≡ Row.NoRow) → c ≡ operation_code r w → Examined w (examine_as r c w)
  some_row c r e t n h = rw (by_code w c r n h) (rw (class_by w, e, t), rw (instruction_by w, e, t))

  by_row : (c : ℕ) (r : Row) → row_of w ≡ r → (¬ (r ≡ Row.NoRow) → c ≡ operation_code r w) → Examined w (examine_as r c w)
  by_row c Row.NoRow e h = (rw (class_by w, e), rw (instruction_by w, e))
  by_row c r e h = some_row c r e refl (λ q. never cc) (h (λ q. never cc))

  looked_up : examine_in entries w ≡ examine_as (row_of w) (code_in (entry_of (part 22 10 w))) w
  unfolding examine_in examine_by
  looked_up =
      ap (λ (e : ℕ). examine_by e w) (entry_is (part 22 10 w) (part_lt 22 10 w)) ∙ ap (λ (r : Row). examine_as r (code_in (entry_of (part 22 10 w))) w) (row_same w)

  -- the table's answer with 4 is the plain decoder's, and so is the instruction
  pub examine_same : Examined w (examine_in entries w)
  examine_same =
      rw looked_up
      (by_row (code_in (entry_of (part 22 10 w))) (row_of w) refl
      (λ n. code_same w (row_of w) n (sym (set_matches w) ∙ of_set w refl (λ q. absurd (n q)))))

  pub decode_same : decode_in entries w ≡ decode_of w
  decode_same = decoded_is w {r = examine_in entries w} examine_same
