-- The scan of a line up to its tail, and what is built of the whole. Assumes nothing.
use Prim.Native.Nat.{ℕ, ◌<◌}
use mathlib.Core.Path.{◌≡◌, refl, ◌∙◌}
use mathlib.Core.List.{List, [], ◌∷◌, ◌++◌, foldl}
use native.Mathlib.Nat.{mod-eq_of_lt}
use lib.Dec.{lit<}
use lib.IntN.{ℤ, pos, negsuc, nat_abs}
use Rattle.ascii.specs.Ascii.{asc, signed_dec}
use Rattle.text.specs.Texts.{operand_text, base_text, front_text}
use Rattle.mnemonic.specs.Operands.{Operand}
use Rattle.reader.specs.Types.{Scan, Name, Stem, Tail, SizedOp, PairMode, AccessSize, Family, Literal, Instruction}
use Rattle.reader.specs.route.Scan.{packed, plain_of, step_of, scan_start}
use Rattle.reader.specs.route.Names.{letter_for, name_for}
use Rattle.reader.specs.route.Targets.{target_at}
use Rattle.reader.specs.route.Tails.{tail_at, offset_at}
use Rattle.reader.specs.route.Build.{key_in, literal_for, literal_from, offset_from, index_from, pair_from, bracketed_for, plain_for, exclusive_from, size_for, store_exclusive_from, family_for, build_of}
use Rattle.reader.proofs.Scans.{Scans, then, piece, word, operand_key, operand_num, base_key, sign_key, operand_scan, base_scan, signed_scan}
use Rattle.reader.proofs.Named.{Named, named, target_is}
use Rattle.reader.proofs.Tails.{Words, here, Kept, OffsetEnd, IndexEnd, plus_back, minus_back}

-- ---- up to the tail

-- before the second operand
abbrev second : ℕ → ℕ → ℕ → ℕ → Scan
second a x b t = record { keys = a ∷ b ∷ 0 ∷ 0 ∷ 0 ∷ 0 ∷ 0 ∷ 0 ∷ []; nums = x ∷ t ∷ 0 ∷ 0 ∷ 0 ∷ 0 ∷ 0 ∷ 0 ∷ []; at = 2 }

module _ {name : List ℕ} {o : Operand} {m : Name} (N : Named name o m) (t : ℕ) (ht : t < 32) where
  front : Scans scan_start (front_text name o t) (second N.key N.num (packed (operand_key o t) 44) (operand_num o t))
  unfolding front_text plain_of step_of
  front = then (then N.scan (operand_scan (named N.key N.num) (lit< tt) (lit< tt) o t ht)) (piece (asc ", ") refl)

  -- the words before the tail of a line with one register, and with two
  abbrev pub single : ℕ → Words
  single n =
      record {
        key0 = N.key;
        num0 = N.num;
        key1 = packed (operand_key o t) 44;
        num1 = operand_num o t;
        key2 = 0;
        num2 = 0;
        key4 = base_key (packed 0 91) n;
        num4 = n;
      }

  abbrev pub double : Operand → ℕ → ℕ → Words
  double p u n =
      record {
        key0 = N.key;
        num0 = N.num;
        key1 = packed (operand_key o t) 44;
        num1 = operand_num o t;
        key2 = packed (operand_key p u) 44;
        num2 = operand_num p u;
        key4 = base_key (packed 0 91) n;
        num4 = n;
      }

  abbrev opened : ℕ → ℕ → Scan
  opened k u =
      record {
        keys = N.key ∷ packed (operand_key o t) 44 ∷ k ∷ 0 ∷ 0 ∷ 0 ∷ 0 ∷ 0 ∷ [];
        nums = N.num ∷ operand_num o t ∷ u ∷ 0 ∷ 0 ∷ 0 ∷ 0 ∷ 0 ∷ [];
        at = 4;
      }

  pub single_goes : (n : ℕ) → n < 32 → (tail : List ℕ) → foldl step_of scan_start (front_text name o t ++ asc "[" ++ base_text n ++ tail) ≡ foldl step_of (here (single n)) tail
  unfolding plain_of step_of
  single_goes n hn tail =
      (then (then (then front (piece (asc "[") refl)) (base_scan (opened 0 0) (lit< tt) (lit< tt) (packed 0 91) n hn)) (piece tail refl)).goes

  pub double_goes : (p : Operand) (u n : ℕ) → u < 32 → n < 32 → (tail : List ℕ)
      → foldl step_of scan_start (front_text name o t ++ operand_text p u ++ asc ", [" ++ base_text n ++ tail) ≡ foldl step_of (here (double p u n)) tail
  unfolding plain_of step_of
  double_goes p u n hu hn tail =
      (then (then (then (then front
      (operand_scan (second N.key N.num (packed (operand_key o t) 44) (operand_num o t)) (lit< tt) (lit< tt) p u hu))
      (piece (asc ", [") refl))
      (base_scan (opened (packed (operand_key p u) 44) (operand_num p u)) (lit< tt) (lit< tt) (packed 0 91) n hn))
      (piece tail refl)).goes

  pub literal_goes : (z : ℤ) → nat_abs z < 0x20_0000
      → foldl step_of scan_start (front_text name o t ++ asc "#" ++ signed_dec z) ≡ word (second N.key N.num (packed (operand_key o t) 44) (operand_num o t)) (sign_key z) (nat_abs z)
  unfolding plain_of step_of
  literal_goes z h =
      (then (then front (piece (asc "#") refl)) (signed_scan (second N.key N.num (packed (operand_key o t) 44) (operand_num o t)) (lit< tt) (lit< tt) z h)).goes

-- ---- what is built of it

abbrev pub made : Family → Instruction
made F = record { family = F }

module _ {w : Words} {s : Scan} where
  pub built_named : {n : Name} → Kept w s → name_for w.key1 w.key0 ≡ n → build_of s ≡ made (family_for n s)
  unfolding build_of
  built_named k e = rw (k.key1, k.key0, e)

  pub built_plain : {x : Tail} (op : SizedOp) → Kept w s → name_for w.key1 w.key0 ≡ Name.Sized Stem.Plain op → w.key2 ≡ 0 → tail_at (key_in s 5) ≡ x
      → build_of s ≡ made (bracketed_for x op s)
  unfolding plain_for
  built_plain op k e z x = built_named k e ∙ rw (k.key2, z, x)

  -- the target is what the first operand means
  module _ {t : ℕ} (h1 : target_at w.key1 w.num1 ≡ t) (h4 : w.num4 < 32) where
    pub offset_from_lem : {x : Tail} {z : ℤ} → OffsetEnd w x z s → offset_from s ≡ record { target = t; base = w.num4; offset = z }
    unfolding offset_from
    offset_from_lem e = rw (e.kept.key1, e.kept.num1, e.kept.num4, e.offset, h1, mod-eq_of_lt h4)

    pub index_from_lem : {r option scaled : ℕ} → r < 32 → IndexEnd w r option scaled s
        → index_from s ≡ record { target = t; base = w.num4; index = r; option = option; scaled = scaled }
    unfolding index_from
    index_from_lem h5 e =
        rw (e.kept.key1, e.kept.num1, e.kept.num4, e.index, e.extend, e.scale, h1, mod-eq_of_lt h4, mod-eq_of_lt h5)

  -- a pair's two are registers
  pub pair_from_lem : {x : Tail} {z : ℤ} {a b : ℕ} (mode : PairMode) → w.num1 ≡ a → w.num2 ≡ b → a < 32 → b < 32 → w.num4 < 32 → OffsetEnd w x z s
      → pair_from mode s ≡ record { first = a; second = b; base = w.num4; mode = mode; offset = z }
  unfolding pair_from
  pair_from_lem mode p q h1 h2 h4 e =
      rw (e.kept.num1, e.kept.num2, e.kept.num4, e.offset, p, q, mod-eq_of_lt h1, mod-eq_of_lt h2, mod-eq_of_lt h4)

  -- registers and nothing behind the base
  pub exclusive_from_lem : {t : ℕ} (size : AccessSize) → Kept w s → w.num1 ≡ t → t < 32 → w.num4 < 32
      → exclusive_from size s ≡ record { size = size; target = t; base = w.num4 }
  unfolding exclusive_from
  exclusive_from_lem size k p h1 h4 = rw (k.num1, k.num4, p, mod-eq_of_lt h1, mod-eq_of_lt h4)

  pub store_exclusive_from_lem : {a b : ℕ} (found size : AccessSize) → Kept w s → size_for found (letter_for w.key2) ≡ size → w.num1 ≡ a → w.num2 ≡ b → a < 32
      → b < 32 → w.num4 < 32 → store_exclusive_from found s ≡ record { size = size; status = a; target = b; base = w.num4 }
  unfolding store_exclusive_from
  store_exclusive_from_lem found size k e p q h1 h2 h4 =
      rw (k.key2, k.num1, k.num2, k.num4, e, p, q, mod-eq_of_lt h1, mod-eq_of_lt h2, mod-eq_of_lt h4)

-- the one line without a base
pub literal_built : {name : List ℕ} {o : Operand} (op : SizedOp) (N : Named name o (Name.Sized Stem.Plain op)) (t : ℕ) → t < 32 → (z : ℤ) → nat_abs z < 0x20_0000
    → build_of (word (second N.key N.num (packed (operand_key o t) 44) (operand_num o t)) (sign_key z) (nat_abs z))
    ≡ made (Literal (literal_for op) (record { target = t; offset = z }))
unfolding build_of plain_for literal_from offset_at
literal_built {o = o} op N t h (pos n) b = rw (N.reads t h, target_is o t h, plus_back n b)
literal_built {o = o} op N t h (negsuc n) b = rw (N.reads t h, target_is o t h, minus_back n b)
