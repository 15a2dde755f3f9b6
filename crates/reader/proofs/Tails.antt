-- What stands behind the base comes back from its scan: an offset, shown or not, in each mode, and an index. Assumes nothing.
use Prim.Native.Nat.{ℕ, suc, ◌+◌, ◌%◌, ◌<◌}
use mathlib.Core.Path.{◌≡◌, refl, ap, sym, ◌∙◌}
use mathlib.Core.List.{List, [], ◌∷◌, ◌++◌, foldl, append_assoc}
use mathlib.Core.Logic.{◌⊎◌, inl, inr}
use native.Mathlib.Nat.{mod-eq_of_lt, pos_of_ne-zero}
use native.Mathlib.Omega.{arith}
use borrow.Author.Tests.{ne_eqb}
use lib.Dec.{eqb, lit<}
use lib.IntN.{ℤ, pos, negsuc, nat_abs, neg_ℤ}
use Rattle.ascii.specs.Ascii.{asc, dec, signed_dec}
use Rattle.text.specs.Texts.{register_text, offset_tail, pre_tail, post_tail, extend_name, amount_text, extend_text, index_tail}
use Rattle.instruction.specs.Operations.{scale_of}
use Rattle.instruction.proofs.Codes.{sized}
use Rattle.reader.specs.Types.{Scan, Tail, AtOffset, Before, After, Indexed, SizedOp, IndexOperands}
use Rattle.reader.specs.route.Scan.{packed, key, plain_of, step_of}
use Rattle.reader.specs.route.Tails.{tail_at, plus_of, minus_of, offset_at, option_at, scaled_at}
use Rattle.reader.specs.route.Build.{key_in, num_in}
use Rattle.reader.proofs.Scans.{by_test, by_same, Scans, then, piece, word, register_key, sign_key, register_scan, signed_scan, amount_scan}

-- ---- scans behind the base

-- what the words up to the base left
pub record Words : Type 0 where
  pub key0 : ℕ
  pub num0 : ℕ
  pub key1 : ℕ
  pub num1 : ℕ
  pub key2 : ℕ
  pub num2 : ℕ
  pub key4 : ℕ
  pub num4 : ℕ

-- in the word of the base, and in the words behind it
abbrev pub here : Words → Scan
here w =
    record {
      keys = w.key0 ∷ w.key1 ∷ w.key2 ∷ 0 ∷ w.key4 ∷ 0 ∷ 0 ∷ 0 ∷ [];
      nums = w.num0 ∷ w.num1 ∷ w.num2 ∷ 0 ∷ w.num4 ∷ 0 ∷ 0 ∷ 0 ∷ [];
      at = 4;
    }

abbrev behind : Words → ℕ → Scan
behind w k =
    record {
      keys = w.key0 ∷ w.key1 ∷ w.key2 ∷ 0 ∷ k ∷ 0 ∷ 0 ∷ 0 ∷ [];
      nums = w.num0 ∷ w.num1 ∷ w.num2 ∷ 0 ∷ w.num4 ∷ 0 ∷ 0 ∷ 0 ∷ [];
      at = 5;
    }

abbrev amount : Words → ℕ → ℕ → ℕ → Scan
amount w k r e =
    record {
      keys = w.key0 ∷ w.key1 ∷ w.key2 ∷ 0 ∷ packed w.key4 44 ∷ k ∷ e ∷ 0 ∷ [];
      nums = w.num0 ∷ w.num1 ∷ w.num2 ∷ 0 ∷ w.num4 ∷ r ∷ 0 ∷ 0 ∷ [];
      at = 7;
    }

-- the words that a tail does not touch
pub record Kept (w : Words) (s : Scan) : Type 0 where
  pub key0 : key_in s 0 ≡ w.key0
  pub key1 : key_in s 1 ≡ w.key1
  pub key2 : key_in s 2 ≡ w.key2
  pub num1 : num_in s 1 ≡ w.num1
  pub num2 : num_in s 2 ≡ w.num2
  pub num4 : num_in s 4 ≡ w.num4

-- a scan that ended behind an offset, and behind an index
pub record OffsetEnd (w : Words) (x : Tail) (z : ℤ) (s : Scan) : Type 0 where
  pub kept : Kept w s
  pub tail : tail_at (key_in s 5) ≡ x
  pub offset : offset_at (key_in s 5) (num_in s 5) ≡ z

pub record IndexEnd (w : Words) (r option scaled : ℕ) (s : Scan) : Type 0 where
  pub kept : Kept w s
  pub tail : tail_at (key_in s 5) ≡ Indexed
  pub index : num_in s 5 ≡ r
  pub extend : option_at (key_in s 6) ≡ option
  pub scale : scaled_at (key_in s 6) ≡ scaled

-- ---- signed numbers

-- by the key without and with what ends the word
pub plus_back : (n : ℕ) → n < 0x20_0000 → plus_of n ≡ pos n
unfolding plus_of
plus_back n h = ap pos (mod-eq_of_lt h)

pub minus_back : (n : ℕ) → suc n < 0x20_0000 → minus_of (suc n) ≡ negsuc n
unfolding minus_of
minus_back n h = ap (λ (k : ℕ). neg_ℤ (pos k)) (mod-eq_of_lt h)

none_back : (z : ℤ) → nat_abs z ≡ 0 → plus_of 0 ≡ z
unfolding plus_of
none_back (pos n) e = ap pos (sym e)
none_back (negsuc n) e = absurd (omega arith)

-- ---- offsets

module _ (w : Words) where
  untouched : {a b d e f g h at : ℕ} → Kept w
      (record {
        keys = w.key0 ∷ w.key1 ∷ w.key2 ∷ 0 ∷ a ∷ b ∷ d ∷ e ∷ [];
        nums = w.num0 ∷ w.num1 ∷ w.num2 ∷ 0 ∷ w.num4 ∷ f ∷ g ∷ h ∷ [];
        at = at;
      })
  untouched = record { key0 = refl; key1 = refl; key2 = refl; num1 = refl; num2 = refl; num4 = refl }

  -- the # and the number behind it
  number : (k : ℕ) (p : List ℕ) (z : ℤ) → nat_abs z < 0x20_0000 → Scans (here w) p (word (behind w k) (packed 0 35) 0)
      → Scans (here w) (p ++ signed_dec z) (word (behind w k) (sign_key z) (nat_abs z))
  number k p z h o = then o (signed_scan (behind w k) (lit< tt) (lit< tt) z h)

  ends : (x : Tail) (z : ℤ) {p : List ℕ} {s : Scan} → Scans (here w) p s → OffsetEnd w x z s → OffsetEnd w x z (foldl step_of (here w) p)
  ends x z a e = rw a.goes e

  offset_shown : (z : ℤ) → nat_abs z < 0x20_0000 → OffsetEnd w AtOffset z (foldl step_of (here w) (asc ", #" ++ signed_dec z ++ asc "]"))
  unfolding plain_of step_of tail_at offset_at
  offset_shown (pos n) h =
      ends AtOffset (pos n) (then (number (packed w.key4 44) (asc ", #") (pos n) h (piece (asc ", #") refl)) (piece (asc "]") refl))
      (record { kept = untouched; tail = refl; offset = plus_back n h })
  offset_shown (negsuc n) h =
      ends AtOffset (negsuc n) (then (number (packed w.key4 44) (asc ", #") (negsuc n) h (piece (asc ", #") refl)) (piece (asc "]") refl))
      (record { kept = untouched; tail = refl; offset = minus_back n h })

  pub offset_end : (z : ℤ) → nat_abs z < 0x20_0000 → OffsetEnd w AtOffset z (foldl step_of (here w) (offset_tail z))
  unfolding offset_tail plain_of step_of tail_at offset_at
  offset_end z h =
      by_same (nat_abs z) 0
      (λ e. rw e (record { kept = untouched; tail = refl; offset = none_back z e }))
      (λ e. rw (ne_eqb (nat_abs z) 0 e) (offset_shown z h))

  pub pre_end : (z : ℤ) → nat_abs z < 0x20_0000 → OffsetEnd w Before z (foldl step_of (here w) (pre_tail z))
  unfolding pre_tail plain_of step_of tail_at offset_at
  pre_end (pos n) h =
      ends Before (pos n) (then (number (packed w.key4 44) (asc ", #") (pos n) h (piece (asc ", #") refl)) (piece (asc "]!") refl))
      (record { kept = untouched; tail = refl; offset = plus_back n h })
  pre_end (negsuc n) h =
      ends Before (negsuc n) (then (number (packed w.key4 44) (asc ", #") (negsuc n) h (piece (asc ", #") refl)) (piece (asc "]!") refl))
      (record { kept = untouched; tail = refl; offset = minus_back n h })

  pub post_end : (z : ℤ) → nat_abs z < 0x20_0000 → OffsetEnd w After z (foldl step_of (here w) (post_tail z))
  unfolding post_tail plain_of step_of tail_at offset_at
  post_end (pos n) h =
      ends After (pos n) (number (packed (packed w.key4 93) 44) (asc "], #") (pos n) h (piece (asc "], #") refl))
      (record { kept = untouched; tail = refl; offset = plus_back n h })
  post_end (negsuc n) h =
      ends After (negsuc n) (number (packed (packed w.key4 93) 44) (asc "], #") (negsuc n) h (piece (asc "], #") refl))
      (record { kept = untouched; tail = refl; offset = minus_back n h })

  -- ---- indexes

  index_ends : (r option scaled : ℕ) {p : List ℕ} {s : Scan} → Scans (here w) p s → IndexEnd w r option scaled s → IndexEnd w r option scaled (foldl step_of (here w) p)
  index_ends r option scaled a e = rw a.goes e

  -- an index register and what ends its word is no offset
  narrow_indexed : (r b : ℕ) → (b ≡ 44) ⊎ (b ≡ 93) → tail_at (packed (register_key 119 r) b) ≡ Indexed
  unfolding tail_at
  narrow_indexed r b (inl e) = rw e (by_test (eqb r 31) (λ t. rw t) (λ t. rw t))
  narrow_indexed r b (inr e) = rw e (by_test (eqb r 31) (λ t. rw t) (λ t. rw t))

  wide_indexed : (r b : ℕ) → (b ≡ 44) ⊎ (b ≡ 93) → tail_at (packed (register_key 120 r) b) ≡ Indexed
  unfolding tail_at
  wide_indexed r b (inl e) = rw e (by_test (eqb r 31) (λ t. rw t) (λ t. rw t))
  wide_indexed r b (inr e) = rw e (by_test (eqb r 31) (λ t. rw t) (λ t. rw t))

  module _ (r : ℕ) (h : r < 32) where
    -- up to the index register
    index_front : (letter : ℕ) → 118 < letter → letter < 122
        → Scans (here w) (asc ", " ++ register_text letter r) (word (behind w (packed w.key4 44)) (register_key letter r) r)
    unfolding plain_of step_of
    index_front letter a b =
        then {t = word (behind w (packed w.key4 44)) 0 0} (piece (asc ", ") refl)
        (register_scan (behind w (packed w.key4 44)) (lit< tt) (lit< tt) letter r a b h)

    abbrev index_text : ℕ → ℕ → ℕ → List ℕ
    index_text option scaled n = asc ", " ++ register_text (119 + option % 2) r ++ extend_text option scaled n ++ asc "]"

    -- without an amount
    lsl_0 : (n : ℕ) → IndexEnd w r 3 0 (foldl step_of (here w) (index_text 3 0 n))
    unfolding extend_text plain_of step_of option_at scaled_at
    lsl_0 n =
        index_ends r 3 0 (then (then (index_front 120 (lit< tt) (lit< tt)) (piece [] refl)) (piece (asc "]") refl))
        (record { kept = untouched; tail = wide_indexed r 93 (inr refl); index = refl; extend = refl; scale = refl })

    uxtw_0 : (n : ℕ) → IndexEnd w r 2 0 (foldl step_of (here w) (index_text 2 0 n))
    unfolding extend_text extend_name amount_text plain_of step_of option_at scaled_at
    uxtw_0 n =
        index_ends r 2 0 (then (then (index_front 119 (lit< tt) (lit< tt)) (piece (asc ", uxtw") refl)) (piece (asc "]") refl))
        (record { kept = untouched; tail = narrow_indexed r 44 (inl refl); index = refl; extend = refl; scale = refl })

    sxtw_0 : (n : ℕ) → IndexEnd w r 6 0 (foldl step_of (here w) (index_text 6 0 n))
    unfolding extend_text extend_name amount_text plain_of step_of option_at scaled_at
    sxtw_0 n =
        index_ends r 6 0 (then (then (index_front 119 (lit< tt) (lit< tt)) (piece (asc ", sxtw") refl)) (piece (asc "]") refl))
        (record { kept = untouched; tail = narrow_indexed r 44 (inl refl); index = refl; extend = refl; scale = refl })

    sxtx_0 : (n : ℕ) → IndexEnd w r 7 0 (foldl step_of (here w) (index_text 7 0 n))
    unfolding extend_text extend_name amount_text plain_of step_of option_at scaled_at
    sxtx_0 n =
        index_ends r 7 0 (then (then (index_front 120 (lit< tt) (lit< tt)) (piece (asc ", sxtx") refl)) (piece (asc "]") refl))
        (record { kept = untouched; tail = wide_indexed r 44 (inl refl); index = refl; extend = refl; scale = refl })

    -- with an amount
    module _ (n : ℕ) (g : n < 5) where
      -- a name behind the register, and the amount
      scaled_front : (letter e : ℕ) (p : List ℕ) → 118 < letter → letter < 122
          → foldl step_of (word (behind w (packed w.key4 44)) (register_key letter r) r) (p ++ asc " #") ≡ word (amount w (packed (register_key letter r) 44) r e) (packed 0 35) 0
          → Scans (here w) (asc ", " ++ register_text letter r ++ (p ++ (asc " #" ++ dec n))) (word (amount w (packed (register_key letter r) 44) r e) (packed 0 35) n)
      scaled_front letter e p a b o =
          then (index_front letter a b)
          (record {
            goes = ap (foldl step_of _) (sym (append_assoc p (asc " #") (dec n)))
                ∙ (then (piece (p ++ asc " #") o) (amount_scan (amount w (packed (register_key letter r) 44) r e) (lit< tt) (lit< tt) n g)).goes;
          })

      lsl_1 : IndexEnd w r 3 1 (foldl step_of (here w) (index_text 3 1 n))
      unfolding extend_text amount_text plain_of step_of option_at scaled_at
      lsl_1 =
          index_ends r 3 1 (then (scaled_front 120 (key "lsl") (asc ", lsl") (lit< tt) (lit< tt) refl) (piece (asc "]") refl))
          (record { kept = untouched; tail = wide_indexed r 44 (inl refl); index = refl; extend = refl; scale = refl })

      uxtw_1 : IndexEnd w r 2 1 (foldl step_of (here w) (index_text 2 1 n))
      unfolding extend_text extend_name amount_text plain_of step_of option_at scaled_at
      uxtw_1 =
          index_ends r 2 1 (then (scaled_front 119 (key "uxtw") (asc ", uxtw") (lit< tt) (lit< tt) refl) (piece (asc "]") refl))
          (record { kept = untouched; tail = narrow_indexed r 44 (inl refl); index = refl; extend = refl; scale = refl })

      sxtw_1 : IndexEnd w r 6 1 (foldl step_of (here w) (index_text 6 1 n))
      unfolding extend_text extend_name amount_text plain_of step_of option_at scaled_at
      sxtw_1 =
          index_ends r 6 1 (then (scaled_front 119 (key "sxtw") (asc ", sxtw") (lit< tt) (lit< tt) refl) (piece (asc "]") refl))
          (record { kept = untouched; tail = narrow_indexed r 44 (inl refl); index = refl; extend = refl; scale = refl })

      sxtx_1 : IndexEnd w r 7 1 (foldl step_of (here w) (index_text 7 1 n))
      unfolding extend_text extend_name amount_text plain_of step_of option_at scaled_at
      sxtx_1 =
          index_ends r 7 1 (then (scaled_front 120 (key "sxtx") (asc ", sxtx") (lit< tt) (lit< tt) refl) (piece (asc "]") refl))
          (record { kept = untouched; tail = wide_indexed r 44 (inl refl); index = refl; extend = refl; scale = refl })

      by_scaled : (option : ℕ) (scaled : ℕ) → scaled < 2 → IndexEnd w r option 0 (foldl step_of (here w) (index_text option 0 n))
          → IndexEnd w r option 1 (foldl step_of (here w) (index_text option 1 n)) → IndexEnd w r option scaled (foldl step_of (here w) (index_text option scaled n))
      by_scaled option scaled b f o = by_same scaled 0 (λ e. rw e f) (λ e. let one : scaled ≡ 1 = omega (arith, pos_of_ne-zero e) in rw one o)

      index_any : (option scaled : ℕ) → (¬ (option ≡ 2) → ¬ (option ≡ 3) → ¬ (option ≡ 6) → option ≡ 7) → scaled < 2
          → IndexEnd w r option scaled (foldl step_of (here w) (index_text option scaled n))
      index_any option scaled v b =
          by_same option 2 (λ e. rw e (by_scaled 2 scaled b (uxtw_0 n) uxtw_1))
          (λ e2. by_same option 3 (λ e. rw e (by_scaled 3 scaled b (lsl_0 n) lsl_1))
          (λ e3. by_same option 6 (λ e. rw e (by_scaled 6 scaled b (sxtw_0 n) sxtw_1))
          (λ e6. rw (v e2 e3 e6) (by_scaled 7 scaled b (sxtx_0 n) sxtx_1))))

  -- an index whose option is one of the four
  pub index_end : (op : SizedOp) (o : IndexOperands) → o.index < 32 → (¬ (o.option ≡ 2) → ¬ (o.option ≡ 3) → ¬ (o.option ≡ 6) → o.option ≡ 7) → o.scaled < 2
      → IndexEnd w o.index o.option o.scaled (foldl step_of (here w) (index_tail op o))
  unfolding index_tail
  index_end op o h v b = index_any o.index h (scale_of op) (sized op).scale o.option o.scaled v b
