-- What the scan makes of the pieces of a line: digits, registers, bases and signed numbers. Assumes nothing.
use Prim.Native.Nat.{ℕ, zero, suc, ◌+◌, ◌*◌, ◌/◌, ◌%◌, ◌^◌, ◌≤◌, ◌<◌}
use mathlib.Core.Path.{◌≡◌, refl, ap, ◌∙◌}
use mathlib.Core.Bool.{Bool, true, false, not, ◌&&◌, ◌||◌}
use mathlib.Core.List.{List, [], ◌∷◌, ◌++◌, foldl, foldl-append}
use native.Mathlib.Nat.{pow-suc, mod-eq_of_lt}
use native.Mathlib.Omega.{arith}
use borrow.Author.Tests.{lt-ltb, le-ltb, ne_eqb, eqb-true, eqb-false, ltb-true, ltb-false, not-true}
use lib.Dec.{ltb, eqb}
use lib.IntN.{ℤ, pos, negsuc, nat_abs}
use lib.ListN.{length, set}
use lib.Seq.{set-set, get_or-set_same}
use Rattle.bits.specs.Choice.{pick}
use Rattle.bits.specs.Fields.{part}
use Rattle.bits.proofs.Choices.{both, neither, tested}
use Rattle.ascii.specs.Ascii.{dec, signed_dec}
use Rattle.text.specs.Hints.{hint_text}
use Rattle.text.specs.Texts.{is_zero, register_text, base_text, operand_text}
use Rattle.mnemonic.specs.Operands.{Operand, Narrow, Wide, Hint, VectorB, VectorH, VectorS, VectorD, VectorQ}
use Rattle.ascii.proofs.Decimals.{dec_one, dec_more}
use Rattle.reader.specs.Types.{Scan}
use Rattle.reader.specs.route.Scan.{packed, keyed, digited, plain_of, step_of}

-- by the cases of a test, and of two comparisons
pub by_test : {P : Type 0} (b : Bool) → (b ≡ true → P) → (b ≡ false → P) → P
by_test true f g = f refl
by_test false f g = g refl

by_less : {P : Type 0} (a b : ℕ) → (a < b → P) → (b ≤ a → P) → P
by_less a b f g = by_test (ltb a b) (λ e. f (ltb-true a b e)) (λ e. g (ltb-false a b e))

pub by_same : {P : Type 0} (a b : ℕ) → (a ≡ b → P) → (¬ (a ≡ b) → P) → P
by_same a b f g = by_test (eqb a b) (λ e. f (eqb-true a b e)) (λ e. g (eqb-false a b e))

-- ---- pieces one behind the other

-- from the scan s the piece p leads to t
pub record Scans (s : Scan) (p : List ℕ) (t : Scan) : Type 0 where
  pub goes : foldl step_of s p ≡ t

pub then : {s t u : Scan} {p q : List ℕ} → Scans s p t → Scans t q u → Scans s (p ++ q) u
then {s} {t} {u} {p} {q} a b = record { goes = foldl-append step_of s p q ∙ rw a.goes b.goes }

first : {s t u : Scan} {p : List ℕ} (b : ℕ) → step_of s b ≡ t → Scans t p u → Scans s (b ∷ p) u
first {p = p} b e a = record { goes = ap (λ (x : Scan). foldl step_of x p) e ∙ a.goes }

pub piece : {s t : Scan} (p : List ℕ) → foldl step_of s p ≡ t → Scans s p t
piece p e = record { goes = e }

done : {s : Scan} → Scans s [] s
done = record { goes = refl }

-- ---- within a word

-- s with the key k and the number n for the word that it is in
abbrev pub word : Scan → ℕ → ℕ → Scan
word s k n = record { keys = set s.keys (s.at % 8) k; nums = set s.nums (s.at % 8) n; at = s.at }

-- the keys that registers, bases and signed numbers add
abbrev pub register_key : ℕ → ℕ → ℕ
register_key letter r = pick (is_zero letter r) (packed (packed (packed 0 letter) 122) 114) (packed 0 letter)

abbrev pub base_key : ℕ → ℕ → ℕ
base_key k r = pick (eqb r 31) (packed (packed k 115) 112) (packed k 120)

-- what a byte adds to the key and the number of its word
abbrev pub key_step : ℕ → ℕ → ℕ
key_step k b = pick (ltb b 48) (packed k b) (pick (ltb b 58) k (packed k b))

abbrev pub more : ℕ → ℕ → ℕ
more n d = n % 1000000000000000000 * 10 + d

abbrev pub num_step : ℕ → ℕ → ℕ
num_step n b = pick (eqb b 112) (more n 31) (pick (eqb b 122) (more n 31) (pick (ltb b 48) n (pick (ltb b 58) (more n (b % 16)) n)))

-- which key and which number an operand leaves
abbrev pub operand_key : Operand → ℕ → ℕ
operand_key Narrow r = register_key 119 r
operand_key Wide r = register_key 120 r
operand_key Hint r = foldl key_step 0 (hint_text r)
operand_key VectorB r = register_key 98 r
operand_key VectorH r = register_key 104 r
operand_key VectorS r = register_key 115 r
operand_key VectorD r = register_key 100 r
operand_key VectorQ r = register_key 113 r

abbrev pub operand_num : Operand → ℕ → ℕ
operand_num Narrow r = r
operand_num Wide r = r
operand_num Hint r = foldl num_step 0 (hint_text r)
operand_num VectorB r = r
operand_num VectorH r = r
operand_num VectorS r = r
operand_num VectorD r = r
operand_num VectorQ r = r

-- no space and no bracket
in_word : List ℕ → Bool
in_word [] = true
in_word (b ∷ bs) = not (eqb b 32 || eqb b 91) && in_word bs

in_word_lem : (r : ℕ) → r < 32 → in_word (hint_text r) ≡ true
unfolding in_word hint_text part dec
in_word_lem r h = tested 32 (λ r. in_word (hint_text r)) refl r h

abbrev pub sign_key : ℤ → ℕ
sign_key (pos n) = packed 0 35
sign_key (negsuc n) = packed (packed 0 35) 45

module _ (s : Scan) (hk : s.at % 8 < length s.keys) (hn : s.at % 8 < length s.nums) where
  keyed_word : (k n b : ℕ) → keyed (word s k n) b ≡ word s (packed k b) n
  keyed_word k n b = rw (get_or-set_same s.keys (s.at % 8) k 0, set-set)

  digited_word : (k n d : ℕ) → n < 1000000000000000000 → digited (word s k n) d ≡ word s k (n * 10 + d)
  digited_word k n d h = rw (get_or-set_same s.nums (s.at % 8) n 0, set-set, mod-eq_of_lt h)

  digited_any : (k n d : ℕ) → digited (word s k n) d ≡ word s k (n % 1000000000000000000 * 10 + d)
  digited_any k n d = rw (get_or-set_same s.nums (s.at % 8) n 0, set-set)

  -- any byte that neither ends the word nor opens a bracket
  byte_step : (k n b : ℕ) → eqb b 32 ≡ false → eqb b 91 ≡ false → step_of (word s k n) b ≡ word s (key_step k b) (num_step n b)
  unfolding plain_of step_of
  byte_step k n b p q =
      by_test (eqb b 112)
      (λ e. rw (eqb-true b 112 e) (ap (λ (t : Scan). keyed t 112) (digited_any k n 31) ∙ keyed_word k _ 112))
      (λ e.
      by_test (eqb b 122)
      (λ f. rw (eqb-true b 122 f) (ap (λ (t : Scan). keyed t 122) (digited_any k n 31) ∙ keyed_word k _ 122))
      (λ f.
      by_test (ltb b 48)
      (λ g. rw (p, q, e, f, g) (keyed_word k n b))
      (λ g. by_test (ltb b 58) (λ h. rw (p, q, e, f, g, h) (digited_any k n (b % 16))) (λ h. rw (p, q, e, f, g, h) (keyed_word k n b)))))

  bytes_scan : (k n : ℕ) (l : List ℕ) → in_word l ≡ true → foldl step_of (word s k n) l ≡ word s (foldl key_step k l) (foldl num_step n l)
  unfolding in_word
  bytes_scan k n [] h = refl
  bytes_scan k n (b ∷ bs) h =
      let t = both (not (eqb b 32 || eqb b 91)) (in_word bs) h in
      let (p, q) = neither (eqb b 32) (eqb b 91) (not-true _ t.0) in
      ap (λ (x : Scan). foldl step_of x bs) (byte_step k n b p q) ∙ bytes_scan (key_step k b) (num_step n b) bs t.1

  digit_step : (k n d : ℕ) → n < 1000000000000000000 → d < 10 → step_of (word s k n) (48 + d) ≡ word s k (n * 10 + d)
  unfolding plain_of step_of
  digit_step k n d h g =
      simp (
        ne_eqb (48 + d) 32 (λ e. omega arith),
        ne_eqb (48 + d) 91 (λ e. omega arith),
        ne_eqb (48 + d) 112 (λ e. omega arith),
        ne_eqb (48 + d) 122 (λ e. omega arith),
        le-ltb (48 + d) 48 (omega arith),
        lt-ltb (48 + d) 58 (omega arith),
      )
      (let e : (48 + d) % 16 ≡ d = omega arith in rw e (digited_word k n d h))

  dec_from : (k f n : ℕ) → n < 1000000000000000000 → n < 10 ^ suc f → foldl step_of (word s k 0) (dec n) ≡ word s k n
  dec_from k zero n g h = rw (dec_one n h) (digit_step k 0 n (omega arith) h ∙ ap (word s k) (omega arith))
  dec_from k (suc f) n g h =
      by_less n 10
      (λ e. rw (dec_one n e) (digit_step k 0 n (omega arith) e ∙ ap (word s k) (omega arith)))
      (λ e.
      rw (dec_more n e (omega arith))
      (foldl-append step_of (word s k 0) (dec (n / 10)) ((48 + n % 10) ∷ [])
      ∙ ap (λ (t : Scan). step_of t (48 + n % 10)) (dec_from k f (n / 10) (omega arith) (omega (arith, pow-suc 10 (suc f))))
      ∙ digit_step k (n / 10) (n % 10) (omega arith) (omega arith)
      ∙ ap (word s k) (omega arith)))

  dec_scan : (k n : ℕ) → n < 1000000000000000000 → Scans (word s k 0) (dec n) (word s k n)
  dec_scan k n h = piece (dec n) (dec_from k 17 n h h)

  -- the letters between p and z
  letter_step : (k n b : ℕ) → 112 < b → b < 122 → step_of (word s k n) b ≡ word s (packed k b) n
  unfolding plain_of step_of
  letter_step k n b l m =
      simp (
        ne_eqb b 32 (λ e. omega arith),
        ne_eqb b 91 (λ e. omega arith),
        ne_eqb b 112 (λ e. omega arith),
        ne_eqb b 122 (λ e. omega arith),
        le-ltb b 48 (omega arith),
        le-ltb b 58 (omega arith),
      ) (keyed_word k n b)

  -- p and z
  letter_31 : (k b : ℕ) → keyed (digited (word s k 0) 31) b ≡ word s (packed k b) 31
  letter_31 k b = ap (λ (t : Scan). keyed t b) (digited_word k 0 31 (omega arith)) ∙ keyed_word k 31 b

  -- # and -
  sign_step : (k b : ℕ) → ¬ (b ≡ 32) → b < 48 → step_of (word s k 0) b ≡ word s (packed k b) 0
  unfolding plain_of step_of
  sign_step k b n l =
      simp (ne_eqb b 32 n, ne_eqb b 91 (λ e. omega arith), ne_eqb b 112 (λ e. omega arith), ne_eqb b 122 (λ e. omega arith), lt-ltb b 48 l)
      (keyed_word k 0 b)

  -- w and x
  pub register_scan : (letter r : ℕ) → 118 < letter → letter < 122 → r < 32 → Scans (word s 0 0) (register_text letter r) (word s (register_key letter r) r)
  unfolding register_text step_of
  register_scan letter r l m h =
      let step = letter_step 0 0 letter (omega arith) m in
      by_same r 31
      (λ e.
      rw (e, lt-ltb 118 letter l) (first letter step (first 122 (letter_31 _ 122) (first 114 (letter_step _ 31 114 (omega arith) (omega arith)) done))))
      (λ e. simp (ne_eqb r 31 e, lt-ltb 118 letter l) (first letter step (dec_scan _ r (omega arith))))

  pub base_scan : (k r : ℕ) → r < 32 → Scans (word s k 0) (base_text r) (word s (base_key k r) r)
  unfolding base_text step_of
  base_scan k r h =
      by_same r 31
      (λ e. rw e (first 115 (letter_step k 0 115 (omega arith) (omega arith)) (first 112 (letter_31 _ 112) done)))
      (λ e. simp (ne_eqb r 31 e) (first 120 (letter_step k 0 120 (omega arith) (omega arith)) (dec_scan _ r (omega arith))))

  pub operand_scan : (o : Operand) (r : ℕ) → r < 32 → Scans (word s 0 0) (operand_text o r) (word s (operand_key o r) (operand_num o r))
  unfolding register_text plain_of step_of
  operand_scan Narrow r h = register_scan 119 r (omega arith) (omega arith) h
  operand_scan Wide r h = register_scan 120 r (omega arith) (omega arith) h
  operand_scan Hint r h = piece (hint_text r) (bytes_scan 0 0 (hint_text r) (in_word_lem r h))
  operand_scan VectorB r h = first 98 (keyed_word 0 0 98) (dec_scan _ r (omega arith))
  operand_scan VectorH r h = first 104 (keyed_word 0 0 104) (dec_scan _ r (omega arith))
  operand_scan VectorS r h = first 115 (keyed_word 0 0 115) (dec_scan _ r (omega arith))
  operand_scan VectorD r h = first 100 (keyed_word 0 0 100) (dec_scan _ r (omega arith))
  operand_scan VectorQ r h = first 113 (keyed_word 0 0 113) (dec_scan _ r (omega arith))

  -- a number behind its #
  pub signed_scan : (z : ℤ) → nat_abs z < 0x20_0000 → Scans (word s (packed 0 35) 0) (signed_dec z) (word s (sign_key z) (nat_abs z))
  unfolding signed_dec
  signed_scan (pos n) h = dec_scan _ n (omega arith)
  signed_scan (negsuc n) h = first 45 (sign_step _ 45 (λ e. omega arith) (omega arith)) (dec_scan _ (suc n) (omega arith))

  pub amount_scan : (n : ℕ) → n < 5 → Scans (word s (packed 0 35) 0) (dec n) (word s (packed 0 35) n)
  amount_scan n h = dec_scan _ n (omega arith)
