-- A word and its parts: a word is the sum of its parts, and a sum of values that have room has them for its parts. Assumes nothing.
use Rattle.std.proofs.Common.{◌≡◌, ℕ, ◌+◌, ◌*◌, ◌/◌, ◌%◌, ◌^◌, ◌<◌, true, eqb, ltb, List, [], ◌∷◌, sym, refl, ap, ◌∙◌, mod-lt, mod-eq_of_lt, zero-add, div-one, pow_pos, shr-shr, ltb-true, eqb-true}
use native.Mathlib.Nat.{mod-add-div', div-eq_of_lt, add-mul-mod_self_right, add-mul-div_right}
use Rattle.bits.specs.Fields.{part, Bits, has, fit}
use Rattle.bits.proofs.Choices.{both}

-- what lies from bit k up
pub above : ℕ → ℕ → ℕ
above k w = w / 2 ^ k

pub part_lt : (k n w : ℕ) → part k n w < 2 ^ n
unfolding part
part_lt k n w = mod-lt (w / 2 ^ k) (pow_pos n)

pub top : (w k : ℕ) → w < 2 ^ k → above k w ≡ 0
unfolding above
top w k h = div-eq_of_lt h

-- ---- from a word to its parts

next : (w k n : ℕ) → above k w ≡ part k n w + above (k + n) w * 2 ^ n
unfolding above part
next w k n = sym (mod-add-div' (w / 2 ^ k) (2 ^ n)) ∙ ap (λ (q : ℕ). w / 2 ^ k % 2 ^ n + q * 2 ^ n) (shr-shr w k n)

-- the parts of these widths from bit k up, and what lies above them, as one number
abbrev pub parts : List ℕ → ℕ → ℕ → ℕ
parts [] k w = above k w
parts (n ∷ ns) k w = part k n w + parts ns (k + n) w * 2 ^ n

pub cut : (ns : List ℕ) (k w : ℕ) → above k w ≡ parts ns k w
cut [] k w = refl
cut (n ∷ ns) k w = next w k n ∙ ap (λ (q : ℕ). part k n w + q * 2 ^ n) (cut ns (k + n) w)

pub split : (ns : List ℕ) (w : ℕ) → w ≡ parts ns 0 w
unfolding above
split ns w = sym (div-one w) ∙ cut ns 0 w

-- ---- from parts to the word

-- values and their widths, from bit 0 up, as one number
abbrev pub pack : List (ℕ × ℕ) → ℕ
pack [] = 0
pack (f ∷ fs) = f.0 + pack fs * 2 ^ f.1

abbrev pub Room : List (ℕ × ℕ) → Type 0
Room [] = Unit {0}
Room (f ∷ fs) = (f.0 < 2 ^ f.1) × Room fs

abbrev pub Parts : ℕ → ℕ → List (ℕ × ℕ) → Type 0
Parts w k [] = Unit {0}
Parts w k (f ∷ fs) = (part k f.1 w ≡ f.0) × Parts w (k + f.1) fs

unpack_from : (fs : List (ℕ × ℕ)) (w k : ℕ) → above k w ≡ pack fs → Room fs → Parts w k fs
unfolding above part
unpack_from [] w k e b = tt
unpack_from (f ∷ fs) w k e b = (
  ap (λ (x : ℕ). x % 2 ^ f.1) e ∙ add-mul-mod_self_right f.0 (pack fs) (2 ^ f.1) ∙ mod-eq_of_lt b.0,
  unpack_from fs w (k + f.1)
      (sym (shr-shr w k f.1) ∙ ap (λ (x : ℕ). x / 2 ^ f.1) e ∙ add-mul-div_right f.0 (pack fs) (pow_pos f.1)
      ∙ ap (λ (x : ℕ). x + pack fs) (div-eq_of_lt b.0) ∙ zero-add (pack fs))
      b.1,
)

pub unpack : (fs : List (ℕ × ℕ)) (w : ℕ) → pack fs ≡ w → Room fs → Parts w 0 fs
unfolding above
unpack fs w e b = unpack_from fs w 0 (div-one w ∙ sym e) b

-- ---- what a word has, as equations

abbrev pub Has : ℕ → List Bits → Type 0
Has w [] = Unit {0}
Has w (b ∷ bs) = (part b.low b.width w ≡ b.value) × Has w bs

pub has_true : (w : ℕ) (bs : List Bits) → has w bs ≡ true → Has w bs
has_true w [] h = tt
has_true w (b ∷ bs) h =
    let p = both (eqb (part b.low b.width w) b.value) (has w bs) h in
    (eqb-true (part b.low b.width w) b.value p.0, has_true w bs p.1)

-- ---- what has room, as orders

abbrev pub Fit : List Bits → Type 0
Fit [] = Unit {0}
Fit (b ∷ bs) = (b.value < 2 ^ b.width) × Fit bs

pub fit_true : (bs : List Bits) → fit bs ≡ true → Fit bs
fit_true [] h = tt
fit_true (b ∷ bs) h =
    let p = both (ltb b.value (2 ^ b.width)) (fit bs) h in
    (ltb-true b.value (2 ^ b.width) p.0, fit_true bs p.1)
