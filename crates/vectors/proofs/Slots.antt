-- General registers and vector registers as one list of 64: what is read and set at a slot. Assumes nothing.
use Prim.Native.Nat.{ℕ, zero, suc, ◌-◌, ◌/◌, ◌≤◌, ◌<◌}
use mathlib.Core.Path.{◌≡◌, refl, sym, ap, ◌∙◌}
use mathlib.Core.Bool.{Bool, true, false}
use mathlib.Core.List.{List, [], ◌∷◌, ◌++◌, map}
use mathlib.Core.Logic.{◌⊎◌, inl, inr}
use native.Mathlib.Omega.{arith}
use borrow.Author.Tests.{eqb-true, eqb-false, ltb-true, ltb-false}
use lib.Dec.{eqb, ltb}
use lib.ListN.{length, get_or, set, length-set, length-append, get_or-append, get_or-eq_default, get_or-map}
use lib.Seq.{set-append_left, set_out}
use Rattle.std.proofs.lemmas.List.{map-set, get_or-append_right, set-append_right}
use Rattle.vectors.specs.declared.Halves.{Halves}
use Rattle.vectors.specs.File.{wide, number_of, halves_at, with_vector, vector_slot, files_after, taints_after, no_writes}
use Rattle.vectors.specs.route.Slots.{Plain}

pub plain_low : (slot : ℕ) → slot < 32 → Plain slot
plain_low slot h = not_one (slot / 32) (omega arith)
  where
    not_one : (n : ℕ) → n < 1 → eqb n 1 ≡ false
    not_one zero l = refl
    not_one (suc n) l = absurd (omega arith)

plain_at : (slot : ℕ) (z : Bool) → ltb slot 32 ≡ z → Plain slot → (slot < 32) ⊎ (64 ≤ slot)
plain_at slot true e p = inl (ltb-true slot 32 e)
plain_at slot false e p = inr (omega (arith, ltb-false slot 32 e, eqb-false (slot / 32) 1 p))

pub plain : (slot : ℕ) → Plain slot → (slot < 32) ⊎ (64 ≤ slot)
plain slot p = plain_at slot (ltb slot 32) refl p

pub vector_low : (slot : ℕ) → vector_slot slot ≡ true → (32 ≤ slot) × (slot < 64)
vector_low slot e = let d : slot / 32 ≡ 1 = eqb-true (slot / 32) 1 e in (omega arith, omega arith)

module _ (v w : List ℕ) (general : length v ≡ 32) where
  pub vector_get : (slot : ℕ) → 32 ≤ slot → get_or (v ++ w) slot 0 ≡ get_or w (slot - 32) 0
  vector_get slot h = get_or-append_right v w 32 slot 0 general h

  pub vector_set : (slot x : ℕ) → 32 ≤ slot → set (v ++ w) slot x ≡ v ++ set w (slot - 32) x
  vector_set slot x h = set-append_right v w 32 slot x general h

  module _ (vectors : length w ≡ 32) where
    all : length (v ++ w) ≡ 64
    all = length-append v w ∙ omega (arith, general, vectors)

    get_at : (slot : ℕ) → (slot < 32) ⊎ (64 ≤ slot) → get_or (v ++ w) slot 0 ≡ get_or v slot 0
    get_at slot (inl h) = get_or-append v w 0 slot (omega (arith, general))
    get_at slot (inr h) = get_or-eq_default (v ++ w) 0 (omega (arith, all)) ∙ sym (get_or-eq_default v 0 (omega (arith, general)))

    pub plain_get : (slot : ℕ) → Plain slot → get_or (v ++ w) slot 0 ≡ get_or v slot 0
    plain_get slot p = get_at slot (plain slot p)

    set_at : (slot x : ℕ) → (slot < 32) ⊎ (64 ≤ slot) → set (v ++ w) slot x ≡ set v slot x ++ w
    set_at slot x (inl h) = set-append_left v w slot x (omega (arith, general))
    set_at slot x (inr h) = set_out (v ++ w) slot x (omega (arith, all)) ∙ ap (λ (u : List ℕ). u ++ w) (sym (set_out v slot x (omega (arith, general))))

    pub plain_set : (slot x : ℕ) → Plain slot → set (v ++ w) slot x ≡ set v slot x ++ w
    plain_set slot x p = set_at slot x (plain slot p)

-- ---- vector registers as numbers

pub wide_set : (file : List (List ℕ)) (n : ℕ) (h : Halves) → map wide (with_vector file n h) ≡ set (map wide file) n (number_of h)
wide_set file n h = map-set wide file n (h.low ∷ h.high ∷ [])

pub wide_get : (file : List (List ℕ)) (n : ℕ) → get_or (map wide file) n 0 ≡ number_of (halves_at file n)
wide_get file n = get_or-map wide file n []

pub length_map : {A B : Type 0} (f : A → B) (xs : List A) → length (map f xs) ≡ length xs
length_map f [] = refl
length_map f (x ∷ xs) = ap suc (length_map f xs)

-- ---- what a step sets: three slots in a row

length_three : (v : List ℕ) (i j x y : ℕ) → length v ≡ 32 → length (set (set v i x) j y) ≡ 32
length_three v i j x y h = length-set (set v i x) j y ∙ length-set v i x ∙ h

pub all_plain : (v w : List ℕ) (a b c x y z : ℕ) → length v ≡ 32 → length w ≡ 32 → Plain a → Plain b → Plain c
    → set (set (set (v ++ w) a x) b y) c z ≡ set (set (set v a x) b y) c z ++ w
all_plain v w a b c x y z h k p q r =
    ap (λ (l : List ℕ). set (set l b y) c z) (plain_set v w h k a x p)
    ∙ ap (λ (l : List ℕ). set l c z) (plain_set (set v a x) w (length-set v a x ∙ h) k b y q)
    ∙ plain_set (set (set v a x) b y) w (length_three v a b x y h) k c z r

-- a general one, then vector registers
pub then_vectors : (v w : List ℕ) (a b c x y z : ℕ) → length v ≡ 32 → length w ≡ 32 → Plain a → 32 ≤ b → 32 ≤ c
    → set (set (set (v ++ w) a x) b y) c z ≡ set v a x ++ set (set w (b - 32) y) (c - 32) z
then_vectors v w a b c x y z h k p q r =
    let l : length (set v a x) ≡ 32 = length-set v a x ∙ h in
    ap (λ (l : List ℕ). set (set l b y) c z) (plain_set v w h k a x p)
    ∙ ap (λ (l : List ℕ). set l c z) (vector_set (set v a x) w l b y q)
    ∙ vector_set (set v a x) (set w (b - 32) y) l c z r

-- ---- what is read at a slot

module _ (v : List ℕ) (vs : List (List ℕ)) (slot : ℕ) (general : length v ≡ 32) where
  pub read_general : length vs ≡ 32 → Plain slot → get_or (v ++ map wide vs) slot 0 ≡ get_or v slot 0
  read_general h e = plain_get v (map wide vs) general (length_map wide vs ∙ h) slot e

-- nothing written changes nothing
none_kept : (vs : List (List ℕ)) → length vs ≡ 32 → set (set vs 32 (0 ∷ 0 ∷ [])) 32 (0 ∷ 0 ∷ []) ≡ vs
none_kept vs h =
    let l : length vs ≤ 32 = omega (arith, h) in
    rw (set_out vs 32 (0 ∷ 0 ∷ []) l, set_out vs 32 (0 ∷ 0 ∷ []) l)

pub files_kept : (vs : List (List ℕ)) → length vs ≡ 32 → files_after no_writes vs ≡ vs
files_kept vs h = none_kept vs h

pub taints_kept : (ms : List (List ℕ)) → length ms ≡ 32 → taints_after no_writes ms ≡ ms
taints_kept ms h = none_kept ms h
