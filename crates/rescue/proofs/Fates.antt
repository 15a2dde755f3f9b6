-- Each line has just one fate. Assumes nothing.
use Prim.Native.Nat.{ℕ, ◌+◌, ◌^◌, ◌<◌}
use mathlib.Core.Path.{◌≡◌, refl, sym, ap, ◌∙◌, subst}
use mathlib.Core.Bool.{Bool, true, false}
use mathlib.Core.List.{List, [], ◌∷◌, ◌++◌, append_assoc, List-discrete}
use mathlib.Core.Logic.{inl, inr}
use native.Mathlib.Decide.{ℕ_discrete}
use native.Mathlib.Omega.{arith}
use lib.ListN.{length, take, length-append}
use lib.Seq.{take_at}
use Rattle.bits.specs.Choice.{pick}
use Rattle.ascii.specs.Ascii.{asc}
use Rattle.instruction.specs.Answers.{answer_number}
use Rattle.instruction.specs.Table.{allocated}
use Rattle.decoder.specs.Decoding.{class_of}
use Rattle.text.specs.Texts.{word_text}
use Rattle.reader.specs.Reading.{Reading, LineOf, ReadOf}
use Rattle.reader.proofs.RoundTrip.{text_injective, read_some}
use Rattle.listing.specs.Listing.{hex8, content_text, answer_text, line_text}
use Rattle.rescue.specs.Lines.{fields_of}
use Rattle.rescue.specs.Rescue.{Digits, KeptAs, RestoredAs, FateOf, Fates, none, next}
use Rattle.rescue.specs.declared.Fate.{Fate}
use Rattle.rescue.specs.declared.Fate.TheVariants.{Kept, Restored, Dropped}
use Rattle.text.proofs.Clean.{Clean, known, text_clean}
use Rattle.rescue.proofs.Parts.{Free, nil, cons, clean_free, free_joins, parts_part, parts_last}
use Rattle.rescue.proofs.Hex.{hex_injective, digits_known, hex_clean, hex_length}

-- ---- the line of a word

abbrev pub answer_of : ℕ → List ℕ
answer_of w = (48 + answer_number (class_of w)) ∷ []

unfoldable pub body_of : ℕ → List ℕ
body_of w = hex8 w ++ (9 ∷ []) ++ content_text w ++ (9 ∷ []) ++ answer_of w

pub line_is : (w : ℕ) → line_text w ≡ body_of w ++ (10 ∷ [])
unfolding line_text answer_text body_of
line_is w = sym (append_assoc (hex8 w ++ (9 ∷ []) ++ content_text w ++ (9 ∷ [])) (answer_of w) (10 ∷ []))

pub line_length : (w : ℕ) → length (line_text w) ≡ length (content_text w) + 12
unfolding line_text answer_text
line_length w =
    omega (
      arith,
      hex_length w,
      length-append (hex8 w) (9 ∷ []),
      length-append (hex8 w ++ (9 ∷ [])) (content_text w),
      length-append (hex8 w ++ (9 ∷ []) ++ content_text w) (9 ∷ []),
      length-append (hex8 w ++ (9 ∷ []) ++ content_text w ++ (9 ∷ [])) (answer_text w),
    )

content_by : (w : ℕ) (z : Bool) → Clean (pick z (word_text w) (asc "-"))
content_by w true = text_clean w
content_by w false = known (asc "-") refl

content_clean : (w : ℕ) → Clean (content_text w)
unfolding content_text
content_clean w = content_by w (allocated w)

answer_free : (s : ℕ) → s < 32 → (w : ℕ) → Free s (answer_of w)
answer_free s h w = cons {b = 48 + answer_number (class_of w)} (λ e. omega (arith, e, h)) nil

-- a line has no newline in it
pub body_free : (w : ℕ) → Free 10 (body_of w)
unfolding body_of
body_free w =
    let tab : Free 10 (9 ∷ []) = cons {b = 9} (λ e. omega (arith, e)) nil in
    free_joins (free_joins (free_joins (free_joins (clean_free 10 (omega arith) (hex_clean w)) tab) (clean_free 10 (omega arith) (content_clean w))) tab)
    (answer_free 10 (omega arith) w)

regroup : (a t b : List ℕ) → a ++ (9 ∷ []) ++ t ++ (9 ∷ []) ++ b ≡ a ++ (9 ∷ (t ++ (9 ∷ b)))
regroup a t b = simp append_assoc

-- and three fields
body_fields : (w : ℕ) → fields_of (body_of w) ≡ hex8 w ∷ content_text w ∷ answer_of w ∷ []
unfolding body_of
body_fields w =
    ap fields_of (regroup (hex8 w) (content_text w) (answer_of w))
    ∙ parts_part 9 ([] ∷ []) (clean_free 9 (omega arith) (hex_clean w)) (content_text w ++ (9 ∷ answer_of w))
    ∙ ap (λ (l : List (List ℕ)). hex8 w ∷ l)
    (parts_part 9 ([] ∷ []) (clean_free 9 (omega arith) (content_clean w)) (answer_of w)
    ∙ ap (λ (l : List (List ℕ)). content_text w ∷ l) (parts_last 9 (answer_free 9 (omega arith) w)))

pub no_newline : (a b : List ℕ) → a ++ (10 ∷ []) ≡ b ++ (10 ∷ []) → a ≡ b
no_newline a b e =
    let n : length a ≡ length b = omega (arith, length-append a (10 ∷ []), length-append b (10 ∷ []), ap length e) in
    sym (take_at a (10 ∷ []) (length a) refl) ∙ ap (take (length a)) e ∙ take_at b (10 ∷ []) (length a) (sym n)

module _ {line : List ℕ} where
  kept_body : {w : ℕ} → KeptAs line w → line ≡ body_of w
  kept_body {w} k = no_newline line (body_of w) (k.whole ∙ line_is w)

  pub kept_fields : {w : ℕ} → KeptAs line w → fields_of line ≡ hex8 w ∷ content_text w ∷ answer_of w ∷ []
  kept_fields {w} k = ap fields_of (kept_body k) ∙ body_fields w

  -- ---- at most one fate

  kept_once : {v w : ℕ} → KeptAs line v → KeptAs line w → v ≡ w
  kept_once {v} {w} k l =
      let p = kept_fields k in
      let q = kept_fields l in
      let e : hex8 v ≡ hex8 w = cc in
      hex_injective v w k.below l.below e

  kept_not : {v w : ℕ} → KeptAs line v → RestoredAs line w → ⊥
  kept_not {v} k r =
      let p = kept_fields k in
      let q = r.fields in
      let e : hex8 v ≡ r.first = cc in
      r.other (v, k.below, e)

  restored_once : {v w : ℕ} → RestoredAs line v → RestoredAs line w → v ≡ w
  restored_once {v} {w} r s =
      let p = r.fields in
      let q = s.fields in
      let e : r.second ≡ s.second = cc in
      text_injective v w s.second (subst (LineOf v) e r.text) s.text

pub fate_once : (line : List ℕ) (f g : Fate) → FateOf line f → FateOf line g → f ≡ g
fate_once line (Kept v) (Kept w) a b = ap Kept (kept_once {line = line} a b)
fate_once line (Kept v) (Restored w) a b = absurd (kept_not {line = line} a b)
fate_once line (Kept v) Dropped a b = absurd ((b v).0 a)
fate_once line (Restored v) (Kept w) a b = absurd (kept_not {line = line} b a)
fate_once line (Restored v) (Restored w) a b = ap Restored (restored_once {line = line} a b)
fate_once line (Restored v) Dropped a b = absurd ((b v).1 a)
fate_once line Dropped (Kept w) a b = absurd ((a w).0 b)
fate_once line Dropped (Restored w) a b = absurd ((a w).1 b)
fate_once line Dropped Dropped a b = refl

pub fates_once : {lines : List (List ℕ)} {fs gs : List Fate} → Fates lines fs → Fates lines gs → fs ≡ gs
fates_once none none = refl
fates_once (next {line = line} {fate = f} a r) (next {fate = g} b s) =
    let e = fate_once line f g a b in
    let h = fates_once r s in
    λ i. e i ∷ h i

-- ---- at least one

module _ (line : List ℕ) where
  -- a line that has not three fields
  pub count_dropped : ((a t b : List ℕ) → ¬ (fields_of line ≡ a ∷ t ∷ b ∷ [])) → FateOf line Dropped
  count_dropped n w = ((λ k. n (hex8 w) (content_text w) (answer_of w) (kept_fields k)), (λ r. n r.first r.second r.third r.fields))

  -- eight digits, and not the line of their word
  pub word_dropped : (a : List ℕ) (rest : List (List ℕ)) → fields_of line ≡ a ∷ rest → (w : ℕ) → w < 2 ^ 32 → hex8 w ≡ a → ¬ (line ++ (10 ∷ []) ≡ line_text w)
      → FateOf line Dropped
  word_dropped a rest f w h e n v = (not_kept, not_restored)
    where
      not_kept : ¬ KeptAs line v
      not_kept k =
          let p = kept_fields k in
          let q : hex8 v ≡ hex8 w = cc in
          n (k.whole ∙ ap line_text (hex_injective v w k.below h q))

      not_restored : ¬ RestoredAs line v
      not_restored r =
          let p = r.fields in
          let q : hex8 w ≡ r.first = cc in
          r.other (w, h, q)

  -- other than eight digits, and no text
  pub text_dropped : (a t b : List ℕ) → fields_of line ≡ a ∷ t ∷ b ∷ [] → ¬ Digits a → ((w : ℕ) → ¬ LineOf w t) → FateOf line Dropped
  text_dropped a t b f n m v = (not_kept, not_restored)
    where
      not_kept : ¬ KeptAs line v
      not_kept k =
          let p = kept_fields k in
          let q : hex8 v ≡ a = cc in
          n (v, k.below, q)

      not_restored : ¬ RestoredAs line v
      not_restored r =
          let p = r.fields in
          let q : r.second ≡ t = cc in
          m v (subst (LineOf v) q r.text)

  some_kept : (a : List ℕ) (rest : List (List ℕ)) → fields_of line ≡ a ∷ rest → Digits a → (f : Fate) × FateOf line f
  some_kept a rest e (w, h, d) = by (List-discrete ℕ_discrete (line ++ (10 ∷ [])) (line_text w))
    where
      by : Dec (line ++ (10 ∷ []) ≡ line_text w) → (f : Fate) × FateOf line f
      by (yes q) = (Kept w, record { below = h; whole = q })
      by (no n) = (Dropped, word_dropped a rest e w h d n)

  some_restored : (a t b : List ℕ) → fields_of line ≡ a ∷ t ∷ b ∷ [] → ¬ Digits a → (r : Reading) × ReadOf t r → (f : Fate) × FateOf line f
  some_restored a t b e n (r, inl (d, l)) = (Restored r.word, record { first = a; second = t; third = b; fields = e; other = n; text = l })
  some_restored a t b e n (r, inr (d, z, m)) = (Dropped, text_dropped a t b e n m)

  some_three : (a t b : List ℕ) → fields_of line ≡ a ∷ t ∷ b ∷ [] → Dec (Digits a) → (f : Fate) × FateOf line f
  some_three a t b e (yes d) = some_kept a (t ∷ b ∷ []) e d
  some_three a t b e (no n) = some_restored a t b e n (read_some t)

  some_by : (fs : List (List ℕ)) → fields_of line ≡ fs → (f : Fate) × FateOf line f
  some_by [] e = (Dropped, count_dropped (λ x y z q. let o : ◌≡◌ {A = ℕ} 0 1 = cc in omega (arith, o)))
  some_by (a ∷ []) e = (Dropped, count_dropped (λ x y z q. let o : ◌≡◌ {A = ℕ} 0 1 = cc in omega (arith, o)))
  some_by (a ∷ t ∷ []) e = (Dropped, count_dropped (λ x y z q. let o : ◌≡◌ {A = ℕ} 0 1 = cc in omega (arith, o)))
  some_by (a ∷ t ∷ b ∷ []) e = some_three a t b e (digits_known a)
  some_by (a ∷ t ∷ b ∷ c ∷ r) e = (Dropped, count_dropped (λ x y z q. let o : ◌≡◌ {A = ℕ} 0 1 = cc in omega (arith, o)))

  pub fate_some : (f : Fate) × FateOf line f
  fate_some = some_by (fields_of line) refl

pub fates_some : (lines : List (List ℕ)) → (fs : List Fate) × Fates lines fs
fates_some [] = ([], none)
fates_some (l ∷ ls) =
    let (f, a) = fate_some l in
    let (fs, r) = fates_some ls in
    (f ∷ fs, next a r)
