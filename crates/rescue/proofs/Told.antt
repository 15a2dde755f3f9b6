-- What each return of the functions over a line shows of its fate, over plain values. Assumes nothing.
use Prim.Native.Nat.{ℕ, suc, ◌+◌, ◌^◌, ◌-◌, ◌≤◌, ◌<◌}
use mathlib.Core.Path.{◌≡◌, refl, sym, ap, ◌∙◌}
use mathlib.Core.Bool.{Bool, true, false}
use mathlib.Core.List.{List, [], ◌∷◌, ◌++◌}
use mathlib.Core.Logic.{inl, inr, ◌↔◌}
use native.Mathlib.Omega.{arith}
use native.Mathlib.Numerals.{add-one}
use lib.Dec.{eqb}
use lib.ListN.{length, take, drop, length-drop}
use lib.Seq.{drop-drop, take_all}
use native.Mathlib.Decide.{dec_lt}
use Rattle.bits.specs.Choice.{pick}
use Rattle.std.proofs.Common.{Ok, Err}
use Rattle.instruction.specs.declared.answer.Answer.{Answer}
use Rattle.reader.specs.Reading.{told, ReadOf}
use Rattle.reader.proofs.Answers.{never, nothing_at_0}
use Rattle.listing.specs.Listing.{hex8, line_text}
use Rattle.rescue.specs.Lines.{lead, fields_of}
use Rattle.rescue.specs.Rescue.{Digits, KeptAs, RestoredAs, FateOf}
use Rattle.rescue.specs.declared.Fate.TheVariants.{Dropped}
use Rattle.rescue.specs.route.Search.{until}
use Rattle.rescue.specs.route.Steps.{WordFirst, OtherFirst}
use Rattle.rescue.proofs.Parts.{fields_until, fields_only, until_most}
use Rattle.rescue.proofs.Fates.{count_dropped, word_dropped, text_dropped}

lead_some : (b : ℕ) (ps : List (List ℕ)) → (p : List ℕ) × (qs : List (List ℕ)) × (lead b ps ≡ p ∷ qs)
lead_some b [] = (b ∷ [], [], refl)
lead_some b (p ∷ ps) = (b ∷ p, ps, refl)

pick_some : (z : Bool) (b : ℕ) (bs : List ℕ)
    → (p : List ℕ) × (qs : List (List ℕ)) × (pick z ([] ∷ fields_of bs) (lead b (fields_of bs)) ≡ p ∷ qs)
pick_some true b bs = ([], fields_of bs, refl)
pick_some false b bs = lead_some b (fields_of bs)

-- there is a field
fields_some : (xs : List ℕ) → (p : List ℕ) × (qs : List (List ℕ)) × (fields_of xs ≡ p ∷ qs)
fields_some [] = ([], [], refl)
fields_some (b ∷ bs) = pick_some (eqb b 9) b bs

-- ---- the first field

module _ (X : List ℕ) where
  first_here : until 9 X < length X → fields_of X ≡ take (until 9 X) X ∷ fields_of (drop (until 9 X + 1) X)
  first_here h = rw (add-one (until 9 X)) (fields_until 9 X h)

  first_by : (n : ℕ) → n ≡ until 9 X → Dec (n < length X) → (rest : List (List ℕ)) × (fields_of X ≡ take n X ∷ rest)
  first_by n e (yes h) =
      let k : until 9 X < length X = omega (arith, h, e) in
      (fields_of (drop (until 9 X + 1) X), first_here k ∙ ap (λ (m : ℕ). take m X ∷ fields_of (drop (until 9 X + 1) X)) (sym e))
  first_by n e (no g) =
      let k : length X ≤ until 9 X = omega (arith, g, e) in
      let l : length X ≤ n = omega arith in
      ([], fields_only 9 X k ∙ ap (λ (t : List ℕ). t ∷ []) (sym (take_all n X l)))

  first_field : (n : ℕ) → n ≡ until 9 X → (rest : List (List ℕ)) × (fields_of X ≡ take n X ∷ rest)
  first_field n e = first_by n e (dec_lt n (length X))

  -- a first field of eight digits, and one of others
  pub word_first : (n : ℕ) → n ≡ until 9 X → {w : ℕ} → hex8 w ≡ take n X → WordFirst X w
  word_first n e d =
      let f = first_field n e in
      record { rest = f.0; fields = f.1 ∙ ap (λ (t : List ℕ). t ∷ f.0) (sym d) }

  pub other_first : (n : ℕ) → n ≡ until 9 X → ¬ Digits (take n X) → OtherFirst X n
  other_first n e d = record { ends = e; other = d }

  -- ---- kept, or dropped

  pub keeps : {w : ℕ} → w < 2 ^ 32 → {b : Bool} → (b ≡ true) ↔ (X ++ (10 ∷ []) ≡ line_text w) → b ≡ true → KeptAs X w
  keeps h e t = record { below = h; whole = e.0 t }

  pub keeps_not : {w : ℕ} → w < 2 ^ 32 → WordFirst X w → {b : Bool} → (b ≡ true) ↔ (X ++ (10 ∷ []) ≡ line_text w) → b ≡ false → FateOf X Dropped
  keeps_not {w} h f e t =
      word_dropped X (hex8 w) f.rest f.fields w h refl (λ q. let g = e.1 q in let z : ◌≡◌ {A = ℕ} 0 1 = cc in omega (arith, z))

  -- ---- restored, or dropped

  module _ {n : ℕ} (o : OtherFirst X n) where
    pub no_tab : n ≡ length X → FateOf X Dropped
    no_tab e =
        let k : length X ≤ until 9 X = omega (arith, o.ends) in
        let f = fields_only 9 X k in
        count_dropped X (λ x y z q. let g : ◌≡◌ {A = ℕ} 0 1 = cc in omega (arith, g))

    pub tab_in : ¬ (n ≡ length X) → n < length X
    tab_in h = omega (arith, o.ends, until_most 9 X)

    module _ (h : n < length X) (m : ℕ) (e : m ≡ n + 1 + until 9 (drop (n + 1) X)) where
      one_field : fields_of X ≡ take n X ∷ fields_of (drop (n + 1) X)
      one_field = rw o.ends (first_here (omega (arith, h, o.ends)))

      pub one_tab : m ≡ length X → FateOf X Dropped
      one_tab k =
          let l : length (drop (n + 1) X) ≤ until 9 (drop (n + 1) X) = omega (arith, length-drop (n + 1) X, e, h) in
          let f = one_field in
          let g = fields_only 9 (drop (n + 1) X) l in
          count_dropped X (λ x y z q. let i : ◌≡◌ {A = ℕ} 0 1 = cc in omega (arith, i))

      pub second_in : m ≤ length X → ¬ (m ≡ length X) → m < length X
      second_in a b = omega arith

      module _ (k : m < length X) where
        two_fields : fields_of X ≡ take n X ∷ take (m - (n + 1)) (drop (n + 1) X) ∷ fields_of (drop (m + 1) X)
        two_fields =
            let l : until 9 (drop (n + 1) X) < length (drop (n + 1) X) = omega (arith, length-drop (n + 1) X, e, h) in
            let i : until 9 (drop (n + 1) X) ≡ m - (n + 1) = omega (arith, e) in
            let j : n + 1 + suc (until 9 (drop (n + 1) X)) ≡ m + 1 = omega (arith, e) in
            one_field ∙ ap (λ (t : List (List ℕ)). take n X ∷ t)
            (fields_until 9 (drop (n + 1) X) l ∙ rw (drop-drop (suc (until 9 (drop (n + 1) X))) (n + 1) X, j, i))

        pub three_tabs : {t : ℕ} → t ≡ m + 1 + until 9 (drop (m + 1) X) → t < length X → FateOf X Dropped
        three_tabs q r =
            let l : until 9 (drop (m + 1) X) < length (drop (m + 1) X) = omega (arith, length-drop (m + 1) X) in
            let f = two_fields in
            let g = fields_until 9 (drop (m + 1) X) l in
            let s = fields_some (drop (suc (until 9 (drop (m + 1) X))) (drop (m + 1) X)) in
            let u = s.2 in
            count_dropped X (λ x y z v. let i : ◌≡◌ {A = ℕ} 0 1 = cc in omega (arith, i))

        three_fields : {t : ℕ} → t ≡ m + 1 + until 9 (drop (m + 1) X) → length X ≤ t
            → fields_of X ≡ take n X ∷ take (m - (n + 1)) (drop (n + 1) X) ∷ drop (m + 1) X ∷ []
        three_fields q r =
            let l : length (drop (m + 1) X) ≤ until 9 (drop (m + 1) X) = omega (arith, length-drop (m + 1) X) in
            two_fields ∙ ap (λ (t : List (List ℕ)). take n X ∷ take (m - (n + 1)) (drop (n + 1) X) ∷ t) (fields_only 9 (drop (m + 1) X) l)

        module _ {t : ℕ} (q : t ≡ m + 1 + until 9 (drop (m + 1) X)) (r : length X ≤ t) where
          pub restores : {w : ℕ} → ReadOf (take (m - (n + 1)) (drop (n + 1) X)) (told (Ok w)) → RestoredAs X w
          restores (inl (d, l)) =
              record { first = take n X; second = take (m - (n + 1)) (drop (n + 1) X); third = drop (m + 1) X; fields = three_fields q r; other = o.other; text = l }
          restores (inr (d, w, l)) = absurd (omega (arith, d))

          pub restores_not : (a : Answer) → ReadOf (take (m - (n + 1)) (drop (n + 1) X)) (told (Err a)) → FateOf X Dropped
          restores_not a (inl (d, l)) = absurd (never l.defined nothing_at_0)
          restores_not a (inr (d, w, l)) =
              text_dropped X (take n X) (take (m - (n + 1)) (drop (n + 1) X)) (drop (m + 1) X) (three_fields q r) o.other l
