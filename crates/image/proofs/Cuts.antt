-- The first line of a text, and the line that code reads at its start: they have their shape together, and say the same. Assumes nothing.
use Prim.Native.Nat.{ℕ, zero, suc, ◌+◌, ◌*◌, ◌≤◌, ◌<◌}
use mathlib.Core.Path.{◌≡◌, refl, sym, ap, ◌∙◌}
use mathlib.Core.Bool.{Bool, true, false}
use mathlib.Core.List.{List, [], ◌∷◌}
use native.Mathlib.Omega.{arith}
use borrow.Author.Tests.{eqb-true, eqb-false, eq-eqb}
use lib.Dec.{eqb, ltb}
use lib.ListN.{length, get_or, take, drop, length-take, get_or-eq_default}
use lib.Seq.{get_or-take, length-take-le}
use Rattle.bits.specs.Choice.{pick}
use Rattle.image.specs.Lines.{lines_of, digit_of, digits_in, byte_in, bytes_in, count_in, shaped}
use Rattle.image.specs.route.Rest.{begins, line_end}

pub held : (b x : Bool) → pick b x false ≡ true → (b ≡ true) × (x ≡ true)
held true x h = (refl, h)
held false x h = (h, cc)

-- ---- the first line

abbrev First : List ℕ → Type 0
First [] = Unit {0}
First (c ∷ cs) = lines_of (c ∷ cs) ≡ take (line_end (c ∷ cs)) (c ∷ cs) ∷ lines_of (drop (line_end (c ∷ cs)) (c ∷ cs))

first_at : (c : ℕ) (cs : List ℕ) → First cs → (b : Bool) → eqb c 10 ≡ b → First (c ∷ cs)
first_at c cs h true e = rw e
first_at c [] h false e = rw e
first_at c (d ∷ ds) h false e = rw (e, h)

pub first : (t : List ℕ) → First t
first [] = tt
first (c ∷ cs) = first_at c cs (first cs) (eqb c 10) refl

end_at : (t : List ℕ) (k : ℕ) → ((i : ℕ) → i < k → eqb (get_or t i 0) 10 ≡ false) → get_or t k 0 ≡ 10 → line_end t ≡ suc k
end_at [] zero f e = absurd (omega (arith, e))
end_at [] (suc k) f e = absurd (omega (arith, e))
end_at (c ∷ cs) zero f e = rw e
end_at (c ∷ cs) (suc k) f e = rw (f 0 (omega arith)) (ap suc (end_at cs k (λ i h. f (suc i) (omega arith)) e))

not_newline_at : (c : ℕ) → ltb (digit_of c) 16 ≡ true → (b : Bool) → eqb c 10 ≡ b → b ≡ false
unfolding digit_of
not_newline_at c h true e = sym (rw (eqb-true c 10 e) at h)
not_newline_at c h false e = refl

not_newline : (c : ℕ) → ltb (digit_of c) 16 ≡ true → eqb c 10 ≡ false
not_newline c h = not_newline_at c h (eqb c 10) refl

digits_clear_at : (t : List ℕ) (at n i : ℕ) → ltb (digit_of (get_or t at 0)) 16 ≡ true → (suc at ≤ i → eqb (get_or t i 0) 10 ≡ false) → at ≤ i
    → (b : Bool) → eqb at i ≡ b → eqb (get_or t i 0) 10 ≡ false
digits_clear_at t at n i h further l true e = rw (← eqb-true at i e) (not_newline (get_or t at 0) h)
digits_clear_at t at n i h further l false e = further (omega (arith, eqb-false at i e))

digits_clear : (t : List ℕ) (at n : ℕ) → digits_in t at n ≡ true → (i : ℕ) → at ≤ i → i < at + n → eqb (get_or t i 0) 10 ≡ false
digits_clear t at zero h i l m = absurd (omega arith)
digits_clear t at (suc n) h i l m =
    let two = held (ltb (digit_of (get_or t at 0)) 16) (digits_in t (suc at) n) h in
    digits_clear_at t at n i two.0 (λ k. digits_clear t (suc at) n two.1 i k (omega arith)) l (eqb at i) refl

pub record Begun (t : List ℕ) : Type 0 where
  pub colon : get_or t 0 0 ≡ 58
  pub digits : digits_in t 1 (2 * (5 + count_in t)) ≡ true
  pub newline : get_or t (2 * count_in t + 11) 0 ≡ 10

pub begun : (t : List ℕ) → begins t ≡ true → Begun t
unfolding begins
begun t h =
    let one = held (eqb (get_or t 0 0) 58) _ h in
    let two = held (digits_in t 1 (2 * (5 + count_in t))) _ one.1 in
    record { colon = eqb-true _ _ one.0; digits = two.0; newline = eqb-true _ _ two.1 }

clear_at : (t : List ℕ) → Begun t → (i : ℕ) → i < 2 * count_in t + 11 → (b : Bool) → eqb i 0 ≡ b → eqb (get_or t i 0) 10 ≡ false
clear_at t r i l true e = rw (eqb-true i 0 e, r.colon)
clear_at t r i l false e = digits_clear t 1 (2 * (5 + count_in t)) r.digits i (omega (arith, eqb-false i 0 e)) (omega arith)

pub begun_end : (t : List ℕ) → Begun t → line_end t ≡ 2 * count_in t + 12
begun_end t r =
    end_at t (2 * count_in t + 11) (λ i l. clear_at t r i l (eqb i 0) refl) r.newline
    ∙ (omega arith)

within_at : (t : List ℕ) (k : ℕ) → get_or t k 0 ≡ 10 → (b : Bool) → ltb k (length t) ≡ b → k < length t
within_at t k e true h = borrow.Author.Tests.ltb-true _ _ h
within_at t k e false h =
    let out : length t ≤ k = borrow.Author.Tests.ltb-false _ _ h in
    absurd (omega (arith, sym e ∙ get_or-eq_default t 0 out))

-- a line that has its shape stands whole in the text
pub begun_fits : (t : List ℕ) → Begun t → 2 * count_in t + 12 ≤ length t
begun_fits t r = omega (arith, within_at t (2 * count_in t + 11) r.newline (ltb (2 * count_in t + 11) (length t)) refl)

-- ---- two texts that agree below a place

module _ (l m : List ℕ) (k : ℕ) (same : (i : ℕ) → i < k → get_or l i 0 ≡ get_or m i 0) where
  pub digits_same : (at n : ℕ) → at + n ≤ k → digits_in l at n ≡ digits_in m at n
  digits_same at zero h = refl
  digits_same at (suc n) h = rw (same at (omega arith), digits_same (suc at) n (omega arith))

  pub byte_same : (i : ℕ) → 2 * i + 3 ≤ k → byte_in l i ≡ byte_in m i
  unfolding byte_in
  byte_same i h = rw (same (2 * i + 1) (omega arith), same (2 * i + 2) (omega arith))

  pub bytes_same : (i n : ℕ) → 2 * (i + n) + 1 ≤ k → bytes_in l i n ≡ bytes_in m i n
  bytes_same i zero h = refl
  bytes_same i (suc n) h = rw (byte_same i (omega arith), bytes_same (suc i) n (omega arith))

  pub count_same : 3 ≤ k → count_in l ≡ count_in m
  count_same h = byte_same 0 (omega arith)

  pub begins_same : 2 * count_in m + 12 ≤ k → begins l ≡ begins m
  unfolding begins
  begins_same h =
      let c : count_in l ≡ count_in m = count_same (omega arith) in
      rw (same 0 (omega arith), c, digits_same 1 (2 * (5 + count_in m)) (omega arith), same (2 * count_in m + 11) (omega arith))

nested : (a b c d : Bool) → pick a (pick b (pick c d false) false) false ≡ pick (pick a (pick b c false) false) d false
nested true true c d = refl
nested true false c d = refl
nested false b c d = refl

-- a line has its shape exactly if it begins so and is no longer
shaped_begins : (l : List ℕ) → shaped l ≡ pick (begins l) (eqb (length l) (2 * count_in l + 12)) false
unfolding shaped begins
shaped_begins l = nested (eqb (get_or l 0 0) 58) (digits_in l 1 (2 * (5 + count_in l))) (eqb (get_or l (2 * count_in l + 11) 0) 10) (eqb (length l) (2 * count_in l + 12))

shaped_yes : (t : List ℕ) → begins t ≡ true → shaped (take (line_end t) t) ≡ true
shaped_yes t h =
    let r = begun t h in
    let e = begun_end t r in
    let n = length-take-le (2 * count_in t + 12) t (begun_fits t r) in
    let agree : (i : ℕ) → i < 2 * count_in t + 12 → get_or (take (2 * count_in t + 12) t) i 0 ≡ get_or t i 0 = λ i l. get_or-take (2 * count_in t + 12) t i 0 l in
    let c = count_same (take (2 * count_in t + 12) t) t (2 * count_in t + 12) agree (omega arith) in
    let b = begins_same (take (2 * count_in t + 12) t) t (2 * count_in t + 12) agree (omega arith) in
    shaped_begins (take (line_end t) t) ∙ rw (e, b, h, c, n) (eq-eqb (2 * count_in t + 12) (2 * count_in t + 12) refl)

shaped_no_at : (t l : List ℕ) (e : ℕ) → l ≡ take e t → begins t ≡ false → (b : Bool) → shaped l ≡ b → b ≡ false
shaped_no_at t l e q h true s =
    let two = held (begins l) (eqb (length l) (2 * count_in l + 12)) (sym (shaped_begins l) ∙ s) in
    let n : length l ≡ 2 * count_in l + 12 = eqb-true _ _ two.1 in
    let m : length (take e t) ≡ 2 * count_in l + 12 = sym (ap length q) ∙ n in
    let agree : (i : ℕ) → i < 2 * count_in l + 12 → get_or t i 0 ≡ get_or l i 0 = λ i k. sym (ap (λ (x : List ℕ). get_or x i 0) q ∙ get_or-take e t i 0 (omega (arith, m, length-take e t))) in
    let b = begins_same t l (2 * count_in l + 12) agree (omega arith) in
    sym two.0 ∙ sym b ∙ h
shaped_no_at t l e q h false s = refl

shaped_at : (t : List ℕ) (b : Bool) → begins t ≡ b → shaped (take (line_end t) t) ≡ b
shaped_at t true h = shaped_yes t h
shaped_at t false h = shaped_no_at t (take (line_end t) t) (line_end t) refl h (shaped (take (line_end t) t)) refl

pub shaped_is : (t : List ℕ) → shaped (take (line_end t) t) ≡ begins t
shaped_is t = shaped_at t (begins t) refl
