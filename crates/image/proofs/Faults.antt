-- A line's first fault in 02's words: each test says what `Faults` says, and they decide in their order. Assumes nothing.
use Prim.Native.Nat.{ℕ, zero, suc, ◌+◌, ◌*◌, ◌%◌, ◌^◌, ◌≤◌, ◌<◌}
use mathlib.Core.Path.{◌≡◌, refl, sym, ap, ◌∙◌}
use mathlib.Core.Bool.{Bool, true, false, not}
use mathlib.Core.List.{List, [], ◌∷◌, ◌++◌}
use mathlib.Core.Logic.{◌⊎◌, inl, inr, ◌↔◌}
use native.Mathlib.Nat.{add-zero}
use native.Mathlib.Omega.{arith}
use borrow.Author.Tests.{eqb-true, eqb-false, eq-eqb, ltb-true, ltb-false, leb-true, leb-false, lt-ltb}
use lib.Dec.{eqb, ltb, leb}
use lib.ListN.{length, get_or, take, drop, length-append, take-append-drop, length-take}
use Rattle.bits.specs.Choice.{pick}
use Rattle.instruction.specs.declared.answer.Answer.TheVariants.{Done, OutOfWindow, Malformed, BadChecksum, BadRecordType}
use Rattle.instruction.specs.Answers.{answer_number}
use Rattle.plan.specs.declared.window.Window.{Window}
use Rattle.plan.specs.Window.{bad_window}
use Rattle.image.specs.Lines.{digit_of, digits_in, bytes_in, count_in, shaped}
use Rattle.image.specs.Records.{type_in, offset_in, sum_in, bad_count, bad_type, placed, places_in}
use Rattle.image.specs.Import.{beyond, any_beyond, faults_in}
use Rattle.image.specs.Faults.{AllDigits, Shape, WrongCount, IsMalformed, WrongSum, WrongType, Outside, fault_of}
use Rattle.image.proofs.Cuts.{held}

-- a test says whether something holds
abbrev pub Tells : Bool → Type 0 → Type 0
Tells b P = (b ≡ true → P) × (b ≡ false → ¬ P)

-- ---- shape

digits_behind : (c : ℕ) (cs : List ℕ) (at n : ℕ) → digits_in (c ∷ cs) (suc at) n ≡ digits_in cs at n
digits_behind c cs at zero = refl
digits_behind c cs at (suc n) = ap (λ (b : Bool). pick (ltb (digit_of (get_or cs at 0)) 16) b false) (digits_behind c cs (suc at) n)

all_taken : (cs : List ℕ) (n : ℕ) → n ≤ length cs → digits_in cs 0 n ≡ true → AllDigits (take n cs)
all_taken cs zero l h = tt
all_taken [] (suc n) l h = absurd (omega arith)
all_taken (c ∷ cs) (suc n) l h =
    let two = held (ltb (digit_of c) 16) (digits_in (c ∷ cs) 1 n) h in
    (ltb-true _ _ two.0, all_taken cs n (omega arith) (sym (digits_behind c cs 0 n) ∙ two.1))

all_digits : (ds r : List ℕ) → AllDigits ds → digits_in (ds ++ r) 0 (length ds) ≡ true
all_digits [] r h = refl
all_digits (d ∷ ds) r h = rw (lt-ltb (digit_of d) 16 h.0) (digits_behind d (ds ++ r) 0 (length ds) ∙ all_digits ds r h.1)

last_of : (cs : List ℕ) (n : ℕ) → length cs ≡ suc n → drop n cs ≡ get_or cs n 0 ∷ []
last_of [] n h = absurd (omega arith)
last_of (c ∷ []) zero h = refl
last_of (c ∷ d ∷ ds) zero h = absurd (omega arith)
last_of (c ∷ cs) (suc n) h = last_of cs n (omega arith)

behind_all : (ds : List ℕ) (d : ℕ) → get_or (ds ++ (d ∷ [])) (length ds) 0 ≡ d
behind_all [] d = refl
behind_all (c ∷ ds) d = behind_all ds d

shape_at : (c : ℕ) (cs : List ℕ) (n : ℕ) → c ≡ 58 → length cs ≡ suc n → get_or cs n 0 ≡ 10 → c ∷ cs ≡ 58 ∷ (take n cs ++ (10 ∷ []))
shape_at c cs n colon long newline =
    ap (λ (x : ℕ). x ∷ cs) colon ∙ (rw (last_of cs n long, newline) at (ap (λ (x : List ℕ). 58 ∷ x) (sym (take-append-drop n cs))))

shape_of : (l : List ℕ) → shaped l ≡ true → Shape l
unfolding shaped
shape_of [] h = absurd (let z : ◌≡◌ {A = ℕ} 0 1 = cc in omega arith)
shape_of (c ∷ cs) h =
    let k : ℕ = count_in (c ∷ cs) in
    let one = held (eqb c 58) _ h in
    let two = held (digits_in (c ∷ cs) 1 (2 * (5 + k))) _ one.1 in
    let three = held (eqb (get_or (c ∷ cs) (2 * k + 11) 0) 10) (eqb (length (c ∷ cs)) (2 * k + 12)) two.1 in
    let long : length cs ≡ suc (2 * (5 + k)) = omega (arith, eqb-true (length (c ∷ cs)) (2 * k + 12) three.1) in
    let place : 2 * k + 11 ≡ suc (2 * (5 + k)) = omega arith in
    let newline : get_or cs (2 * (5 + k)) 0 ≡ 10 = ap (λ (i : ℕ). get_or (c ∷ cs) i 0) (sym place) ∙ eqb-true _ _ three.0 in
    record {
      digits = take (2 * (5 + k)) cs;
      is = shape_at c cs (2 * (5 + k)) (eqb-true _ _ one.0) long newline;
      all = all_taken cs (2 * (5 + k)) (omega arith) (sym (digits_behind c cs 0 (2 * (5 + k))) ∙ two.0);
      pairs = omega (arith, length-take (2 * (5 + k)) cs, long);
    }

shaped_of_at : (ds : List ℕ) (k : ℕ) → AllDigits ds → length ds ≡ 2 * (5 + k)
    → (digits_in (58 ∷ (ds ++ (10 ∷ []))) 1 (2 * (5 + k)) ≡ true) × (get_or (58 ∷ (ds ++ (10 ∷ []))) (2 * k + 11) 0 ≡ 10) × (length (58 ∷ (ds ++ (10 ∷ []))) ≡ 2 * k + 12)
shaped_of_at ds k all pairs =
    let place : 2 * k + 11 ≡ suc (length ds) = omega (arith, pairs) in (
      digits_behind 58 (ds ++ (10 ∷ [])) 0 (2 * (5 + k)) ∙ (rw pairs at (all_digits ds (10 ∷ []) all)),
      ap (λ (i : ℕ). get_or (58 ∷ (ds ++ (10 ∷ []))) i 0) place ∙ behind_all ds 10,
      omega (arith, pairs, length-append ds (10 ∷ [])),
    )

shaped_of : (ds : List ℕ) → AllDigits ds → length ds ≡ 2 * (5 + count_in (58 ∷ (ds ++ (10 ∷ [])))) → shaped (58 ∷ (ds ++ (10 ∷ []))) ≡ true
unfolding shaped
shaped_of ds all pairs =
    let k : ℕ = count_in (58 ∷ (ds ++ (10 ∷ []))) in
    let so = shaped_of_at ds k all pairs in
    rw (so.0, so.1, so.2) (eq-eqb (2 * k + 12) (2 * k + 12) refl)

-- a test that is false can't be true
unlike : {b : Bool} → b ≡ false → b ≡ true → ⊥
unlike h e = let z : ◌≡◌ {A = ℕ} 0 1 = cc in omega arith

shape_tells : (l : List ℕ) → Tells (shaped l) (Shape l)
shape_tells l =
    (shape_of l, (λ h s. unlike h (ap shaped s.is ∙ shaped_of s.digits s.all (s.pairs ∙ ap (λ (x : List ℕ). 2 * (5 + count_in x)) s.is))))

-- ---- the other tests

impossible : {A : Type 0} → ◌≡◌ {A = Bool} true false → A
impossible h = absurd (let z : ◌≡◌ {A = ℕ} 0 1 = cc in omega arith)

count_at : (t c : ℕ) (a b x y : Bool) → eqb t 4 ≡ a → eqb c 2 ≡ b → eqb t 1 ≡ x → eqb c 0 ≡ y
    → Tells (pick a (not b) (pick x (not y) false)) (((t ≡ 4) × ¬ (c ≡ 2)) ⊎ ((t ≡ 1) × ¬ (c ≡ 0)))
count_at t c true true x y p q r z = ((λ h. impossible (sym h)), no)
  where
    no : {b : Bool} → b ≡ false → (((t ≡ 4) × ¬ (c ≡ 2)) ⊎ ((t ≡ 1) × ¬ (c ≡ 0))) → ⊥
    no h (inl (f, g)) = g (eqb-true c 2 q)
    no h (inr (f, g)) = omega (arith, eqb-true t 4 p, f)
count_at t c true false x y p q r z = ((λ h. inl (eqb-true t 4 p, eqb-false c 2 q)), (λ h. impossible h))
count_at t c false b true true p q r z = ((λ h. impossible (sym h)), no)
  where
    no : {b : Bool} → b ≡ false → (((t ≡ 4) × ¬ (c ≡ 2)) ⊎ ((t ≡ 1) × ¬ (c ≡ 0))) → ⊥
    no h (inl (f, g)) = eqb-false t 4 p f
    no h (inr (f, g)) = g (eqb-true c 0 z)
count_at t c false b true false p q r z = ((λ h. inr (eqb-true t 1 r, eqb-false c 0 z)), (λ h. impossible h))
count_at t c false b false y p q r z = ((λ h. impossible (sym h)), no)
  where
    no : {b : Bool} → b ≡ false → (((t ≡ 4) × ¬ (c ≡ 2)) ⊎ ((t ≡ 1) × ¬ (c ≡ 0))) → ⊥
    no h (inl (f, g)) = eqb-false t 4 p f
    no h (inr (f, g)) = eqb-false t 1 r f

count_tells : (l : List ℕ) → Tells (bad_count l) (WrongCount l)
unfolding bad_count
count_tells l = count_at (type_in l) (count_in l) (eqb (type_in l) 4) (eqb (count_in l) 2) (eqb (type_in l) 1) (eqb (count_in l) 0) refl refl refl refl

malformed_at : (ended shape count : Bool) {S C : Type 0} → Tells shape S → Tells count C → Tells (pick ended true (pick shape count true)) ((ended ≡ true) ⊎ ((¬ S) ⊎ C))
malformed_at true shape count s c = ((λ h. inl refl), (λ h. impossible h))
malformed_at false false count s c = ((λ h. inr (inl (s.1 refl))), (λ h. impossible h))
malformed_at false true true s c = ((λ h. inr (inr (c.0 refl))), (λ h. impossible h))
malformed_at false true false {S} {C} s c = ((λ h. impossible (sym h)), no)
  where
    no : {b : Bool} → b ≡ false → ((◌≡◌ {A = Bool} false true) ⊎ ((¬ S) ⊎ C)) → ⊥
    no h (inl e) = impossible (sym e)
    no h (inr (inl e)) = e (s.0 refl)
    no h (inr (inr e)) = c.1 refl e

malformed_tells : (ended : Bool) (l : List ℕ) → Tells (pick ended true (pick (shaped l) (bad_count l) true)) (IsMalformed ended l)
malformed_tells ended l = malformed_at ended (shaped l) (bad_count l) (shape_tells l) (count_tells l)

not_tells : (b : Bool) {P : Type 0} → Tells b P → Tells (not b) (¬ P)
not_tells true p = ((λ h. impossible (sym h)), (λ h n. n (p.0 refl)))
not_tells false p = ((λ h. p.1 refl), (λ h. impossible h))

sum_tells : (l : List ℕ) → Tells (not (eqb (sum_in l) 0)) (WrongSum l)
unfolding sum_in
sum_tells l = not_tells (eqb (sum_in l) 0) (eqb-true (sum_in l) 0, eqb-false (sum_in l) 0)

type_at : (t : ℕ) (a b c : Bool) → eqb t 0 ≡ a → eqb t 1 ≡ b → eqb t 4 ≡ c → Tells (pick a false (pick b false (not c))) (¬ (t ≡ 0) × ¬ (t ≡ 1) × ¬ (t ≡ 4))
type_at t true b c p q r = ((λ h. impossible (sym h)), (λ h n. n.0 (eqb-true t 0 p)))
type_at t false true c p q r = ((λ h. impossible (sym h)), (λ h n. n.1 (eqb-true t 1 q)))
type_at t false false true p q r = ((λ h. impossible (sym h)), (λ h n. n.2 (eqb-true t 4 r)))
type_at t false false false p q r = ((λ h. (eqb-false t 0 p, eqb-false t 1 q, eqb-false t 4 r)), (λ h. impossible h))

type_tells : (l : List ℕ) → Tells (bad_type (type_in l)) (WrongType l)
unfolding bad_type
type_tells l = type_at (type_in l) (eqb (type_in l) 0) (eqb (type_in l) 1) (eqb (type_in l) 4) refl refl refl

-- ---- the window

-- one of some addresses is outside: the lowest or the highest is
abbrev pub Ends : ℕ → ℕ → ℕ → ℕ → Type 0
Ends origin len low high = (low < origin) ⊎ (origin + len ≤ high)

ends_at : (origin len low high : ℕ) (p q : Bool) → ltb low origin ≡ p → leb (origin + len) high ≡ q → Tells (pick p true q) (Ends origin len low high)
ends_at origin len low high true q e f = ((λ h. inl (ltb-true low origin e)), (λ h. impossible h))
ends_at origin len low high false true e f = ((λ h. inr (leb-true (origin + len) high f)), (λ h. impossible h))
ends_at origin len low high false false e f = ((λ h. impossible (sym h)), no)
  where
    no : {b : Bool} → b ≡ false → ((low < origin) ⊎ (origin + len ≤ high)) → ⊥
    no h (inl g) = omega (arith, g, ltb-false low origin e)
    no h (inr g) = omega (arith, g, leb-false (origin + len) high f)

pub ends_tell : (origin len low high : ℕ) → Tells (pick (ltb low origin) true (leb (origin + len) high)) (Ends origin len low high)
ends_tell origin len low high = ends_at origin len low high (ltb low origin) (leb (origin + len) high) refl refl

beyond_tells : (origin len a : ℕ) → Tells (beyond origin len a) (Ends origin len a a)
unfolding beyond
beyond_tells origin len a = ends_tell origin len a a

-- one of some bytes from an address on is
pub record Leaves (origin len a n : ℕ) : Type 0 where
  pub index : ℕ
  pub counted : index < n
  pub address : Ends origin len ((a + index) % 2 ^ 32) ((a + index) % 2 ^ 32)

leaves_first : {origin len a n : ℕ} → Ends origin len (a % 2 ^ 32) (a % 2 ^ 32) → Leaves origin len a (suc n)
leaves_first {origin} {len} {a} {n} h = record { index = 0; counted = omega arith; address = rw (add-zero a) h }

leaves_later : {origin len a n : ℕ} → Leaves origin len (suc a) n → Leaves origin len a (suc n)
leaves_later {origin} {len} {a} {n} l =
    let e : a + suc l.index ≡ suc a + l.index = omega arith in
    record { index = suc l.index; counted = omega (arith, l.counted); address = rw e l.address }

leaves_at : (origin len a n i : ℕ) → i < suc n → Ends origin len ((a + i) % 2 ^ 32) ((a + i) % 2 ^ 32) → ¬ Ends origin len (a % 2 ^ 32) (a % 2 ^ 32)
    → Leaves origin len (suc a) n
leaves_at origin len a n zero c h inside = absurd (inside (rw (add-zero a) at h))
leaves_at origin len a n (suc i) c h inside =
    let e : a + suc i ≡ suc a + i = omega arith in
    record { index = i; counted = omega arith; address = rw e at h }

placed_at : {origin len a n : ℕ} (t u : Bool) → Tells t (Ends origin len (a % 2 ^ 32) (a % 2 ^ 32)) → Tells u (Leaves origin len (suc a) n) → Tells (pick t true u) (Leaves origin len a (suc n))
placed_at true u p q = ((λ h. leaves_first (p.0 refl)), (λ h. impossible h))
placed_at {origin} {len} {a} {n} false u p q =
    ((λ h. leaves_later (q.0 h)), (λ h l. q.1 h (leaves_at origin len a n l.index l.counted l.address (p.1 refl))))

pub placed_tells : (origin len a : ℕ) (bs : List ℕ) → Tells (any_beyond origin len (placed a bs)) (Leaves origin len a (length bs))
placed_tells origin len a [] = ((λ h. impossible (sym h)), (λ h l. omega (arith, l.counted)))
placed_tells origin len a (b ∷ bs) =
    placed_at (beyond origin len (a % 2 ^ 32)) (any_beyond origin len (placed (suc a) bs)) (beyond_tells origin len (a % 2 ^ 32)) (placed_tells origin len (suc a) bs)

pub bytes_length : (l : List ℕ) (i n : ℕ) → length (bytes_in l i n) ≡ n
bytes_length l i zero = refl
bytes_length l i (suc n) = ap suc (bytes_length l (suc i) n)

outside_at : (origin len upper : ℕ) (l : List ℕ) (t : Bool) → eqb (type_in l) 0 ≡ t
    → Tells (any_beyond origin len (pick t (placed (upper * 65536 + offset_in l) (bytes_in l 4 (count_in l))) [])) (Outside origin len upper l)
outside_at origin len upper l true e =
    let bs = bytes_in l 4 (count_in l) in
    let tells = placed_tells origin len (upper * 65536 + offset_in l) bs in
    let long = bytes_length l 4 (count_in l) in (
      (λ h. let x = tells.0 h in record { index = x.index; type = eqb-true (type_in l) 0 e; counted = omega (arith, x.counted, long); address = x.address }),
      (λ h o. tells.1 h (record { index = o.index; counted = omega (arith, o.counted, long); address = o.address })),
    )
outside_at origin len upper l false e = ((λ h. impossible (sym h)), (λ h o. eqb-false (type_in l) 0 e o.type))

outside_tells : (origin len upper : ℕ) (l : List ℕ) → Tells (any_beyond origin len (places_in upper l)) (Outside origin len upper l)
unfolding places_in
outside_tells origin len upper l = outside_at origin len upper l (eqb (type_in l) 0) refl

-- answer 1, of a window that no program counter belongs to
window_at : (w : Window) (len taints : ℕ) (a b c : Bool) → ltb (2 ^ 64) (w.origin + len) ≡ a → ltb len w.readonly ≡ b → eqb taints len ≡ c
    → Tells (pick a true (pick b true (pick (not c) true false))) ((2 ^ 64 < w.origin + len) ⊎ ((len < w.readonly) ⊎ (¬ (taints ≡ len))))
window_at w len taints true b c p q r = ((λ h. inl (ltb-true _ _ p)), (λ h. impossible h))
window_at w len taints false true c p q r = ((λ h. inr (inl (ltb-true _ _ q))), (λ h. impossible h))
window_at w len taints false false false p q r = ((λ h. inr (inr (eqb-false _ _ r))), (λ h. impossible h))
window_at w len taints false false true p q r = ((λ h. impossible (sym h)), good)
  where
    good : {b : Bool} → b ≡ false → ((2 ^ 64 < w.origin + len) ⊎ ((len < w.readonly) ⊎ (¬ (taints ≡ len)))) → ⊥
    good h (inl e) = omega (arith, e, ltb-false (2 ^ 64) (w.origin + len) p)
    good h (inr (inl e)) = omega (arith, e, ltb-false len w.readonly q)
    good h (inr (inr e)) = e (eqb-true _ _ r)

pub window_tells : (w : Window) (len taints : ℕ) → Tells (bad_window w len taints 0) ((2 ^ 64 < w.origin + len) ⊎ ((len < w.readonly) ⊎ (¬ (taints ≡ len))))
unfolding bad_window
window_tells w len taints = window_at w len taints (ltb (2 ^ 64) (w.origin + len)) (ltb len w.readonly) (eqb taints len) refl refl refl

-- ---- the order

abbrev first : Bool → Bool → Bool → Bool → ℕ
first a b c d = answer_number (pick a Malformed (pick b BadChecksum (pick c BadRecordType (pick d OutOfWindow Done))))

first_malformed : {M : Type 0} (a b c d : Bool) → Tells a M → (first a b c d ≡ 13) ↔ M
first_malformed true b c d m = ((λ h. m.0 refl), (λ h. refl))
first_malformed false true c d m = ((λ h. absurd (omega (arith, h))), (λ h. absurd (m.1 refl h)))
first_malformed false false true d m = ((λ h. absurd (omega (arith, h))), (λ h. absurd (m.1 refl h)))
first_malformed false false false true m = ((λ h. absurd (omega (arith, h))), (λ h. absurd (m.1 refl h)))
first_malformed false false false false m = ((λ h. absurd (omega (arith, h))), (λ h. absurd (m.1 refl h)))

first_sum : {M S : Type 0} (a b c d : Bool) → Tells a M → Tells b S → (first a b c d ≡ 14) ↔ ((¬ M) × S)
first_sum true b c d m s = ((λ h. absurd (omega (arith, h))), (λ h. absurd (h.0 (m.0 refl))))
first_sum false true c d m s = ((λ h. (m.1 refl, s.0 refl)), (λ h. refl))
first_sum false false true d m s = ((λ h. absurd (omega (arith, h))), (λ h. absurd (s.1 refl h.1)))
first_sum false false false true m s = ((λ h. absurd (omega (arith, h))), (λ h. absurd (s.1 refl h.1)))
first_sum false false false false m s = ((λ h. absurd (omega (arith, h))), (λ h. absurd (s.1 refl h.1)))

first_type : {M S T : Type 0} (a b c d : Bool) → Tells a M → Tells b S → Tells c T → (first a b c d ≡ 15) ↔ ((¬ M) × (¬ S) × T)
first_type true b c d m s t = ((λ h. absurd (omega (arith, h))), (λ h. absurd (h.0 (m.0 refl))))
first_type false true c d m s t = ((λ h. absurd (omega (arith, h))), (λ h. absurd (h.1 (s.0 refl))))
first_type false false true d m s t = ((λ h. (m.1 refl, s.1 refl, t.0 refl)), (λ h. refl))
first_type false false false true m s t = ((λ h. absurd (omega (arith, h))), (λ h. absurd (t.1 refl h.2)))
first_type false false false false m s t = ((λ h. absurd (omega (arith, h))), (λ h. absurd (t.1 refl h.2)))

first_outside : {M S T O : Type 0} (a b c d : Bool) → Tells a M → Tells b S → Tells c T → Tells d O → (first a b c d ≡ 7) ↔ ((¬ M) × (¬ S) × (¬ T) × O)
first_outside true b c d m s t o = ((λ h. absurd (omega (arith, h))), (λ h. absurd (h.0 (m.0 refl))))
first_outside false true c d m s t o = ((λ h. absurd (omega (arith, h))), (λ h. absurd (h.1 (s.0 refl))))
first_outside false false true d m s t o = ((λ h. absurd (omega (arith, h))), (λ h. absurd (h.2 (t.0 refl))))
first_outside false false false true m s t o = ((λ h. (m.1 refl, s.1 refl, t.1 refl, o.0 refl)), (λ h. refl))
first_outside false false false false m s t o = ((λ h. absurd (omega (arith, h))), (λ h. absurd (o.1 refl h.3)))

module _ (origin len : ℕ) (ended : Bool) (upper : ℕ) (l : List ℕ) where
  abbrev shape_test : Bool
  shape_test = pick ended true (pick (shaped l) (bad_count l) true)

  abbrev sum_test : Bool
  sum_test = not (eqb (sum_in l) 0)

  abbrev type_test : Bool
  type_test = bad_type (type_in l)

  abbrev window_test : Bool
  window_test = any_beyond origin len (places_in upper l)

  fault_first : fault_of origin len ended upper l ≡ first shape_test sum_test type_test window_test
  unfolding faults_in
  fault_first = refl

  pub fault_malformed : (fault_of origin len ended upper l ≡ 13) ↔ IsMalformed ended l
  fault_malformed = rw fault_first (first_malformed shape_test sum_test type_test window_test (malformed_tells ended l))

  pub fault_sum : (fault_of origin len ended upper l ≡ 14) ↔ ((¬ IsMalformed ended l) × WrongSum l)
  fault_sum = rw fault_first (first_sum shape_test sum_test type_test window_test (malformed_tells ended l) (sum_tells l))

  pub fault_type : (fault_of origin len ended upper l ≡ 15) ↔ ((¬ IsMalformed ended l) × (¬ WrongSum l) × WrongType l)
  fault_type = rw fault_first (first_type shape_test sum_test type_test window_test (malformed_tells ended l) (sum_tells l) (type_tells l))

  pub fault_outside : (fault_of origin len ended upper l ≡ 7) ↔ ((¬ IsMalformed ended l) × (¬ WrongSum l) × (¬ WrongType l) × Outside origin len upper l)
  fault_outside = rw fault_first (first_outside shape_test sum_test type_test window_test (malformed_tells ended l) (sum_tells l) (type_tells l) (outside_tells origin len upper l))
