-- The reply of an import is the lowest line's first fault (`import_lowest`), a refused import leaves memory and taints
-- (`import_refused`), and a done one leaves at each address what the last byte with it says, untainted, and all else
-- (`import_said`, `import_kept`). Assumes nothing.
use Prim.Native.Nat.{ℕ, zero, suc, ◌+◌, ◌-◌, ◌<◌}
use mathlib.Core.Path.{◌≡◌, refl, sym, ap, ◌∙◌}
use mathlib.Core.Bool.{Bool, true, false}
use mathlib.Core.List.{List, [], ◌∷◌}
use mathlib.Core.Logic.{◌⊎◌, inl, inr, ◌↔◌}
use native.Mathlib.Nat.{add-zero}
use native.Mathlib.Omega.{arith}
use borrow.Author.Tests.{eqb-true, eqb-false, ltb-true, ltb-false}
use lib.Dec.{eqb, ltb}
use lib.ListN.{length, get_or, set}
use lib.Seq.{get_or-set_same, get_or-set_other}
use Rattle.bits.specs.Choice.{pick}
use Rattle.instruction.specs.declared.answer.Answer.{Answer}
use Rattle.instruction.specs.declared.answer.Answer.TheVariants.{Done, BadWindow}
use Rattle.plan.specs.declared.window.Window.{Window}
use Rattle.plan.specs.Window.{bad_window}
use Rattle.plan.specs.Refusals.{first_of, answer_in}
use Rattle.plan.proofs.Refusals.{by_answer, first_by}
use Rattle.image.specs.declared.Reply.{Reply}
use Rattle.image.specs.Lines.{lines_of}
use Rattle.image.specs.Records.{type_in, is_end, upper_after, places_of}
use Rattle.image.specs.Import.{reply, faults_in, faults_of, checked, reply_of, put, puts, clears, is_done, import_of}
use Rattle.image.specs.Faults.{fault_of, fault_at, Lowest, OneEnd}
use Rattle.image.specs.Last.{named, LastIs}
use Rattle.image.proofs.Faults.{fault_malformed}
use Rattle.image.proofs.Loops.{put_length, puts_length, clears_length}

-- ---- the answer

-- no line has a fault
abbrev pub Clean : ℕ → ℕ → Bool → ℕ → List (List ℕ) → Type 0
Clean origin len ended upper ls = (k : ℕ) → fault_at origin len ended upper ls k ≡ 0

-- a reply of lines of which the first has number n
pub record Names (origin len : ℕ) (ended : Bool) (upper : ℕ) (ls : List (List ℕ)) (n : ℕ) (r : Reply) : Type 0 where
  pub k : ℕ
  pub line : r.line ≡ n + k
  pub refused : ¬ (r.answer ≡ 0)
  pub lowest : Lowest origin len ended upper ls k r.answer

abbrev Verdict : ℕ → ℕ → Bool → ℕ → List (List ℕ) → ℕ → Reply → Type 0
Verdict origin len ended upper ls n r = (Clean origin len ended upper ls × (r ≡ reply Done 0)) ⊎ Names origin len ended upper ls n r

module _ (origin len : ℕ) where
  none_left : (n : ℕ) (ended : Bool) (upper : ℕ) → Verdict origin len ended upper [] n (checked origin len n ended upper [])
  none_left n true upper = inl (clean, refl)
    where
      clean : (k : ℕ) → fault_at origin len true upper [] k ≡ 0
      clean zero = refl
      clean (suc k) = refl
  none_left n false upper =
      inr (record { k = 0; line = sym (add-zero n); refused = λ e. omega (arith, e); lowest = record { fault = refl; before = λ j h. absurd (omega arith) } })

  answered : {A : Type 0} (refuse : Answer → A) (done : A) (ended : Bool) (upper : ℕ) (l : List ℕ)
      → first_of (λ answer address. refuse answer) done (faults_of origin len ended upper l)
      ≡ pick (eqb (fault_of origin len ended upper l) 0) done (refuse (answer_in (faults_of origin len ended upper l)))
  unfolding faults_in
  answered refuse done ended upper l =
      by_answer (λ answer address. refuse answer) done 0 (faults_of origin len ended upper l)
      ((refl, (λ e. absurd (omega (arith, e)))), ((refl, (λ e. absurd (omega (arith, e)))), ((refl, (λ e. absurd (omega (arith, e)))), ((refl, (λ e. absurd (omega (arith, e)))), tt))))

  module _ (n : ℕ) (ended : Bool) (upper : ℕ) (l : List ℕ) (ls : List (List ℕ)) where
    abbrev Next : Reply → Type 0
    Next r = Verdict origin len (is_end l) (upper_after upper l) ls (suc n) r

    clean_more : fault_of origin len ended upper l ≡ 0 → Clean origin len (is_end l) (upper_after upper l) ls → Clean origin len ended upper (l ∷ ls)
    clean_more z h zero = z
    clean_more z h (suc k) = h k

    before_more : (m : ℕ) → fault_of origin len ended upper l ≡ 0
        → ((j : ℕ) → j < m → fault_at origin len (is_end l) (upper_after upper l) ls j ≡ 0)
        → (j : ℕ) → j < suc m → fault_at origin len ended upper (l ∷ ls) j ≡ 0
    before_more m z h zero i = z
    before_more m z h (suc j) i = h j (omega arith)

    further : {r : Reply} → fault_of origin len ended upper l ≡ 0 → Next r → Verdict origin len ended upper (l ∷ ls) n r
    further z (inl (h, e)) = inl (clean_more z h, e)
    further z (inr f) =
        inr (record {
          k = suc f.k;
          line = f.line ∙ (omega arith);
          refused = f.refused;
          lowest = record { fault = f.lowest.fault; before = before_more f.k z f.lowest.before };
        })

    here_at : (b : Bool) → eqb (fault_of origin len ended upper l) 0 ≡ b → {r : Reply} → Next r
        → Verdict origin len ended upper (l ∷ ls) n (pick b r (reply (answer_in (faults_of origin len ended upper l)) n))
    here_at true e v = further (eqb-true _ _ e) v
    here_at false e v =
        inr (record { k = 0; line = sym (add-zero n); refused = eqb-false _ _ e; lowest = record { fault = refl; before = λ j h. absurd (omega arith) } })

  pub checked_lowest : (n : ℕ) (ended : Bool) (upper : ℕ) (ls : List (List ℕ)) → Verdict origin len ended upper ls n (checked origin len n ended upper ls)
  checked_lowest n ended upper [] = none_left n ended upper
  checked_lowest n ended upper (l ∷ ls) =
      rw (answered (λ answer. reply answer n) (checked origin len (suc n) (is_end l) (upper_after upper l) ls) ended upper l)
      (here_at n ended upper l ls (eqb (fault_of origin len ended upper l) 0) refl (checked_lowest (suc n) (is_end l) (upper_after upper l) ls))

-- where no line has a fault there is one end, the last line
module _ (origin len : ℕ) where
  alone : (l : List ℕ) (ls : List (List ℕ)) (upper : ℕ) → type_in l ≡ 1 → Clean origin len true upper ls → OneEnd (l ∷ ls)
  alone l [] upper e h = record { before = []; last = l; is = refl; type = e; others = tt }
  alone l (m ∷ ms) upper e h = absurd (omega (arith, h 0, (fault_malformed origin len true upper m).1 (inl refl)))

  end_at : (l : List ℕ) (ls : List (List ℕ)) (upper : ℕ) (b : Bool) → eqb (type_in l) 1 ≡ b → Clean origin len b upper ls → (Clean origin len false upper ls → OneEnd ls) → OneEnd (l ∷ ls)
  end_at l ls upper true e h further = alone l ls upper (eqb-true _ _ e) h
  end_at l ls upper false e h further =
      let f = further h in
      record { before = l ∷ f.before; last = f.last; is = ap (λ (x : List (List ℕ)). l ∷ x) f.is; type = f.type; others = (eqb-false _ _ e, f.others) }

  pub clean_end : (ls : List (List ℕ)) (upper : ℕ) → Clean origin len false upper ls → OneEnd ls
  clean_end [] upper h = absurd (omega (arith, h 0))
  clean_end (l ∷ ls) upper h = end_at l ls (upper_after upper l) (is_end l) refl (λ k. h (suc k)) (clean_end ls (upper_after upper l))

-- what holds of the numbers of faults, and of 0, holds of an answer; with a bad window also of 1
module _ (P : ℕ → Type 0) (done : P 0) (outside : P 7) (malformed : P 13) (sum : P 14) (type : P 15) where
  checked_number : (origin len n : ℕ) (ended : Bool) (upper : ℕ) (ls : List (List ℕ)) → P (checked origin len n ended upper ls).answer
  unfolding faults_in
  checked_number origin len n true upper [] = done
  checked_number origin len n false upper [] = malformed
  checked_number origin len n ended upper (l ∷ ls) =
      first_by (λ r. P r.answer) (λ answer address. reply answer n) (checked origin len (suc n) (is_end l) (upper_after upper l) ls) (faults_of origin len ended upper l)
      (malformed, (sum, (type, (outside, tt))))
      (λ p. checked_number origin len (suc n) (is_end l) (upper_after upper l) ls)

  number_at : (b : Bool) (r : Reply) → (b ≡ true → P 1) → P r.answer → P (pick b (reply BadWindow 0) r).answer
  number_at true r window h = window refl
  number_at false r window h = h

  pub import_number : (w : Window) (text memory taint : List ℕ) → (bad_window w (length memory) (length taint) 0 ≡ true → P 1) → P (import_of w text memory taint).reply.answer
  unfolding import_of reply_of
  import_number w text memory taint window =
      number_at (bad_window w (length memory) (length taint) 0) (checked w.origin (length memory) 1 false 0 (lines_of text)) window
      (checked_number w.origin (length memory) 1 false 0 (lines_of text))

-- the lowest line is one
lowest_same : {origin len : ℕ} {ended : Bool} {upper : ℕ} {ls : List (List ℕ)} {i j m n : ℕ} → Lowest origin len ended upper ls i m → Lowest origin len ended upper ls j n → ¬ (m ≡ 0) → ¬ (n ≡ 0)
    → (b c : Bool) → ltb i j ≡ b → ltb j i ≡ c → i ≡ j
lowest_same {i = i} {j} p q y z true c e f = absurd (y (sym p.fault ∙ q.before i (ltb-true _ _ e)))
lowest_same {i = i} {j} p q y z false true e f = absurd (z (sym q.fault ∙ p.before j (ltb-true _ _ f)))
lowest_same {i = i} {j} p q y z false false e f = omega (arith, ltb-false i j e, ltb-false j i f)

module _ (origin len : ℕ) (ls : List (List ℕ)) (k n : ℕ) (some : ¬ (n ≡ 0)) where
  abbrev Said : Reply → Type 0
  Said r = (r.answer ≡ n) × (r.line ≡ suc k)

  lowest_of : {r : Reply} → Verdict origin len false 0 ls 1 r → Said r → Lowest origin len false 0 ls k n
  lowest_of (inl (h, e)) (a, l) = absurd (some (sym a ∙ ap (λ (x : Reply). x.answer) e))
  lowest_of (inr f) (a, l) =
      let same : f.k ≡ k = omega (arith, f.line, l) in
      rw (same, a) at f.lowest

  of_lowest : {r : Reply} → Verdict origin len false 0 ls 1 r → Lowest origin len false 0 ls k n → Said r
  of_lowest (inl (h, e)) p = absurd (some (sym p.fault ∙ h k))
  of_lowest {r} (inr f) p =
      let same : f.k ≡ k = lowest_same f.lowest p f.refused some (ltb f.k k) (ltb k f.k) refl refl in
      (sym f.lowest.fault ∙ ap (fault_at origin len false 0 ls) same ∙ p.fault, omega (arith, f.line, same))

clean_of : {origin len : ℕ} {ls : List (List ℕ)} {r : Reply} → Verdict origin len false 0 ls 1 r → r.answer ≡ 0 → Clean origin len false 0 ls × (r.line ≡ 0)
clean_of (inl (h, e)) z = (h, ap (λ (x : Reply). x.line) e)
clean_of (inr f) z = absurd (f.refused z)

of_clean : {origin len : ℕ} {ls : List (List ℕ)} {r : Reply} → Verdict origin len false 0 ls 1 r → Clean origin len false 0 ls → r.answer ≡ 0
of_clean (inl (h, e)) c = ap (λ (x : Reply). x.answer) e
of_clean (inr f) c = absurd (f.refused (sym f.lowest.fault ∙ c f.k))

module _ (w : Window) (text memory taint : List ℕ) where
  abbrev given : Reply
  given = (import_of w text memory taint).reply

  reply_at : (b : Bool) → bad_window w (length memory) (length taint) 0 ≡ b → given ≡ pick b (reply BadWindow 0) (checked w.origin (length memory) 1 false 0 (lines_of text))
  unfolding import_of reply_of
  reply_at b e = rw e

  -- 1, where no line is named
  pub import_window : bad_window w (length memory) (length taint) 0 ≡ true → given ≡ reply BadWindow 0
  import_window e = reply_at true e

  pub import_bad : given.answer ≡ 1 → bad_window w (length memory) (length taint) 0 ≡ true
  import_bad =
      import_number (λ n. n ≡ 1 → bad_window w (length memory) (length taint) 0 ≡ true)
      (λ e. absurd (omega (arith, e))) (λ e. absurd (omega (arith, e))) (λ e. absurd (omega (arith, e))) (λ e. absurd (omega (arith, e))) (λ e. absurd (omega (arith, e)))
      w text memory taint (λ e f. e)

  module _ (good : bad_window w (length memory) (length taint) 0 ≡ false) where
    import_verdict : Verdict w.origin (length memory) false 0 (lines_of text) 1 given
    import_verdict = rw (reply_at false good) (checked_lowest w.origin (length memory) 1 false 0 (lines_of text))

    -- any other: the first fault of the lowest line that has one
    pub import_lowest : (k n : ℕ) → ¬ (n ≡ 0) → ((given.answer ≡ n) × (given.line ≡ suc k)) ↔ Lowest w.origin (length memory) false 0 (lines_of text) k n
    import_lowest k n z =
        (lowest_of w.origin (length memory) (lines_of text) k n z import_verdict, of_lowest w.origin (length memory) (lines_of text) k n z import_verdict)

    -- 0, where none has
    pub import_clean : (given.answer ≡ 0) ↔ Clean w.origin (length memory) false 0 (lines_of text)
    import_clean = ((λ z. (clean_of import_verdict z).0), of_clean import_verdict)

    pub import_no_line : given.answer ≡ 0 → given.line ≡ 0
    import_no_line z = (clean_of import_verdict z).1

  pub import_refused : is_done (import_of w text memory taint).reply ≡ false → ((import_of w text memory taint).memory ≡ memory) × ((import_of w text memory taint).taint ≡ taint)
  unfolding import_of
  import_refused h = (rw h, rw h)

  length_at : (b : Bool) (xs ys : List ℕ) → length xs ≡ length ys → length (pick b xs ys) ≡ length ys
  length_at true xs ys e = e
  length_at false xs ys e = refl

  pub import_lengths : (length (import_of w text memory taint).memory ≡ length memory) × (length (import_of w text memory taint).taint ≡ length taint)
  unfolding import_of
  import_lengths =
      let ps = places_of 0 (lines_of text) in
      let done = is_done (reply_of w (length memory) (length taint) text) in (
        length_at done (puts w.origin ps memory) memory (puts_length w.origin ps memory),
        length_at done (clears w.origin ps taint) taint (clears_length w.origin ps taint),
      )

-- ---- one byte

put_at_at : (origin a b i : ℕ) (xs : List ℕ) → i < length xs → (s t : Bool) → ltb a origin ≡ s → eqb a (origin + i) ≡ t → get_or (pick s xs (set xs (a - origin) b)) i 0 ≡ pick t b (get_or xs i 0)
put_at_at origin a b i xs h true true e f = absurd (omega (arith, ltb-true a origin e, eqb-true a (origin + i) f))
put_at_at origin a b i xs h true false e f = refl
put_at_at origin a b i xs h false true e f =
    let p : a - origin ≡ i = omega (arith, ltb-false a origin e, eqb-true a (origin + i) f) in
    rw p (get_or-set_same xs i b 0 h)
put_at_at origin a b i xs h false false e f =
    get_or-set_other xs (a - origin) i b 0 (λ q. eqb-false a (origin + i) f (omega (arith, ltb-false a origin e, q)))

put_at : (origin a b i : ℕ) (xs : List ℕ) → i < length xs → get_or (put origin a b xs) i 0 ≡ pick (eqb a (origin + i)) b (get_or xs i 0)
unfolding put
put_at origin a b i xs h = put_at_at origin a b i xs h (ltb a origin) (eqb a (origin + i)) refl refl

abbrev last_at : ℕ → List (ℕ × ℕ) → ℕ → ℕ
last_at a [] old = old
last_at a (p ∷ ps) old = last_at a ps (pick (eqb p.0 a) p.1 old)

puts_at : (origin i : ℕ) (ps : List (ℕ × ℕ)) (xs : List ℕ) → i < length xs → get_or (puts origin ps xs) i 0 ≡ last_at (origin + i) ps (get_or xs i 0)
puts_at origin i [] xs h = refl
puts_at origin i (p ∷ ps) xs h =
    puts_at origin i ps (put origin p.0 p.1 xs) (omega (arith, put_length origin p.0 p.1 xs))
    ∙ ap (last_at (origin + i) ps) (put_at origin p.0 p.1 i xs h)

wiped : (t u : Bool) (old : ℕ) → pick u 0 (pick t 0 old) ≡ pick (pick t true u) 0 old
wiped true true old = refl
wiped true false old = refl
wiped false true old = refl
wiped false false old = refl

clears_at : (origin i : ℕ) (ps : List (ℕ × ℕ)) (xs : List ℕ) → i < length xs → get_or (clears origin ps xs) i 0 ≡ pick (named (origin + i) ps) 0 (get_or xs i 0)
clears_at origin i [] xs h = refl
clears_at origin i (p ∷ ps) xs h =
    clears_at origin i ps (put origin p.0 0 xs) (omega (arith, put_length origin p.0 0 xs))
    ∙ ap (pick (named (origin + i) ps) 0) (put_at origin p.0 0 i xs h)
    ∙ wiped (eqb p.0 (origin + i)) (named (origin + i) ps) (get_or xs i 0)

last_kept_at : (a : ℕ) (p : ℕ × ℕ) (ps : List (ℕ × ℕ)) (old : ℕ) → ((o : ℕ) → named a ps ≡ false → last_at a ps o ≡ o) → (b : Bool) → eqb p.0 a ≡ b → pick b true (named a ps) ≡ false → last_at a ps (pick b p.1 old) ≡ old
last_kept_at a p ps old ih true e h = absurd (let z : ◌≡◌ {A = ℕ} 0 1 = cc in omega arith)
last_kept_at a p ps old ih false e h = ih old h

last_kept : (a : ℕ) (ps : List (ℕ × ℕ)) (old : ℕ) → named a ps ≡ false → last_at a ps old ≡ old
last_kept a [] old h = refl
last_kept a (p ∷ ps) old h = last_kept_at a p ps old (λ o g. last_kept a ps o g) (eqb p.0 a) refl h

last_more : (a : ℕ) (p : ℕ × ℕ) (ps : List (ℕ × ℕ)) {b : ℕ} → LastIs a ps b → LastIs a (p ∷ ps) b
last_more a p ps l = record { before = p ∷ l.before; after = l.after; there = ap (λ (q : List (ℕ × ℕ)). p ∷ q) l.there; last = l.last }

last_said_at : (a : ℕ) (p : ℕ × ℕ) (ps : List (ℕ × ℕ)) (old : ℕ) → ((o : ℕ) → named a ps ≡ true → LastIs a ps (last_at a ps o)) → (b n : Bool) → eqb p.0 a ≡ b → named a ps ≡ n → pick b true n ≡ true
    → LastIs a (p ∷ ps) (last_at a ps (pick b p.1 old))
last_said_at a p ps old ih true true e g h = last_more a p ps (ih p.1 g)
last_said_at a p ps old ih true false e g h =
    rw (last_kept a ps p.1 g) (record { before = []; after = ps; there = ap (λ (x : ℕ). (x, p.1) ∷ ps) (eqb-true _ _ e); last = g })
last_said_at a p ps old ih false true e g h = last_more a p ps (ih old g)
last_said_at a p ps old ih false false e g h = absurd (let z : ◌≡◌ {A = ℕ} 0 1 = cc in omega arith)

last_said : (a : ℕ) (ps : List (ℕ × ℕ)) (old : ℕ) → named a ps ≡ true → LastIs a ps (last_at a ps old)
last_said a [] old h = absurd (let z : ◌≡◌ {A = ℕ} 0 1 = cc in omega arith)
last_said a (p ∷ ps) old h = last_said_at a p ps old (λ o g. last_said a ps o g) (eqb p.0 a) (named a ps) refl refl h

-- a done import, over addresses
module _ (w : Window) (text memory taint : List ℕ) (done : is_done (import_of w text memory taint).reply ≡ true) where
  module _ (i : ℕ) (inside : i < length memory) where
    byte_is : get_or (import_of w text memory taint).memory i 0 ≡ last_at (w.origin + i) (places_of 0 (lines_of text)) (get_or memory i 0)
    unfolding import_of
    byte_is = rw done (puts_at w.origin i (places_of 0 (lines_of text)) memory inside)

    pub import_said : named (w.origin + i) (places_of 0 (lines_of text)) ≡ true → LastIs (w.origin + i) (places_of 0 (lines_of text)) (get_or (import_of w text memory taint).memory i 0)
    import_said h = rw byte_is (last_said (w.origin + i) (places_of 0 (lines_of text)) (get_or memory i 0) h)

    pub import_kept : named (w.origin + i) (places_of 0 (lines_of text)) ≡ false → get_or (import_of w text memory taint).memory i 0 ≡ get_or memory i 0
    import_kept h = byte_is ∙ last_kept (w.origin + i) (places_of 0 (lines_of text)) (get_or memory i 0) h

  pub import_marks : (i : ℕ) → i < length taint → get_or (import_of w text memory taint).taint i 0 ≡ pick (named (w.origin + i) (places_of 0 (lines_of text))) 0 (get_or taint i 0)
  unfolding import_of
  import_marks i h = rw done (clears_at w.origin i (places_of 0 (lines_of text)) taint h)
