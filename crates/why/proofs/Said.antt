-- What the tool says, in 02's words. Assumes nothing.
use Rattle.std.proofs.Common.{◌≡◌, ℕ, suc, ◌-◌, ◌*◌, ◌≤◌, Bool, true, false, eqb, ltb, ◌↔◌, List, [], ◌∷◌, length, sym, refl, ap, ◌∙◌, arith, ltb-false, le-ltb, eq-eqb, ne_eqb}
use lib.Seq.{sets}
use Rattle.bits.specs.Choice.{pick}
use Rattle.bits.proofs.Choices.{pick_by}
use Rattle.instruction.specs.declared.answer.Answer.{Answer}
use Rattle.instruction.specs.declared.answer.Answer.TheVariants.{Done, BadWindow, OutOfWindow, NoRoom, NoSuchInstruction, BadTrace, AfterEnd}
use Rattle.instruction.specs.Answers.{answer_number}
use Rattle.plan.specs.declared.window.Window.{Window}
use Rattle.plan.specs.Window.{bad_window}
use Rattle.plan.specs.Admission.{outside}
use Rattle.plan.specs.Refusals.{answer_in, Given}
use Rattle.plan.proofs.Refusals.{Passed, Each, none_holds, given}
use Rattle.machine.specs.Machine.{Machine}
use Rattle.machine.specs.Step.{step_of}
use Rattle.machine.specs.Origins.{Place, of_register, of_memory, taint_of}
use Rattle.execution.specs.Walk.{Log}
use Rattle.execution.specs.Ends.{alone}
use Rattle.execution.specs.Run.{machine_run}
use Rattle.why.specs.declared.Question.{Question}
use Rattle.why.specs.Trail.{Past, taints_at, Link, trail_of}
use Rattle.why.specs.Trace.{wrong_trace}
use Rattle.why.specs.Links.{Explains, ran_past}
use Rattle.why.specs.Reply.{place_of, no_byte, no_register, slot_of, links_of, early_refusals, why_refusals, flat, Said, said_of}
use Rattle.why.proofs.Trails.{Inside, Fine, trail_explains, trail_long, not_marked}
use Rattle.why.proofs.Traces.{good, inside, outside_not}
use Rattle.why.proofs.Runs.{run_right, run_each}

-- ---- what is not refused

-- the tests 1 to 18 are passed
pub record Accepted (w : Window) (len : ℕ) (g : Past) (steps step : ℕ) (q : Question) : Type 0 where
  pub window : bad_window w len (length g.start.bytes) 0 ≡ false
  pub byte : no_byte w len q ≡ false
  pub register : no_register q ≡ false
  pub trace : wrong_trace w len g.words g.log steps ≡ false
  pub begun : ltb steps step ≡ false

pub early_passed : (w : Window) (len : ℕ) (g : Past) (steps step : ℕ) (q : Question) → answer_number (answer_in (early_refusals w len g steps step q)) ≡ 0
    → Accepted w len g steps step q
early_passed w len g steps step q e =
    let some : Each (λ r. ¬ (answer_number r.answer ≡ 0)) (early_refusals w len g steps step q) = ((λ h. omega arith), ((λ h. omega arith), ((λ h. omega arith), ((λ h. omega arith), ((λ h. omega arith), tt))))) in
    let p : Passed (early_refusals w len g steps step q) = none_holds (early_refusals w len g steps step q) some e in
    record { window = p.0; byte = p.1.0; register = p.1.1.0; trace = p.1.1.1.0; begun = p.1.1.1.1.0 }

place_fine : (w : Window) (len : ℕ) (q : Question) → no_byte w len q ≡ false → Fine len (place_of w.origin q)
place_fine w len q b = go (eqb q.kind 1) refl
  where
    go : (z : Bool) → eqb q.kind 1 ≡ z → Fine len (pick z (of_memory (q.number - w.origin)) (of_register (slot_of q) q.byte))
    go true k =
        let o : outside 1 q.number w.origin len ≡ false = rw k at b in
        let t = outside_not 1 q.number w.origin len o in
        omega arith
    go false k = tt

-- ---- 02's words

pub record Promised (g : Past) (step : ℕ) (q : Place) (ls : List Link) : Type 0 where
  -- "'Not marked', with no links, is said exactly if the mark rule over the lent words, addresses and statuses says so"
  pub unmarked : (ls ≡ []) ↔ (taint_of (taints_at g step) q ≡ false)
  -- "each time at an earlier step, until a starting mark"
  pub explained : ¬ (ls ≡ []) → Explains g step q ls
  -- "There are never more links than steps before the one asked about, plus one"
  pub few : length ls ≤ suc step

told_explains : (g : Past) (step : ℕ) (q : Place) (b : Bool) (ls : List Link) → (b ≡ true → Explains g step q ls) → ¬ (pick b ls [] ≡ []) → Explains g step q (pick b ls [])
told_explains g step q true ls f h = f refl
told_explains g step q false ls f h = absurd (h refl)

none_left : (ls : List Link) → length ls ≡ 0 → ls ≡ []
none_left [] e = refl
none_left (l ∷ ls) e = absurd (omega arith)

told_few : (n : ℕ) (b : Bool) (ls : List Link) → length ls ≤ suc n → length (pick b ls []) ≤ suc n
told_few n true ls h = h
told_few n false ls h = omega arith

module _ (w : Window) (len : ℕ) (g : Past) (steps step : ℕ) (q : Question) (full : length g.start.registers ≡ 64) (o : g.origin ≡ w.origin) (a : Accepted w len g steps step q) where
  size : length g.start.bytes ≡ len
  size = (good w len (length g.start.bytes) a.window).taints

  pub asked_inside : Inside g step
  asked_inside i h = inside w len g steps o size a.trace i (omega (arith, ltb-false steps step a.begun))

  pub asked_fine : Fine (length g.start.bytes) (place_of w.origin q)
  asked_fine = rw size (place_fine w len q a.byte)

  -- a question that 1 to 18 don't refuse
  pub promised : Promised g step (place_of w.origin q) (links_of g w.origin step q)
  promised =
      let p = place_of w.origin q in
      record {
        unmarked = not_marked g full step asked_inside p asked_fine;
        explained = told_explains g step p (trail_of g step p).marked (trail_of g step p).links (trail_explains g full step asked_inside p asked_fine);
        few = told_few step (trail_of g step p).marked (trail_of g step p).links (trail_long g step p);
      }

-- ---- for the trace and the statuses that a run leaves, from its own start

module _ (w : Window) (ws : List ℕ) (m : Machine) (l : Log) (step : ℕ) (q : Question) (before : List ℕ) (early : step ≤ (machine_run w ws m l).steps) where
  abbrev Other : ℕ → Type 0
  Other n = ¬ (n ≡ 17) × ¬ (n ≡ 18)

  others : (a b c d : Bool) → Other (answer_number (pick a BadWindow (pick b OutOfWindow (pick c NoSuchInstruction (pick false BadTrace (pick false AfterEnd (pick d NoRoom Done)))))))
  others a b c d =
      let P : Answer → Type 0 = λ x. Other (answer_number x) in
      pick_by P a (λ e. ((λ h. omega arith), (λ h. omega arith)))
      (λ e. pick_by P b (λ e. ((λ h. omega arith), (λ h. omega arith)))
      (λ e. pick_by P c (λ e. ((λ h. omega arith), (λ h. omega arith)))
      (λ e. pick_by P d (λ e. ((λ h. omega arith), (λ h. omega arith))) (λ e. ((λ h. omega arith), (λ h. omega arith))))))

  -- no question about its steps is refused with 17 or 18
  pub run_asked : Other (said_of w (length m.memory) (ran_past w ws m l) (machine_run w ws m l).steps step q before).answer
  unfolding said_of
  run_asked = rw (run_right w ws m l, le-ltb (machine_run w ws m l).steps step early)
      (others (bad_window w (length m.memory) (length m.taints.bytes) 0) (no_byte w (length m.memory) q) (no_register q) (ltb (length before) (length (links_of (ran_past w ws m l) w.origin step q) * 3)))

-- ---- the answer, the count and the list

module _ (w : Window) (len : ℕ) (g : Past) (steps step : ℕ) (q : Question) (before : List ℕ) where
  abbrev what : Said
  what = said_of w len g steps step q before

  -- every refusal exactly if its test holds and none before it: 1, 7, 11, 17, 18, 10
  pub answer_given : (n : ℕ) → ¬ (n ≡ 0) → (what.answer ≡ n) ↔ Given n (why_refusals w len g steps step q (length before))
  unfolding said_of
  answer_given n z = given n z (why_refusals w len g steps step q (length before))

  -- "output unchanged"
  pub refused_unchanged : ¬ (what.answer ≡ 0) → (what.links ≡ before) × (what.count ≡ 0)
  unfolding said_of
  refused_unchanged h =
      let z = ne_eqb (answer_number (answer_in (why_refusals w len g steps step q (length before)))) 0 h in
      (rw z, rw z)

  -- the links from the list's start, and the rest stays
  pub answered : what.answer ≡ 0 → (what.links ≡ sets before 0 (flat w.origin (links_of g w.origin step q))) × (what.count ≡ length (links_of g w.origin step q))
  unfolding said_of
  answered h =
      let z = eq-eqb (answer_number (answer_in (why_refusals w len g steps step q (length before)))) 0 h in
      (rw z, rw z)

  -- a question that is answered with 0 passes every test
  pub accepted : what.answer ≡ 0 → Accepted w len g steps step q
  unfolding said_of
  accepted h =
      let es = why_refusals w len g steps step q (length before) in
      let some : Each (λ r. ¬ (answer_number r.answer ≡ 0)) es = ((λ h. omega arith), ((λ h. omega arith), ((λ h. omega arith), ((λ h. omega arith), ((λ h. omega arith), ((λ h. omega arith), tt)))))) in
      let p : Passed es = none_holds es some h in
      record { window = p.0; byte = p.1.0; register = p.1.1.0; trace = p.1.1.1.0; begun = p.1.1.1.1.0 }

  -- never more links than steps before the one asked about, plus one
  pub said_few : what.count ≤ suc step
  unfolding said_of
  said_few =
      let t = trail_of g step (place_of w.origin q) in
      pick_by (λ (n : ℕ). n ≤ suc step) (eqb (answer_number (answer_in (why_refusals w len g steps step q (length before)))) 0) (λ e. told_few step t.marked t.links (trail_long g step (place_of w.origin q))) (λ e. omega arith)

  module _ (full : length g.start.registers ≡ 64) (o : g.origin ≡ w.origin) (h : what.answer ≡ 0) where
    told_promised : Promised g step (place_of w.origin q) (links_of g w.origin step q)
    told_promised = promised w len g steps step q full o (accepted h)

    -- no links exactly if the rule says so
    pub said_unmarked : (what.count ≡ 0) ↔ (taint_of (taints_at g step) (place_of w.origin q) ≡ false)
    said_unmarked =
        let ls = links_of g w.origin step q in
        let e : what.count ≡ length ls = (answered h).1 in
        ((λ z. told_promised.unmarked.0 (none_left ls (sym e ∙ z))), (λ z. e ∙ ap length (told_promised.unmarked.1 z)))

    -- and links that explain it otherwise
    pub said_explained : ¬ (what.count ≡ 0) → Explains g step (place_of w.origin q) (links_of g w.origin step q)
    said_explained n = told_promised.explained (λ z. n ((answered h).1 ∙ ap length z))

-- of a run: what is told is the machine's own mark just before the step asked about
pub run_told : (w : Window) (ws : List ℕ) (m : Machine) (l : Log) (step : ℕ) (q : Question) (before : List ℕ) → step ≤ (machine_run w ws m l).steps → length m.taints.registers ≡ 64
    → let s = said_of w (length m.memory) (ran_past w ws m l) (machine_run w ws m l).steps step q before in
    s.answer ≡ 0 → (s.count ≡ 0) ↔ (taint_of (alone (step_of w) ws m step).machine.taints (place_of w.origin q) ≡ false)
run_told w ws m l step q before early full h =
    rw (run_each w ws m l step early) (said_unmarked w (length m.memory) (ran_past w ws m l) (machine_run w ws m l).steps step q before full refl h)
