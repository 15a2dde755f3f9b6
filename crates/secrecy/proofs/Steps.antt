-- A step takes machines whose bytes are related by their taints to such machines, and shows the same of both: for every view that
-- copies keep, and whatever may be reached. Assumes nothing.
use Prim.Native.Nat.{ℕ, ◌+◌, ◌-◌, ◌%◌, ◌^◌, ◌<◌}
use mathlib.Core.Path.{◌≡◌, refl, sym, ap, subst, ◌∙◌}
use mathlib.Core.Bool.{Bool, true, false, ◌||◌}
use mathlib.Core.List.{List, [], ◌∷◌, ◌++◌}
use mathlib.Core.Logic.{inl, inr}
use native.Mathlib.Omega.{arith}
use borrow.Author.Tests.{ne_eqb}
use lib.Dec.{eqb}
use lib.ListN.{length, set, get_or}
use Rattle.bits.specs.Choice.{pick}
use Rattle.instruction.specs.declared.answer.Answer.{Answer}
use Rattle.instruction.specs.declared.answer.Answer.TheVariants.{BadWindow, TaintedAddress, Misaligned}
use Rattle.bits.specs.Extension.{extended_of}
use Rattle.bits.proofs.Choices.{pick_by}
use Rattle.memory.specs.Taints.{tainted}
use Rattle.access.specs.declared.transfer.Transfer.{Transfer}
use Rattle.access.specs.declared.addressing.Addressing.{Addressing}
use Rattle.access.specs.declared.Access.{Access}
use Rattle.access.specs.declared.Access.TheVariants.{Nothing, Moves}
use Rattle.access.specs.Accesses.{word_access}
use Rattle.access.specs.route.Bounds.{Bounded, Within, Moving}
use Rattle.access.proofs.Bounds.{bounded, moving}
use Rattle.plan.specs.declared.window.Window.{Window}
use Rattle.plan.specs.declared.operands.Operands.{Operands}
use Rattle.plan.specs.Operands.{used_of}
use Rattle.plan.specs.Address.{index_of, shifted_of, sum_of}
use Rattle.plan.specs.Refusals.{Refusal, refusal, first_of}
use Rattle.plan.specs.Admission.{total_of}
use Rattle.plan.specs.declared.ranges.Reach.{Reach}
use Rattle.plan.specs.Ranges.{admit_in}
use Rattle.plan.specs.Plans.{misaligned_stack}
use Rattle.plan.proofs.Refusals.{Passed}
use Rattle.machine.specs.Rule.{move_rule}
use Rattle.machine.specs.declared.monitor.Monitor.{Monitor}
use Rattle.machine.specs.Monitor.{matches, status_of, monitor_after, written_back, made_of}
use Rattle.machine.specs.Machine.{Machine, operands_of, effect_of}
use Rattle.machine.specs.Refusals.{bad, class_refusals, access_refusals}
use Rattle.machine.specs.Step.{Step, stopped, touch_of, step_in}
use Rattle.machine.specs.route.Parts.{word_step, access_step}
use Rattle.machine.proofs.Answers.{step_in_lem}
use Rattle.machine.specs.Real.{Real}
use Rattle.machine.proofs.Writing.{load_made}
use Rattle.machine.proofs.Reals.{made_bounded}
use Rattle.secrecy.specs.Shows.{EqualMonitors, Shows}
use Rattle.secrecy.specs.route.Alike.{View, Copied, Word, Table, Anywhere, Alike}
use Rattle.secrecy.proofs.Numbers.{same_taint}
use Rattle.secrecy.proofs.Agreement.{Seen, table_set, constant, same_value, cut_word, table_store, loaded}

-- the same refusal stops both
shows_at : {A : Type 0} (R : A → A → Type 0) (b : Bool) (answer : Answer) (address : ℕ) (x y : Step A) → (b ≡ false → Shows R x y) → Shows R (pick b (stopped answer address) x) (pick b (stopped answer address) y)
shows_at R true answer address x y h = (refl, refl)
shows_at R false answer address x y h = h refl

-- two steps by the same refusals
first_shows : {A : Type 0} (R : A → A → Type 0) (x y : Step A) (es : List Refusal) → (Passed es → Shows R x y) → Shows R (first_of stopped x es) (first_of stopped y es)
first_shows R x y [] h = h tt
first_shows R x y (e ∷ es) h = shows_at R e.holds e.answer e.address _ _ (λ f. first_shows R x y es (λ p. h (f, p)))

-- and by the same before others
first_after : {A : Type 0} (R : A → A → Type 0) (x y : Step A) (es fs gs : List Refusal) → Shows R (first_of stopped x fs) (first_of stopped y gs) → Shows R (first_of stopped x (es ++ fs)) (first_of stopped y (es ++ gs))
first_after R x y [] fs gs h = h
first_after R x y (e ∷ es) fs gs h = shows_at R e.holds e.answer e.address _ _ (λ f. first_after R x y es fs gs h)

-- ---- equal monitors

-- an open monitor lets no store-exclusive pass
open_fails : (r : Monitor) (address size : ℕ) → r.size ≡ 0 → 0 < size → matches r address size ≡ false
unfolding matches
open_fails r address size e l = rw (e, ne_eqb 0 size (omega arith)) (pick_by (λ b. b ≡ false) (eqb r.address address) (λ _. refl) (λ _. refl))

status_same : (t : Transfer) (address : ℕ) (r s : Monitor) → 0 < t.bytes → EqualMonitors r s → status_of t address r ≡ status_of t address s
unfolding status_of
status_same t address r s l (inl e) = rw e
status_same t address r s l (inr h) = rw (open_fails r address t.bytes (omega (arith, h.0)) l, open_fails s address t.bytes (omega (arith, h.0, h.1)) l)

-- ---- an index of which only a part is used

-- the same part gives the same index
index_at : (p q : Bool) (f : ℕ → ℕ) (x y a b : ℕ) → pick (p || q) x a ≡ pick (p || q) y b → pick p x (pick q (f x) a) ≡ pick p y (pick q (f y) b)
index_at true q f x y a b e = e
index_at false true f x y a b e = ap f e
index_at false false f x y a b e = e

index_same : (option a b : ℕ) → used_of option a ≡ used_of option b → index_of option a ≡ index_of option b
unfolding used_of index_of
index_same option a b e = index_at (eqb option 0b010) (eqb option 0b110) (extended_of 4 8) (a % 2 ^ 32) (b % 2 ^ 32) a b e

-- both numbers are the same, and the sum
sum_same : (a : Addressing) (o p : Operands) → o.base ≡ p.base → used_of a.option o.index ≡ used_of a.option p.index → sum_of a o ≡ sum_of a p
unfolding sum_of shifted_of
sum_same a o p e f = rw (index_same a.option o.index p.index f, e)

either : (b c : Bool) → pick b true c ≡ false → (b ≡ false) × (c ≡ false)
either true c e = absurd (let z : ◌≡◌ {A = ℕ} 0 1 = cc in omega arith)
either false c e = (refl, e)

module _ (sees : ℕ → Type 0) (view : View) (copied : Copied view) where
  after_same : (t : Transfer) (address : ℕ) (r s : Monitor) → view.monitor r s → view.monitor (monitor_after t address r) (monitor_after t address s)
  unfolding monitor_after
  after_same t address r s h = set_same t.exclusive _
    where
      set_same : (z : Bool) (set : Monitor) → view.monitor (pick z set r) (pick z set s)
      set_same true set = copied.still set
      set_same false set = h

  used_at : (p : Bool) (u w a b : ℕ) → Word view u w a b → Word view (pick p (u % 2 ^ 32) u) (pick p (w % 2 ^ 32) w) (pick p (a % 2 ^ 32) a) (pick p (b % 2 ^ 32) b)
  used_at true u w a b h = cut_word view copied 4 u w a b h
  used_at false u w a b h = h

  -- the used parts of numbers are related as they are
  used_word : (option u w a b : ℕ) → Word view u w a b → Word view (used_of option u) (used_of option w) (used_of option a) (used_of option b)
  unfolding used_of
  used_word option u w a b h = used_at (eqb option 0b010 || eqb option 0b110) u w a b h

  module _ (m n : Machine) (real-m : Real m) (real-n : Real n) (h : Alike sees view m n) where
    abbrev taint : ℕ → ℕ
    taint slot = get_or m.taints.registers slot 0

    abbrev other : ℕ → ℕ
    other slot = get_or n.taints.registers slot 0

    register : (slot : ℕ) → Word view (taint slot) (other slot) (get_or m.values slot 0) (get_or n.values slot 0)
    register slot = h.registers.each slot tt

    index : (a : Addressing)
        → Word view (used_of a.option (taint a.index)) (used_of a.option (other a.index)) (used_of a.option (get_or m.values a.index 0)) (used_of a.option (get_or n.values a.index 0))
    index a = used_word a.option (taint a.index) (other a.index) (get_or m.values a.index 0) (get_or n.values a.index 0) (register a.index)

    tainted_same : (a : Addressing) → (operands_of a m).tainted ≡ (operands_of a n).tainted
    tainted_same a = rw (same_taint (taint a.base) (other a.base) (λ i. copied.sharp _ _ (register a.base i).0), same_taint (used_of a.option (taint a.index)) (used_of a.option (other a.index)) (λ i. copied.sharp _ _ (index a i).0))

    base_at : (z : Bool) (pc pc' x y : ℕ) → pc ≡ pc' → x ≡ y → pick z pc x ≡ pick z pc' y
    base_at z pc pc' x y e f = rw (e, f)

    base_same : (a : Addressing) → (operands_of a m).tainted ≡ false → (operands_of a m).base ≡ (operands_of a n).base
    base_same a e =
        let q = either (tainted (taint a.base)) (tainted (used_of a.option (taint a.index))) e in
        base_at a.relative m.pc n.pc _ _ h.pc (same_value view copied (taint a.base) (other a.base) _ _ (register a.base) q.0)

    sums_same : (a : Addressing) → (operands_of a m).tainted ≡ false → sum_of a (operands_of a m) ≡ sum_of a (operands_of a n)
    sums_same a e =
        let q = either (tainted (taint a.base)) (tainted (used_of a.option (taint a.index))) e in
        sum_same a (operands_of a m) (operands_of a n) (base_same a e) (same_value view copied (used_of a.option (taint a.index)) (used_of a.option (other a.index)) _ _ (index a) q.1)

    -- both make the same access, and a load is allowed to look at its bytes
    module _ (t : Transfer) (fits : Bounded t) (written at next : ℕ) (after later : Monitor) (still : view.monitor after later) (seen : t.store ≡ false → Seen sees at (total_of t)) where
      abbrev Kept : Type 0
      Kept = Alike sees view (effect_of t written at next after m) (effect_of t written at next later n)

      based : Table Anywhere (Word view) (set m.taints.registers written 0) (set n.taints.registers written 0) (set m.values written next) (set n.values written next)
      based = table_set Anywhere (Word view) m.taints.registers n.taints.registers m.values n.values written 0 0 next next h.registers (constant view copied next)

      effect_at : (z : Bool) → t.store ≡ z → Kept
      unfolding effect_of move_rule
      effect_at true e =
          rw e
          (record {
            pc = rw h.pc;
            monitor = still;
            registers = based;
            bytes =
                table_store view copied sees t.more (at + t.bytes) _ _ _ _ _ _ _ _ (register t.second)
                (table_store view copied sees t.bytes at _ _ _ _ _ _ _ _ (register t.target) h.bytes);
          })
      effect_at false e =
          let k = m.taints.bytes in
          let l = n.taints.bytes in
          let s₁ : Seen sees at t.bytes = (λ i a c. seen e i (omega arith) (omega arith)) in
          let s₂ : Seen sees (at + t.bytes) t.more = (λ i a c. seen e i (omega arith) (omega arith)) in
          rw e
          (record {
            pc = rw h.pc;
            monitor = still;
            registers =
                table_set Anywhere (Word view) _ _ _ _ t.second _ _ _ _
                (table_set Anywhere (Word view) _ _ _ _ t.target _ _ _ _ based
                (loaded view copied sees k l m.memory n.memory h.bytes real-m.bytes real-n.bytes at t.bytes t.extent fits.wide s₁))
                (loaded view copied sees k l m.memory n.memory h.bytes real-m.bytes real-n.bytes (at + t.bytes) t.more t.extent fits.wider s₂);
            bytes = h.bytes;
          })

      pub effect_alike : Kept
      effect_alike = effect_at t.store refl

    module _ (origin : ℕ) (admit : Transfer → ℕ → List Refusal)
        (safe : (t : Transfer) (a : ℕ) → Passed (admit t a) → t.store ≡ false → Seen sees (a - origin) (total_of t)) where
      -- an access by what its operands come to
      abbrev access_by : Machine → Transfer → Addressing → Bool → ℕ → ℕ → Step Machine
      access_by m t a q base sum =
          let address = pick a.post base sum in
          first_of stopped (touch_of origin t a.written address sum m)
          (refusal TaintedAddress q 0 ∷ refusal Misaligned (misaligned_stack a.base base) base ∷ admit t address)

      touch_alike : (t : Transfer) (a : Addressing) → Bounded t → 0 < t.bytes → (q : Bool) (base sum : ℕ) → Shows (Alike sees view) (access_by m t a q base sum) (access_by n t a q base sum)
      unfolding effect_of
      touch_alike t a fits l q base sum =
          let at = pick a.post base sum in
          let status = status_of t at m.monitor in
          first_shows (Alike sees view) _ _ (refusal TaintedAddress q 0 ∷ refusal Misaligned (misaligned_stack a.base base) base ∷ admit t at)
          (λ p.
          rw (← status_same t at m.monitor n.monitor l (copied.agree m.monitor n.monitor h.monitor)) (
            effect_alike (made_of t status) (made_bounded t status fits) a.written (at - origin) (written_back t status sum) (monitor_after t at m.monitor) (monitor_after t at n.monitor)
                (after_same t at m.monitor n.monitor h.monitor)
                (λ l. subst (λ x. Seen sees (at - origin) (total_of x)) (sym (load_made t status l)) (safe t at p.1.1 l)),
            refl,
          ))

      moves_at : (t : Transfer) (a : Addressing) → Bounded t → 0 < t.bytes → (z : Bool) → (operands_of a m).tainted ≡ z → Shows (Alike sees view) (access_step origin admit (Moves t a) m) (access_step origin admit (Moves t a) n)
      unfolding access_step
      moves_at t a fits l true e =
          let there : (operands_of a n).tainted ≡ true = sym (tainted_same a) ∙ e in
          rw (e, there) (refl, refl)
      moves_at t a fits l false e =
          let o = operands_of a m in
          let p = operands_of a n in
          let same : access_by n t a o.tainted o.base (sum_of a o) ≡ access_by n t a p.tainted p.base (sum_of a p) =
          by_parts n t a (tainted_same a) (base_same a e) (sums_same a e) in
          subst (λ s. Shows (Alike sees view) (access_step origin admit (Moves t a) m) s) same (touch_alike t a fits l o.tainted o.base (sum_of a o))
        where
          by_parts : (n : Machine) (t : Transfer) (a : Addressing) {q r : Bool} {x y s v : ℕ} → q ≡ r → x ≡ y → s ≡ v → access_by n t a q x s ≡ access_by n t a r y v
          by_parts n t a e f g = cc

      access_alike : (x : Access) → Within x → Moving x → Shows (Alike sees view) (access_step origin admit x m) (access_step origin admit x n)
      unfolding access_step
      access_alike Nothing b l = (record { pc = rw h.pc; monitor = h.monitor; registers = h.registers; bytes = h.bytes }, refl)
      access_alike (Moves t a) b l = moves_at t a b.0 l.0 (operands_of a m).tainted refl

      -- a step under an admission that lets a load look only at what may be seen
      pub word_alike : (word : ℕ) → Shows (Alike sees view) (word_step origin admit word m) (word_step origin admit word n)
      unfolding word_step access_step
      word_alike word = first_after (Alike sees view) _ _ (class_refusals word) (access_refusals admit (word_access word) m) (access_refusals admit (word_access word) n) (access_alike (word_access word) (bounded word) (moving word))

  -- a step by what may be reached, where a load looks only at what may be seen
  module _ (w : Window) (reach : Reach) (safe : (len : ℕ) (t : Transfer) (a : ℕ) → Passed (admit_in w reach len t a) → t.store ≡ false → Seen sees (a - w.origin) (total_of t)) (m n : Machine) (real-m : Real m) (real-n : Real n) (h : Alike sees view m n) where
    same_length : length m.memory ≡ length n.memory
    same_length = h.bytes.left ∙ sym h.bytes.right

    step_at_lem : (word : ℕ) (z y : Bool) (len : ℕ) → z ≡ y → length m.memory ≡ len
        → Shows (Alike sees view) (pick z (stopped BadWindow 0) (word_step w.origin (admit_in w reach (length m.memory)) word m)) (pick y (stopped BadWindow 0) (word_step w.origin (admit_in w reach len) word n))
    step_at_lem word true true len e l = (refl, refl)
    step_at_lem word false false len e l =
        subst (λ (k : ℕ). Shows (Alike sees view) (word_step w.origin (admit_in w reach (length m.memory)) word m) (word_step w.origin (admit_in w reach k) word n)) l
        (word_alike m n real-m real-n h w.origin (admit_in w reach (length m.memory)) (safe (length m.memory)) word)
    step_at_lem word true false len e l = absurd (let z : ◌≡◌ {A = ℕ} 0 1 = cc in omega arith)
    step_at_lem word false true len e l = absurd (let z : ◌≡◌ {A = ℕ} 0 1 = cc in omega arith)

    -- answer 1 is the same for both
    bad_alike : bad w m ≡ bad w n
    bad_alike = rw (same_length, h.bytes.taints, h.pc)

    pub step_alike : (word : ℕ) → Shows (Alike sees view) (step_in w reach word m) (step_in w reach word n)
    step_alike word =
        rw (step_in_lem w reach word m, step_in_lem w reach word n)
        (step_at_lem word (bad w m) (bad w n) (length n.memory) bad_alike same_length)
