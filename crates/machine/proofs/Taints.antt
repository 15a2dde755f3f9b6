-- The taints after a step are those of the taint rule. Assumes nothing.
use Rattle.std.proofs.Common.{◌≡◌, ℕ, suc, ◌+◌, ◌-◌, ◌*◌, ◌/◌, ◌^◌, ◌<◌, ◌≤◌, false, ◌⊎◌, List, [], ◌∷◌, map, length, get_or, set, refl, ap, ◌∙◌, inl, inr, zero, min, pow-suc, arith, lit<, get_or-set_other, get_or-set_same, le-ltb}
use native.Mathlib.Nat.{pow-le-pow_right}
use lib.Seq.{sets}
use Rattle.bits.proofs.Choices.{pick_by}
use Rattle.bits.specs.Bytes.{bytes_of, joined, span_of}
use Rattle.bits.specs.Extension.{largest, extended_of}
use Rattle.bits.proofs.Spans.{length_span}
use Rattle.bits.proofs.Extensions.{extended_below}
use Rattle.memory.specs.Taints.{normal}
use Rattle.memory.specs.Sources.{loaded_taint}
use Rattle.bits.proofs.Bytes.{bytes_cons}
use Rattle.memory.proofs.Taints.{normal_length, taints_fit, few_taints, span_normal}
use Rattle.vectors.specs.File.{normal_halves}
use Rattle.machine.specs.route.Writing.{halves_in}
use Rattle.memory.proofs.Sources.{extended_taints}
use Rattle.registers.specs.File.{taint_in}
use Rattle.access.specs.declared.transfer.Transfer.{Transfer}
use Rattle.access.specs.declared.Access.{Access}
use Rattle.access.specs.declared.Access.TheVariants.{Nothing, Moves}
use Rattle.plan.specs.declared.window.Window.{Window}
use Rattle.plan.specs.declared.ranges.Reach.{Reach}
use Rattle.plan.specs.declared.ranges.Reach.TheVariants.{Alone}
use Rattle.plan.proofs.Refusals.{each, first_by}
use Rattle.access.specs.Accesses.{word_access}
use Rattle.machine.specs.declared.Shown.{Shown}
use Rattle.machine.specs.Rule.{Taints, move_rule, rule_of, word_rule}
use Rattle.machine.specs.Machine.{Machine, effect_of}
use Rattle.machine.specs.Refusals.{refusals_in}
use Rattle.machine.specs.Step.{Step, stopped, moved, perform_of, step_in, step_of}

-- a step that moves leaves of a part of the machine what a rule gives of what it shows
abbrev pub Follows : {A B : Type 0} → (A → B) → (Shown → B → B) → A → Step A → Type 0
Follows part rule m (stopped answer address) = Unit {0}
Follows part rule m (moved n shown) = part n ≡ rule shown (part m)

abbrev pub taints_in : Machine → Taints
taints_in m = m.taints

perform_follows : (origin : ℕ) (x : Access) (m : Machine) → Follows taints_in (λ shown. rule_of x shown.status (shown.address - origin)) m (perform_of origin x m)
unfolding effect_of
perform_follows origin Nothing m = refl
perform_follows origin (Moves t a) m = refl

-- the taints after a step are those of the taint rule of its word and what it shows
pub taints_in_lem : (w : Window) (reach : Reach) (word : ℕ) (m : Machine) → Follows taints_in (word_rule w.origin word) m (step_in w reach word m)
unfolding step_in
taints_in_lem w reach word m =
    first_by (Follows taints_in (word_rule w.origin word) m) stopped (perform_of w.origin (word_access word) m) (refusals_in w reach word m)
    (each (λ e. tt) (refusals_in w reach word m)) (λ p. perform_follows w.origin (word_access word) m)

pub taints_by_rule : (w : Window) (word : ℕ) (m : Machine) → Follows taints_in (word_rule w.origin word) m (step_of w word m)
taints_by_rule w = taints_in_lem w Alone

-- ---- what the rule changes

-- a register that is neither written back nor loaded keeps its taint
pub register_kept : (t : Transfer) (written at : ℕ) (p : Taints) (slot : ℕ) → ¬ (slot ≡ written) → ¬ (slot ≡ t.target) → ¬ (slot ≡ t.second)
    → get_or (move_rule t written at p).registers slot 0 ≡ get_or p.registers slot 0
unfolding move_rule
register_kept t written at p slot a b c =
    pick_by (λ (u : List ℕ). get_or u slot 0 ≡ get_or p.registers slot 0) t.store (λ e. rw get_or-set_other) (λ e. rw (get_or-set_other, get_or-set_other, get_or-set_other))

-- writeback leaves the base untainted; it is never loaded at once, or the word has answer 4
pub base_untainted : (t : Transfer) (written at : ℕ) (p : Taints) → written < length p.registers → ¬ (written ≡ t.target) → ¬ (written ≡ t.second) → taint_in (move_rule t written at p).registers written ≡ false
unfolding move_rule
base_untainted t written at p h b c =
    pick_by (λ (u : List ℕ). taint_in u written ≡ false) t.store (λ e. rw get_or-set_same) (λ e. rw (get_or-set_other, get_or-set_other, get_or-set_same))

-- an index before n bytes, or behind them
abbrev pub Apart : ℕ → ℕ → ℕ → Type 0
Apart i at n = (i < at) ⊎ (at + n ≤ i)

apart_next : (i at n : ℕ) → Apart i at (suc n) → Apart i (suc at) n × ¬ (i ≡ at)
apart_next i at n (inl h) = (inl (omega arith), λ e. omega arith)
apart_next i at n (inr h) = (inr (omega arith), λ e. omega arith)

pub sets_kept : (vs ks : List ℕ) (at i : ℕ) → Apart i at (length vs) → get_or (sets ks at vs) i 0 ≡ get_or ks i 0
sets_kept [] ks at i h = refl
sets_kept (v ∷ vs) ks at i h =
    let (more, other) = apart_next i at (length vs) h in
    sets_kept vs (set ks at v) (suc at) i more ∙ get_or-set_other ks at i v 0 other

-- a byte that is not stored keeps its taint
pub byte_kept : (t : Transfer) (written at : ℕ) (p : Taints) (i : ℕ) → Apart i at t.bytes → Apart i (at + t.bytes) t.more → get_or (move_rule t written at p).bytes i 0 ≡ get_or p.bytes i 0
unfolding move_rule
byte_kept t written at p i a b =
    pick_by (λ (k : List ℕ). get_or k i 0 ≡ get_or p.bytes i 0) t.store
    (λ e.
    let first = map normal (bytes_of t.bytes (get_or p.registers t.target 0)) in
    let second = map normal (bytes_of t.more (get_or p.registers t.second 0)) in
    sets_kept second (sets p.bytes at first) (at + t.bytes) i (rw (normal_length t.more (get_or p.registers t.second 0)) b) ∙ sets_kept first p.bytes at i (rw (normal_length t.bytes (get_or p.registers t.target 0)) a))
    (λ e. refl)

-- ---- taints extended

pub extended_none : (n extent x : ℕ) → x ≡ 0 → 0 ≡ extended_of n extent (x * 255) / 255
unfolding extended_of
extended_none n extent x e =
    let low : x * 255 ≤ largest n / 2 = omega arith in
    rw (le-ltb (largest n / 2) (x * 255) low) (omega arith)

pub taints_room : {x : ℕ} (n extent : ℕ) → n ≤ extent → extent ≤ 8 → x < 256 ^ n → x < 2 ^ 64
taints_room n extent l e h =
    let few : n ≤ 8 = omega arith in
    let wide : 256 ^ n ≤ 256 ^ 8 = pow-le-pow_right (lit< tt) few in
    omega arith

pub loaded_taints_lem : (k : List ℕ) (at n extent : ℕ) {x r : ℕ} → x ≡ joined (map normal (span_of k at n)) → r ≡ extended_of n extent (x * 255) / 255 → n ≤ extent → r ≡ loaded_taint at n extent k
loaded_taints_lem k at n extent e f l = f ∙ rw e (extended_taints k at n extent l)

pub loaded_taint_below : (k : List ℕ) (at n extent : ℕ) → n ≤ extent → extent ≤ 8 → loaded_taint at n extent k < 2 ^ 64
loaded_taint_below k at n extent l e =
    let fits : joined (map normal (span_of k at n)) * 255 < 256 ^ n = rw (length_span k at n) at (taints_fit (span_of k at n)) in
    rw (← extended_taints k at n extent l) (omega (arith, extended_below n extent (joined (map normal (span_of k at n)) * 255) l e fits))

-- the bytes of what bytes make are they
span_bytes : (k : List ℕ) (at n : ℕ) → ((i : ℕ) → get_or k i 0 < 256) → (joined (span_of k at n) < 256 ^ n) × (bytes_of n (joined (span_of k at n)) ≡ span_of k at n)
unfolding joined span_of bytes_of
span_bytes k at zero real = (lit< tt, refl)
span_bytes k at (suc n) real =
    let m = 256 ^ n in
    let b = real at in
    let rest = span_bytes k (suc at) n real in
    (rw pow-suc (omega (arith, b, rest.0)), bytes_cons n (get_or k at 0) (joined (span_of k (suc at) n)) b ∙ ap (λ (l : List ℕ). get_or k at 0 ∷ l) rest.1)

normal_span : (k : List ℕ) (at n : ℕ) → ((i : ℕ) → get_or k i 0 < 256) → n ≤ 8 → joined (map normal (bytes_of 8 (joined (span_of k at n)))) ≡ joined (span_of (map normal k) at n)
normal_span k at n real h =
    let b = span_bytes k at n real in
    few_taints n 8 (joined (span_of k at n)) h b.0 ∙ ap (λ (bs : List ℕ). joined (map normal bs)) b.1 ∙ ap joined (span_normal k at n)

-- the taints of two halves that are loaded are two halves that are loaded of taints
pub normal_loaded : (n at : ℕ) (k : List ℕ) → ((i : ℕ) → get_or k i 0 < 256) → n ≤ 16 → normal_halves (halves_in k at n) ≡ halves_in (map normal k) at n
normal_loaded n at k real h = rw (normal_span k at (min n 8) real (omega arith), normal_span k (at + 8) (n - 8) real (omega (arith, h)))
