-- Two plugins, one memory: every sentence is a law of crate turns, or one of machine and execution at the reach of a turn. A call of the
-- library carries them over its contract. Assumes nothing.
use Prim.Native.Nat.{ℕ, ◌+◌, ◌*◌}
use mathlib.Core.Path.{◌≡◌, refl, sym, ap, subst, ◌∙◌}
use mathlib.Core.Bool.{Bool, true, false, ◌||◌}
use mathlib.Core.List.{List}
use mathlib.Core.Logic.{◌⊎◌, ◌↔◌}
use native.Mathlib.Omega.{arith}
use lib.ListN.{length, take}
use Rattle.instruction.specs.Answers.{answer_number}
use Rattle.plan.specs.declared.ranges.Range.{Range}
use Rattle.plan.specs.declared.ranges.Ranges.{Ranges}
use Rattle.plan.specs.declared.ranges.Reach.TheVariants.{Ranged}
use Rattle.plan.specs.Ranges.{share, overlap, misses, bad_ranges}
use Rattle.machine.specs.declared.Shown.{Shown}
use Rattle.machine.specs.Machine.{Machine}
use Rattle.machine.specs.Real.{Real}
use Rattle.execution.specs.Walk.{Log, log, Result, after_steps}
use Rattle.execution.specs.Ends.{Early}
use Rattle.execution.specs.Run.{plain_window}
use Rattle.execution.specs.Secrecy.{ShowsRun}
use Rattle.execution.proofs.Walks.{run_bad, run_short, run_keeps, run_ends}
use Rattle.arm.specs.Choices.{bad_start, bad_turn_start, arm_turn_step, arm_turn, mark_rule}
use Rattle.arm.proofs.Answers.{answers_in, given_in, refuses_in}
use Rattle.arm.proofs.Rules.{marks_of_turn}
use Rattle.host.specs.Hosting.{Hosted, hosted_of}
use Rattle.turns.specs.Sight.{In, Sees, Framed}
use Rattle.turns.specs.Turns.{World, own_machine, other_machine, swapped, Turn, after_ours, after_theirs, Report, play_of, SameOrder, Reports, ShowsPlay}
use Rattle.turns.specs.Views.{Unchanged, SameOver, FilledOver}
use Rattle.turns.proofs.Ranges.{share_exact, bad_both}
use Rattle.turns.proofs.Plays.{play_swapped}
use Rattle.turns.proofs.Arms.{arm_early, arm_begun, arm_framed, arm_allowed, arm_isolation, arm_demand_3, arm_other_half}
use Rattle.image.proofs.Faults.{Tells}
use Rattle.promises.specs.Demands.{NotBegun}
use Rattle.promises.specs.Library.{Gives}
use Rattle.promises.specs.Plugins.{TurnCall, turn_start, turn_end, turn_log, called, Calls, none, mine, another, Gave, nothing, more, TurnsShow, AllShow, neither, both, CallsShow, Share, Leaves, Plugins}
use Rattle.promises.proofs.Tests.{any_tells, exact, tells, outside_tells}
use Rattle.promises.proofs.Answered.{by_definition, turn_number}
use Rattle.promises.proofs.Demands.{not_begun_lem}
use Rattle.promises.proofs.Library.{gives, as_before}

range_tells : (origin len : ℕ) (r : Range) → Tells (misses origin len r) (Leaves origin len r)
range_tells origin len r = outside_tells r.length r.address origin len (λ h. omega arith) (λ h. omega arith) (λ h. omega arith) (λ h. omega arith)

share_tells : (p q : Range) → Tells (share p q) (Share p q)
share_tells p q = tells (share p q) (share_exact p q)

overlap_tells : (r : Ranges) → Tells (overlap r) (Share r.shared r.own ⊎ (Share r.shared r.other ⊎ Share r.own r.other))
unfolding overlap
overlap_tells r = any_tells _ _ (share_tells r.shared r.own) (any_tells _ _ (share_tells r.shared r.other) (share_tells r.own r.other))

ranges_exact : (r : Ranges) (origin len : ℕ) → (bad_ranges r origin len ≡ true)
    ↔ ((Share r.shared r.own ⊎ (Share r.shared r.other ⊎ Share r.own r.other)) ⊎ (Leaves origin len r.shared ⊎ (Leaves origin len r.own ⊎ Leaves origin len r.other)))
unfolding bad_ranges
ranges_exact r origin len =
    exact (bad_ranges r origin len)
    (any_tells _ _ (overlap_tells r) (any_tells _ _ (range_tells origin len r.shared) (any_tells _ _ (range_tells origin len r.own) (range_tells origin len r.other))))

second_true : (a b : Bool) → b ≡ true → (a || b) ≡ true
second_true true b e = refl
second_true false b e = e

turn_bad : (origin : ℕ) (r : Ranges) (words : List ℕ) (m : Machine) (l : Log) → bad_turn_start origin r m ≡ true → NotBegun 1 m l (arm_turn origin r words m l)
turn_bad origin r words m l e = not_begun_lem (sym (run_bad (bad_turn_start origin r) (arm_turn_step origin r) words m l refl e))

call_gives : (c : TurnCall) → Gives c.reply c.after (called c)
call_gives c = gives c.reply c.after (called c) c.held' c.allowed

call_unbegun : (c : TurnCall) → Early c.reply.answer
    → (c.reply.steps ≡ 0) × (c.reply.code ≡ 0) × (c.reply.address ≡ 0) × (c.reply.session ≡ c.session) × (c.after ≡ c.before)
call_unbegun c h =
    as_before c.session c.before c.reply c.after (called c).answer c.held c.held'
    (c.allowed ∙ ap hosted_of (arm_early c.origin c.ranges c.words (turn_start c) (turn_log c) c.real (subst Early (call_gives c).answer h)))

call_framed : (c : TurnCall) → Framed (λ i. ¬ In c.ranges.own (c.origin + i)) (turn_start c) (turn_end c)
call_framed c =
    subst (λ (h : Hosted). Framed (λ i. ¬ In c.ranges.own (c.origin + i)) (turn_start c) h.machine) (sym c.allowed)
    (arm_framed c.origin c.ranges c.words (turn_start c) (turn_log c) c.real)

call_marks : (c : TurnCall) → (turn_end c).taints ≡ after_steps (mark_rule c.origin) c.words (log c.after.trace c.after.statuses) c.reply.steps (turn_start c).taints
call_marks c =
    subst (λ (h : Hosted). h.machine.taints ≡ after_steps (mark_rule c.origin) c.words h.log h.steps (turn_start c).taints) (sym c.allowed)
    (marks_of_turn c.origin c.ranges c.words (turn_start c) (turn_log c) c.real)

-- ---- the calls of a host

-- what a call leaves is what the turn of the definition leaves, from where it is started
ended_as : (c : TurnCall) {origin : ℕ} {r : Ranges} {m : Machine} → c.origin ≡ origin → c.ranges ≡ r → turn_start c ≡ m → called c ≡ arm_turn origin r c.words m (turn_log c)
ended_as c e f g = rw (← e, ← f, ← g)

machine_left : (c : TurnCall) → turn_end c ≡ (called c).machine
machine_left c = ap (λ (h : Hosted). h.machine) c.allowed

calls_gave : (origin : ℕ) (r : Ranges) {w : World} {ts : List Turn} {cs : List TurnCall} → Calls origin r w ts cs → Gave cs (play_of (arm_turn origin) r ts w).reports
unfolding play_of
calls_gave origin r none = nothing
calls_gave origin r {w} (mine {ts = ts} {cs = cs} c e f g further) =
    let t = arm_turn origin r c.words (own_machine w) (turn_log c) in
    let same : called c ≡ t = ended_as c e f g in
    let left : turn_end c ≡ t.machine = machine_left c ∙ ap (λ (x : Result Machine). x.machine) same in
    more c (record { lent = turn_log c; result = t }) refl left (subst (Gives c.reply c.after) same (call_gives c))
    (subst (λ (m : Machine). Gave cs (play_of (arm_turn origin) r ts (after_ours w m)).reports) left (calls_gave origin r further))
calls_gave origin r {w} (another {ts = ts} {cs = cs} c e f g further) =
    let t = arm_turn origin (swapped r) c.words (other_machine w) (turn_log c) in
    let left : turn_end c ≡ t.machine = machine_left c ∙ ap (λ (x : Result Machine). x.machine) (ended_as c e f g) in
    subst (λ (m : Machine). Gave cs (play_of (arm_turn origin) r ts (after_theirs w m)).reports) left (calls_gave origin r further)

-- two calls whose turns the definition reports, where it shows the same of both
turns_show : (R : Machine → Machine → Type 0) (c d : TurnCall) (p q : Report) → turn_log c ≡ p.lent → turn_log d ≡ q.lent → turn_end c ≡ p.result.machine → turn_end d ≡ q.result.machine
    → Gives c.reply c.after p.result → Gives d.reply d.after q.result → ShowsRun R p.result q.result → (p.lent ≡ q.lent → p.result.log ≡ q.result.log) → TurnsShow R c d
turns_show R c d p q lent lent' left left' g h s logs =
    record {
      answer = g.answer ∙ ap answer_number s.answer ∙ sym h.answer;
      code = g.code ∙ ap (λ (x : Shown). x.code) s.shown ∙ sym h.code;
      address = g.address ∙ ap (λ (x : Shown). x.address) s.shown ∙ sym h.address;
      steps = g.steps ∙ s.steps ∙ sym h.steps;
      trace = same_part (λ n. n * 2) g.steps g.trace h.steps h.trace s.trace;
      statuses = same_part (λ n. n) g.steps g.statuses h.steps h.statuses s.statuses;
      machine = subst (λ (m : Machine). R m (turn_end d)) (sym left) (subst (R p.result.machine) (sym left') s.machine);
      logs = λ e. log_same g.trace g.statuses ∙ logs (sym lent ∙ e ∙ lent') ∙ sym (log_same h.trace h.statuses);
    }
  where
    same_part : (f : ℕ → ℕ) {n m j k : ℕ} {xs ys zs us : List ℕ} → n ≡ j → xs ≡ zs → m ≡ k → ys ≡ us → take (f j) zs ≡ take (f k) us → take (f n) xs ≡ take (f m) ys
    same_part f e g i h t = rw (e, g, i, h) t

    log_same : {x y : List ℕ} {l : Log} → x ≡ l.trace → y ≡ l.statuses → log x y ≡ l
    log_same e f = rw (e, f)

all_show : (R : Machine → Machine → Type 0) {cs ds : List TurnCall} {ps qs : List Report} → Gave cs ps → Gave ds qs → Reports R ps qs → AllShow R cs ds
all_show R nothing nothing Reports.none = neither
all_show R nothing (more d q lent' left' h others) s = elim s [ ]
all_show R (more c p lent left g further) nothing s = elim s [ ]
all_show R (more c p lent left g further) (more d q lent' left' h others) (Reports.more s logs rest) = both c d (turns_show R c d p q lent lent' left left' g h s logs) (all_show R further others rest)

calls_show : (origin : ℕ) (r : Ranges) (R : Machine → Machine → Type 0)
    → ((ts us : List Turn) → SameOrder ts us → (w v : World) → Real (other_machine w) → Real (other_machine v) → R (own_machine w) (own_machine v) → ShowsPlay R (play_of (arm_turn origin) r ts w) (play_of (arm_turn origin) r us v)) → CallsShow origin r R
calls_show origin r R shows w v ts us cs ds order c d e f h = all_show R (calls_gave origin r c) (calls_gave origin r d) (shows ts us order w v e f h).reports

pub plugins : Plugins
plugins =
    record {
      bad_ranges_lem = ranges_exact;
      bad_both = bad_both;
      turn_ranges = λ origin r words m l e. turn_bad origin r words m l (second_true (bad_start (plain_window origin) m) (bad_ranges r origin (length m.memory)) e);
      turn_window = turn_bad;
      turn_room = λ origin r words m l e g. not_begun_lem (sym (run_short (bad_turn_start origin r) (arm_turn_step origin r) words m l refl e g));
      turn_early = λ origin r words m l real h. not_begun_lem (arm_early origin r words m l real h);
      step_answers = λ origin r word m. ap answer_number (answers_in (plain_window origin) (Ranged r) word m);
      step_given = λ origin r. given_in (plain_window origin) (Ranged r);
      turn = λ origin r words m l. by_definition (arm_turn origin r words m l) (turn_number origin r words m l);
      allowed = arm_allowed;
      kept = λ origin r words m l. run_keeps (arm_turn_step origin r) (bad_turn_start origin r) words m l;
      ends = λ origin r words m l real e g. (arm_begun origin r words m l real e g, run_ends (arm_turn_step origin r) (refuses_in (plain_window origin) (Ranged r)) (bad_turn_start origin r) words m l e g);
      own_range = arm_framed;
      marks = marks_of_turn;
      either = λ origin. play_swapped (arm_turn origin);
      isolation = λ origin r order. arm_isolation origin r order;
      two_sequences = λ origin r order. arm_demand_3 origin r order;
      two_fillings = λ origin r order. arm_other_half origin r order;
      calls = calls_gave;
      calls_isolated = λ origin r. calls_show origin r (Unchanged (Sees origin r)) (λ ts us order. arm_isolation origin r order);
      calls_secret = λ origin r. calls_show origin r (SameOver (Sees origin r)) (λ ts us order. arm_demand_3 origin r order);
      calls_filled = λ origin r. calls_show origin r (FilledOver (Sees origin r)) (λ ts us order. arm_other_half origin r order);
      call = call_gives;
      call_answers = λ c. rw (call_gives c).answer (turn_number c.origin c.ranges c.words (turn_start c) (turn_log c));
      call_early = call_unbegun;
      call_own_range = call_framed;
      call_marks = call_marks;
    }
