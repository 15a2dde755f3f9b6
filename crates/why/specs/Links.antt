-- What 02's CR 8 says of the links of a place just before a step.
use Rattle.std.specs.Prelude.{◌≡◌, ℕ, suc, ◌-◌, ◌<◌, ◌≤◌, true, List, [], ◌∷◌}
use Rattle.plan.specs.declared.window.Window.{Window}
use Rattle.machine.specs.Machine.{Machine}
use Rattle.machine.specs.Origins.{Place, from, taint_of}
use Rattle.execution.specs.Walk.{Log}
use Rattle.execution.specs.Run.{machine_run}
use Rattle.why.specs.Trail.{Past, Link, taints_at, origin_before, copied}

-- the first link is of the place, which was marked just after the link's step, and has since been kept
pub record Marks (g : Past) (step : ℕ) (q : Place) (l : Link) : Type 0 where
  pub place : l.place ≡ q
  pub earlier : l.step ≤ step
  pub marked : taint_of (taints_at g l.step) q ≡ true
  pub since : (n : ℕ) → l.step ≤ n → n < step → origin_before g n q ≡ from q

-- "by a copy from the next link's place"
pub record Copies (g : Past) (l next : Link) : Type 0 where
  pub later : ℕ
  pub step : l.step ≡ suc later
  pub across : copied l.place next.place ≡ true
  pub source : origin_before g later l.place ≡ from next.place

-- "each time at an earlier step, until a starting mark"
abbrev pub Explains : Past → ℕ → Place → List Link → Type 0
Explains g step q [] = ⊥
Explains g step q (l ∷ []) = Marks g step q l × (l.step ≡ 0)
Explains g step q (l ∷ k ∷ ls) = Marks g step q l × Copies g l k × Explains g (l.step - 1) k.place (k ∷ ls)

-- what a run leaves of itself: its words, trace and statuses, and the taints that it started with
abbrev pub ran_past : Window → List ℕ → Machine → Log → Past
ran_past w ws m l = record { words = ws; log = (machine_run w ws m l).log; origin = w.origin; start = m.taints }
