-- What is refused of an access inside the window, by what it may reach.
use Rattle.std.specs.Prelude.{ℕ, Bool, List}
use Rattle.plan.specs.declared.window.Window.{Window}
use Rattle.plan.specs.declared.ranges.Reach.{Reach}
use Rattle.plan.specs.declared.ranges.Reach.TheVariants.{Alone, Ranged}
use Rattle.plan.specs.Refusals.{Refusal}
use Rattle.plan.specs.Admission.{guards}
use Rattle.plan.specs.Ranges.{limits}

abbrev pub reach_of : Window → Reach → Bool → ℕ → ℕ → List Refusal
reach_of w Alone store n a = guards w store a
reach_of w (Ranged r) store n a = limits r store n a
