-- `reader::first::target_at` meets its contract: each arm is an entry of the table. Assumes nothing.
use Prim.Native.Nat.{ℕ, ◌+◌}
use mathlib.Core.Path.{ap, ◌∙◌}
use Rattle.bits.proofs.Choices.{absent, entry}
use Rattle.reader.specs.route.Targets.{target_table, target_at}
use Rattle.reader.proofs.first.target_at.Goals as goal

pub returns-in-3202170821328790636 : goal.returns-in-3202170821328790636
unfolding target_at
returns-in-3202170821328790636 c = c.low_bits.ensures.0 ∙ entry _ (target_table _) c.in-3202170821328790636.is

pub returns-in-3201340754608546924 : goal.returns-in-3201340754608546924
unfolding target_at
returns-in-3201340754608546924 c = c.low_bits-in-3201340754608546924.ensures.0 ∙ entry _ (target_table _) c.in-3201340754608546924.is

pub returns-in-3202170821328791916 : goal.returns-in-3202170821328791916
unfolding target_at
returns-in-3202170821328791916 c = ap (λ (k : ℕ). 8 + k) c.low_bits-in-3202170821328791916.ensures.0 ∙ entry _ (target_table _) c.in-3202170821328791916.is

pub returns-in-3201340754608548204 : goal.returns-in-3201340754608548204
unfolding target_at
returns-in-3201340754608548204 c = ap (λ (k : ℕ). 8 + k) c.low_bits-in-3201340754608548204.ensures.0 ∙ entry _ (target_table _) c.in-3201340754608548204.is

pub returns-in-3202170821328794739 : goal.returns-in-3202170821328794739
unfolding target_at
returns-in-3202170821328794739 c = ap (λ (k : ℕ). 16 + k) c.low_bits-in-3202170821328794739.ensures.0 ∙ entry _ (target_table _) c.in-3202170821328794739.is

pub returns-in-3201340754608551027 : goal.returns-in-3201340754608551027
unfolding target_at
returns-in-3201340754608551027 c = ap (λ (k : ℕ). 16 + k) c.low_bits-in-3201340754608551027.ensures.0 ∙ entry _ (target_table _) c.in-3201340754608551027.is

pub returns-in_default : goal.returns-in_default
unfolding target_at
returns-in_default c = absent _ (target_table _) _ c.in_default.in_default-own.rest
