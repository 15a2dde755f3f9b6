-- Monitors that are equal, and steps that show the same: what demand 3 is said with.
use Rattle.std.specs.Prelude.{◌≡◌, ◌⊎◌}
use Rattle.machine.specs.declared.monitor.Monitor.{Monitor}
use Rattle.machine.specs.Step.{Step, stopped, moved}

-- 02, CR 3: a monitor is "open, or an address and a size", so that two open ones are equal, whatever numbers they hold
abbrev pub EqualMonitors : Monitor → Monitor → Type 0
EqualMonitors r s = (r ≡ s) ⊎ ((r.size ≡ 0) × (s.size ≡ 0))

-- two steps that show the same, and leave machines in a relation
abbrev pub Shows : {A : Type 0} → (A → A → Type 0) → Step A → Step A → Type 0
Shows R (stopped answer address) (stopped other place) = (answer ≡ other) × (address ≡ place)
Shows R (stopped answer address) (moved n shown) = ⊥
Shows R (moved m shown) (stopped other place) = ⊥
Shows R (moved m shown) (moved n seen) = R m n × (shown ≡ seen)
