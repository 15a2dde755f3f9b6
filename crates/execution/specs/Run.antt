-- The machine's run.
use Rattle.std.specs.Prelude.{ℕ, Bool, ◌||◌, List, length}
use Rattle.plan.specs.declared.window.Window.{Window}
use Rattle.plan.specs.declared.ranges.Ranges.{Ranges}
use Rattle.plan.specs.declared.ranges.Reach.{Reach}
use Rattle.plan.specs.declared.ranges.Reach.TheVariants.{Alone, Ranged}
use Rattle.plan.specs.Window.{bad_window}
use Rattle.plan.specs.Ranges.{bad_ranges}
use Rattle.machine.specs.Machine.{Machine, machine_of}
use Rattle.machine.specs.Refusals.{bad}
use Rattle.machine.specs.Step.{Step, step_in, step_of}
use Rattle.execution.specs.Walk.{Log, log, Result, run_of}
use Rattle.execution.specs.declared.Ran.{Ran}

-- 1, of the window or of the ranges in it, by the lengths of memory and of its taints
abbrev pub bad_by : Window → Reach → ℕ → ℕ → ℕ → Bool
bad_by w Alone len taints pc = bad_window w len taints pc
bad_by w (Ranged r) len taints pc = bad_window w len taints pc || bad_ranges r w.origin len

abbrev pub bad_in : Window → Reach → Machine → Bool
bad_in w reach m = bad_by w reach (length m.memory) (length m.taints.bytes) m.pc

abbrev pub machine_run : Window → List ℕ → Machine → Log → Result Machine
machine_run w words m l = run_of (bad w) (step_of w) words m l

-- ---- a turn: 02, CR 11

-- 02: "a shared range replaces the read-only beginning"
abbrev pub plain_window : ℕ → Window
plain_window origin = record { origin = origin; readonly = 0 }

-- 1, of the window or of the ranges
abbrev pub bad_turn : ℕ → Ranges → Machine → Bool
bad_turn origin r m = bad (plain_window origin) m || bad_ranges r origin (length m.memory)

abbrev pub turn_step : ℕ → Ranges → ℕ → Machine → Step Machine
turn_step origin r = step_in (plain_window origin) (Ranged r)

-- a run that reaches what ranges allow
abbrev pub turn_of : ℕ → Ranges → List ℕ → Machine → Log → Result Machine
turn_of origin r words m l = run_of (bad_turn origin r) (turn_step origin r) words m l

-- what the code returns and leaves
abbrev pub result_of : Ran → List (List ℕ) → List (List ℕ) → List ℕ → List ℕ → List ℕ → List ℕ → Result Machine
result_of r vectors vector_taint memory taint trace statuses =
    record { machine = machine_of r.state vectors vector_taint memory taint; log = log trace statuses; steps = r.steps; answer = r.answer; shown = r.shown }
