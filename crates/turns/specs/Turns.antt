-- Two plugins that take turns on one memory, as one of them sees it: 02, CR 11. "A refused run ends that turn only", and a turn
-- starts from what the plugin's own last turn left.
use Rattle.std.specs.Prelude.{ℕ, ◌≡◌, List, [], ◌∷◌}
use Rattle.plan.specs.declared.ranges.Ranges.{Ranges}
use Rattle.machine.specs.declared.monitor.Monitor.{Monitor}
use Rattle.machine.specs.Machine.{Machine}
use Rattle.execution.specs.Walk.{Log, Result}
use Rattle.execution.specs.Secrecy.{SameRoom, ShowsRun}

-- "each with its own registers, monitor": the 64 registers of a machine with their marks, its program counter and its monitor
pub record Plugin : Type 0 where
  pub values : List ℕ
  pub marks : List ℕ
  pub pc : ℕ
  pub monitor : Monitor

-- a plugin on memory and taint bytes
abbrev pub machine_with : Plugin → List ℕ → List ℕ → Machine
machine_with p memory taint = record { values = p.values; pc = p.pc; memory = memory; taints = record { registers = p.marks; bytes = taint }; monitor = p.monitor }

abbrev pub plugin_in : Machine → Plugin
plugin_in m = record { values = m.values; marks = m.taints.registers; pc = m.pc; monitor = m.monitor }

-- both plugins between turns, and "the same memory and mark buffer"
pub record World : Type 0 where
  pub own : Plugin
  pub other : Plugin
  pub memory : List ℕ
  pub taint : List ℕ

abbrev pub own_machine : World → Machine
own_machine w = machine_with w.own w.memory w.taint

abbrev pub other_machine : World → Machine
other_machine w = machine_with w.other w.memory w.taint

-- the ranges as the other has them
abbrev pub swapped : Ranges → Ranges
swapped r = record { shared = r.shared; own = r.other; other = r.own }

-- whose turn it is, with the words that are run and the trace and statuses that are lent
pub data Turn : Type 0 where
  ours : List ℕ → Log → Turn
  theirs : List ℕ → Log → Turn

-- what a turn leaves, to the plugin whose it was and of the memory
abbrev pub after_ours : World → Machine → World
after_ours w m = record { own = plugin_in m; other = w.other; memory = m.memory; taint = m.taints.bytes }

abbrev pub after_theirs : World → Machine → World
after_theirs w m = record { own = w.own; other = plugin_in m; memory = m.memory; taint = m.taints.bytes }

-- what was lent to one of our turns, and all that it returned and left
pub record Report : Type 0 where
  pub lent : Log
  pub result : Result Machine

pub record Played : Type 0 where
  pub world : World
  pub reports : List Report

abbrev pub reported : Log → Result Machine → Played → Played
reported l t p = record { world = p.world; reports = record { lent = l; result = t } ∷ p.reports }

-- the turns in order, whatever each answers, by what a turn returns and leaves of the ranges of the plugin whose it is
unfoldable pub play_of : (Ranges → List ℕ → Machine → Log → Result Machine) → Ranges → List Turn → World → Played
play_of turn r [] w = record { world = w; reports = [] }
play_of turn r (ours ws l ∷ ts) w =
    let t = turn r ws (own_machine w) l in
    reported l t (play_of turn r ts (after_ours w t.machine))
play_of turn r (theirs ws l ∷ ts) w = play_of turn r ts (after_theirs w (turn (swapped r) ws (other_machine w) l).machine)

-- the same turns and the same world as the other sees them
abbrev pub swap_turn : Turn → Turn
swap_turn (ours ws l) = theirs ws l
swap_turn (theirs ws l) = ours ws l

abbrev pub swap_world : World → World
swap_world w = record { own = w.other; other = w.own; memory = w.memory; taint = w.taint }

-- "a fixed order of turns": ours with the same words and room, the other's with any
pub data SameOrder : List Turn → List Turn → Type 0 where
  end : SameOrder [] []
  same : {ts us : List Turn} → (ws : List ℕ) (l k : Log) → SameRoom l k → SameOrder ts us → SameOrder (ours ws l ∷ ts) (ours ws k ∷ us)
  any : {ts us : List Turn} → (ws vs : List ℕ) (l k : Log) → SameOrder ts us → SameOrder (theirs ws l ∷ ts) (theirs vs k ∷ us)

-- each of our turns shows the same and leaves machines in a relation, and the same trace and statuses where the same were lent
pub data Reports (R : Machine → Machine → Type 0) : List Report → List Report → Type 0 where
  none : Reports R [] []
  more : {p q : Report} {ps qs : List Report} → ShowsRun R p.result q.result → (p.lent ≡ q.lent → p.result.log ≡ q.result.log) → Reports R ps qs → Reports R (p ∷ ps) (q ∷ qs)

-- after each of our turns, and at the end
pub record ShowsPlay (R : Machine → Machine → Type 0) (p q : Played) : Type 0 where
  pub reports : Reports R p.reports q.reports
  pub machine : R (own_machine p.world) (own_machine q.world)
