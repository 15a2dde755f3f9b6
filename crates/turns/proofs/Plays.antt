-- A relation that our turns keep, and that what the other changes doesn't touch, is kept by any sequence of turns. Assumes nothing.
use Prim.Native.Nat.{ℕ}
use mathlib.Core.Path.{◌≡◌, refl, ap, ◌∙◌}
use mathlib.Core.List.{List, [], ◌∷◌, map}
use Rattle.plan.specs.declared.ranges.Ranges.{Ranges}
use Rattle.machine.specs.Machine.{Machine}
use Rattle.machine.proofs.Reals.{Below}
use Rattle.execution.specs.Walk.{Log, Result}
use Rattle.execution.specs.Run.{turn_of}
use Rattle.execution.specs.Secrecy.{SameRoom, ShowsRun}
use Rattle.turns.specs.Sight.{Sees, Framed}
use Rattle.turns.specs.Turns.{World, own_machine, other_machine, swapped, Turn, ours, theirs, after_ours, after_theirs, play_of, swap_turn, swap_world, SameOrder, end, same, any, Reports, ShowsPlay}
use Rattle.turns.proofs.Frames.{turn_unseen, turn_small}

-- a machine with another's memory and taint bytes
abbrev pub over : Machine → Machine → Machine
over m p = record { values = m.values; pc = m.pc; memory = p.memory; taints = record { registers = m.taints.registers; bytes = p.taints.bytes }; monitor = m.monitor }

-- a machine after a turn of the other: what it sees is as it was, and bytes are bytes
pub record Between (places : ℕ → Type 0) (m p : Machine) : Type 0 where
  pub framed : Framed places m p
  pub small : Below 256 m.memory → Below 256 p.memory

module _ (R : Machine → Machine → Type 0) (origin : ℕ) (r : Ranges)
    (mine : (ws : List ℕ) (m n : Machine) (l k : Log) → R m n → SameRoom l k → ShowsRun R (turn_of origin r ws m l) (turn_of origin r ws n k))
    (logs : (ws : List ℕ) (m n : Machine) (l : Log) → R m n → (turn_of origin r ws m l).log ≡ (turn_of origin r ws n l).log)
    (unseen : (m n p q : Machine) → R m n → Between (Sees origin r) m p → Between (Sees origin r) n q → R (over m p) (over n q)) where
  -- both have the same memory
  in_common : (w : World) (ws : List ℕ) (l : Log) → Between (Sees origin r) (own_machine w) (turn_of origin (swapped r) ws (other_machine w) l).machine
  in_common w ws l =
      let f = turn_unseen origin r ws (other_machine w) l in
      record { framed = record { size = f.size; room = f.room; bytes = f.bytes; taints = f.taints }; small = turn_small origin (swapped r) ws (other_machine w) l }

  -- the same order of turns, ours over the same words: whatever the other is and does, each of ours shows the same
  pub play_shows : {ts us : List Turn} → SameOrder ts us → (w v : World) → R (own_machine w) (own_machine v) → ShowsPlay R (play_of (turn_of origin) r ts w) (play_of (turn_of origin) r us v)
  unfolding play_of
  play_shows end w v h = record { reports = Reports.none; machine = h }
  play_shows (same ws l k room o) w v h =
      let t : ShowsRun R (turn_of origin r ws (own_machine w) l) (turn_of origin r ws (own_machine v) k) = mine ws (own_machine w) (own_machine v) l k h room in
      let p = play_shows o (after_ours w (turn_of origin r ws (own_machine w) l).machine) (after_ours v (turn_of origin r ws (own_machine v) k).machine) t.machine in
      record { reports = Reports.more t (λ e. logs ws (own_machine w) (own_machine v) l h ∙ ap (λ (j : Log). (turn_of origin r ws (own_machine v) j).log) e) p.reports; machine = p.machine }
  play_shows (any ws vs l k o) w v h =
      let p = (turn_of origin (swapped r) ws (other_machine w) l).machine in
      let q = (turn_of origin (swapped r) vs (other_machine v) k).machine in
      play_shows o (after_theirs w p) (after_theirs v q) (unseen (own_machine w) (own_machine v) p q h (in_common w ws l) (in_common v vs k))

-- the same sequence, as the other sees it
pub play_swapped : (turn : Ranges → List ℕ → Machine → Log → Result Machine) (r : Ranges) (ts : List Turn) (w : World) → (play_of turn (swapped r) (map swap_turn ts) (swap_world w)).world ≡ swap_world (play_of turn r ts w).world
unfolding play_of
play_swapped turn r [] w = refl
play_swapped turn r (ours ws l ∷ ts) w = play_swapped turn r ts (after_ours w (turn r ws (own_machine w) l).machine)
play_swapped turn r (theirs ws l ∷ ts) w = play_swapped turn r ts (after_theirs w (turn (swapped r) ws (other_machine w) l).machine)
