-- Why a byte is tainted: 02, CR 8, with CR 12, "follows these registers too, with 2 in a link", and CR 13, "then explains one byte at a
-- time, by the byte it copies". A path is followed back by the one origin that each place has at a step. The slots of registers are the
-- machine's: 0 to 31, and from 32 to 63 the vector registers.
use Rattle.std.specs.Prelude.{ℕ, zero, suc, ◌+◌, ◌-◌, ◌*◌, ◌%◌, ◌^◌, Bool, true, false, List, [], ◌∷◌, ◌++◌, map, nat_lt, slice_index}
use Rattle.bits.specs.Choice.{pick}
use Rattle.access.specs.Accesses.{word_access}
use Rattle.machine.specs.Rule.{Taints, word_rule}
use Rattle.machine.specs.Origins.{Place, of_register, of_memory, Origin, none, from, taint_of, origin_at}
use Rattle.vectors.specs.File.{wide}
use Rattle.execution.specs.Walk.{Log, log, shown_at, after_steps}

-- what is lent of a run: its words, trace and statuses, the address of memory's first byte, and the taints that it started with
pub record Past : Type 0 where
  pub words : List ℕ
  pub log : Log
  pub origin : ℕ
  pub start : Taints

-- the taints of the registers, and behind them those of the vector registers, as the machine has them
abbrev pub lent : List ℕ → List ℕ → List ℕ → ℕ → List ℕ → List (List ℕ) → List ℕ → Past
lent words trace statuses origin register_taint vector_taint taint =
    record {
      words = words;
      log = log trace statuses;
      origin = origin;
      start = record { registers = register_taint ++ map wide vector_taint; bytes = taint };
    }

-- "the mark rule over the lent words, addresses and statuses": the taints just before a step
abbrev pub taints_at : Past → ℕ → Taints
taints_at g j = after_steps (word_rule g.origin) g.words g.log j g.start

-- the zero register is no place: what is stored of it comes from nowhere
abbrev pub is_place : Place → Bool
is_place (of_register slot i) = nat_lt slot 64
is_place (of_memory j) = true

-- where a place's taint just after a step was just before it
abbrev pub origin_before : Past → ℕ → Place → Origin
origin_before g j q =
    pick (is_place q)
    (origin_at (word_access (slice_index g.words j)) (shown_at g.log j).status ((shown_at g.log j).address - g.origin) q)
    none

-- a place, and the step that marked it plus 1, or 0 for the start
pub record Link : Type 0 where
  pub place : Place
  pub step : ℕ

abbrev pub link : Place → ℕ → Link
link q s = record { place = q; step = s }

-- a path back to the start, latest first, and whether the place where it ends was tainted there
pub record Trail : Type 0 where
  pub links : List Link
  pub marked : Bool

abbrev pub begun : Taints → Place → Trail
begun p q = record { links = link q 0 ∷ []; marked = taint_of p q }

abbrev pub lost : Trail
lost = record { links = []; marked = false }

abbrev pub ahead : Link → Trail → Trail
ahead l t = record { links = l ∷ t.links; marked = t.marked }

-- a load copies from memory to a register, a store from a register to memory; what is kept comes from its own place
abbrev pub copied : Place → Place → Bool
copied (of_register slot i) (of_register other k) = false
copied (of_register slot i) (of_memory j) = true
copied (of_memory j) (of_register slot i) = true
copied (of_memory j) (of_memory k) = false

-- a link for each copy
abbrev pub follow : Place → ℕ → (Place → Trail) → Origin → Trail
follow q j earlier none = lost
follow q j earlier (from o) = pick (copied q o) (ahead (link q (suc j)) (earlier o)) (earlier o)

-- of a place just before a step
unfoldable pub trail_of : Past → ℕ → Place → Trail
trail_of g zero q = begun g.start q
trail_of g (suc j) q = follow q j (trail_of g j) (origin_before g j q)

-- the links that are told; "not marked" is said with none
abbrev pub told : Trail → List Link
told t = pick t.marked t.links []

-- "0 for a register or 1 for a byte", 2 for a vector register; "16 times the register plus the byte" (31 is SP), or the address; and the
-- step
abbrev pub place_numbers : ℕ → Place → ℕ → List ℕ
place_numbers origin (of_register slot i) s = pick (nat_lt slot 32) 0 2 ∷ (16 * (slot % 32) + i) ∷ s ∷ []
place_numbers origin (of_memory j) s = 1 ∷ ((origin + j) % 2 ^ 64) ∷ s ∷ []

abbrev pub numbers_of : ℕ → Link → List ℕ
numbers_of origin l = place_numbers origin l.place l.step
