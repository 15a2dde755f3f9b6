-- The origins as the code has them, with numbers: a byte of a register is 16 times its slot plus the byte, below 1,024.
use Rattle.std.specs.Prelude.{ℕ, zero, suc, ◌+◌, ◌-◌, ◌*◌, ◌/◌, ◌%◌, ◌^◌, ◌<◌, ◌≤◌, Bool, true, false, not, List, length, ◌==◌, nat_le, nat_lt, slice_index}
use Rattle.bits.specs.Choice.{pick}
use Rattle.access.specs.declared.transfer.Transfer.{Transfer}
use Rattle.access.specs.declared.Access.{Access}
use Rattle.access.specs.declared.Access.TheVariants.{Nothing, Moves}
use Rattle.access.specs.Accesses.{word_access}
use Rattle.machine.specs.Monitor.{fails}
use Rattle.machine.specs.Origins.{Place, of_register, of_memory, Origin, none, from, among}
use Rattle.execution.specs.Walk.{Log, log, shown_at}
use Rattle.why.specs.declared.source.Spot.{Spot}
use Rattle.why.specs.declared.source.Spot.TheVariants.{Part, Cell}
use Rattle.why.specs.declared.source.Came.{Came}
use Rattle.why.specs.declared.source.Came.TheVariants.{Kept, Cleared, Copied}
use Rattle.why.specs.declared.source.LastSet.{LastSet}
use Rattle.why.specs.declared.source.LastSet.TheVariants.{Never, Clearing, Copying}
use Rattle.why.specs.Trail.{Past}

abbrev pub spot_place : Spot → Place
spot_place (Part n) = of_register (n / 16) (n % 16)
spot_place (Cell i) = of_memory i

-- a register's byte is copied from memory, and a byte of memory from a register
abbrev pub across : Spot → ℕ → Spot
across (Part n) m = Cell m
across (Cell i) m = Part m

abbrev pub origin_by : Spot → Came → Origin
origin_by q Kept = from (spot_place q)
origin_by q Cleared = none
origin_by q (Copied m) = from (spot_place (across q m))

abbrev pub loaded_from : ℕ → ℕ → ℕ → ℕ → Came
loaded_from at n extent k = pick (nat_lt k n) (Copied (at + k)) (pick (nat_le extent k) Cleared (pick (n == 0) Cleared (Copied (at + (n - 1)))))

abbrev pub written_came : ℕ → ℕ → Came
written_came slot written = pick (slot == written) Cleared Kept

abbrev pub part_came : Transfer → ℕ → ℕ → ℕ → Came
part_came t written at n =
    pick (nat_lt 1023 n) Cleared
    (pick t.store (written_came (n / 16) written)
    (pick (n / 16 == t.second) (loaded_from (at + t.bytes) t.more t.extent (n % 16))
    (pick (n / 16 == t.target) (loaded_from at t.bytes t.extent (n % 16)) (written_came (n / 16) written))))

abbrev pub cell_came : Transfer → ℕ → ℕ → ℕ → Came
cell_came t status at i =
    pick (not t.store) Kept
    (pick (fails t status) Kept
    (pick (among i (at + t.bytes) t.more) (Copied (16 * t.second + (i - (at + t.bytes)) % 16))
    (pick (among i at t.bytes) (Copied (16 * t.target + (i - at) % 16)) Kept)))

abbrev pub part_in : Access → ℕ → ℕ → Came
part_in Nothing at n = pick (nat_lt 1023 n) Cleared Kept
part_in (Moves t a) at n = part_came t a.written at n

abbrev pub cell_in : Access → ℕ → ℕ → ℕ → Came
cell_in Nothing status at i = Kept
cell_in (Moves t a) status at i = cell_came t status at i

abbrev pub total_in : Access → ℕ
total_in Nothing = 0
total_in (Moves t a) = t.bytes + t.more

unfoldable pub came_of : Access → ℕ → ℕ → Spot → Came
came_of x status at (Part n) = part_in x at n
came_of x status at (Cell i) = cell_in x status at i

abbrev pub is_kept : Came → Bool
is_kept Kept = true
is_kept Cleared = false
is_kept (Copied n) = false

-- what is lent of the steps
pub record Steps : Type 0 where
  pub words : List ℕ
  pub log : Log
  pub origin : ℕ

abbrev pub steps_of : List ℕ → List ℕ → List ℕ → ℕ → Steps
steps_of ws trace statuses origin = record { words = ws; log = log trace statuses; origin = origin }

-- with what is lent of the start
abbrev pub past_of : Steps → List ℕ → List ℕ → Past
past_of g u k = record { words = g.words; log = g.log; origin = g.origin; start = record { registers = u; bytes = k } }

abbrev pub access_at : Steps → ℕ → Access
access_at g j = word_access (slice_index g.words j)

abbrev pub index_at : Steps → ℕ → ℕ
index_at g j = (shown_at g.log j).address - g.origin

abbrev pub came_at : Steps → ℕ → Spot → Came
came_at g j q = came_of (access_at g j) (shown_at g.log j).status (index_at g j) q

-- what last set a byte, by where its taint came from at a step and by what had set it before
abbrev pub set_by : ℕ → LastSet → Came → LastSet
set_by j earlier Kept = earlier
set_by j earlier Cleared = Clearing
set_by j earlier (Copied m) = Copying m j

unfoldable pub last_of : Steps → ℕ → Spot → LastSet
last_of g zero q = Never
last_of g (suc j) q = set_by j (last_of g j q) (came_at g j q)

pub record InRange (g : Steps) (steps : ℕ) : Type 0 where
  pub words : steps ≤ length g.words
  pub trace : steps * 2 ≤ length g.log.trace
  pub statuses : steps ≤ length g.log.statuses
  pub inside : (j : ℕ) → j < steps → index_at g j + total_in (access_at g j) < 2 ^ 64

pub record Asks (g : Steps) (steps d : ℕ) : Type 0 where
  pub range : InRange g steps
  pub small : d + steps < 2 ^ 63
