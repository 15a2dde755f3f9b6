-- Two machines whose bytes are related by their taints. A view says how they are compared, and `sees` which bytes of memory may be
-- looked at. Other bounds of sight, and other views, are other instances.
use Rattle.std.specs.Prelude.{ℕ, ◌≡◌, Bool, false, List, length, get_or}
use Rattle.memory.specs.Taints.{tainted, byte_at}
use Rattle.memory.specs.route.Values.{sign_copy}
use Rattle.machine.specs.declared.monitor.Monitor.{Monitor}
use Rattle.machine.specs.Machine.{Machine}
use Rattle.secrecy.specs.Shows.{EqualMonitors}

-- how two marks of a register's byte are to each other, two monitors, and, by their taint, two bytes
pub record View : Type 1 where
  pub mark : ℕ → ℕ → Type 0
  pub monitor : Monitor → Monitor → Type 0
  pub related : Bool → ℕ → ℕ → Type 0

-- by whether a byte is tainted, and whether monitors are equal
abbrev pub by_taint : (Bool → ℕ → ℕ → Type 0) → View
by_taint related = record { mark = λ k l. tainted k ≡ tainted l; monitor = EqualMonitors; related = related }

-- all is the same
abbrev pub exactly : View
exactly = record { mark = λ k l. k ≡ l; monitor = λ r s. r ≡ s; related = λ q a b. a ≡ b }

-- a view that copies, signs and constants keep
pub record Copied (view : View) : Type 0 where
  pub itself : (k : ℕ) → view.mark k k
  pub sharp : (k l : ℕ) → view.mark k l → tainted k ≡ tainted l
  pub still : (r : Monitor) → view.monitor r r
  pub agree : (r s : Monitor) → view.monitor r s → EqualMonitors r s
  pub equal : (a b : ℕ) → view.related false a b → a ≡ b
  pub alike : (a : ℕ) → view.related false a a
  pub sign : (q : Bool) (a b : ℕ) → view.related q a b → view.related q (sign_copy a) (sign_copy b)

-- two bytes and their taint bytes, which are the same
abbrev pub Byte : View → ℕ → ℕ → ℕ → ℕ → Type 0
Byte view k l a b = (k ≡ l) × view.related (tainted k) a b

-- two numbers and their marks, byte by byte
abbrev pub Word : View → ℕ → ℕ → ℕ → ℕ → Type 0
Word view u w a b = (i : ℕ) → view.mark (byte_at i u) (byte_at i w) × view.related (tainted (byte_at i u)) (byte_at i a) (byte_at i b)

-- two lists with their taints, all of one length, element by element where they may be looked at
pub record Table (sees : ℕ → Type 0) (each-is : ℕ → ℕ → ℕ → ℕ → Type 0) (k l x y : List ℕ) : Type 0 where
  pub taints : length l ≡ length k
  pub left : length x ≡ length k
  pub right : length y ≡ length k
  pub each : (i : ℕ) → sees i → each-is (get_or k i 0) (get_or l i 0) (get_or x i 0) (get_or y i 0)

abbrev pub Anywhere : ℕ → Type 0
Anywhere i = Unit {0}

pub record Alike (sees : ℕ → Type 0) (view : View) (m n : Machine) : Type 0 where
  pub pc : m.pc ≡ n.pc
  pub monitor : view.monitor m.monitor n.monitor
  pub registers : Table Anywhere (Word view) m.taints.registers n.taints.registers m.values n.values
  pub bytes : Table sees (Byte view) m.taints.bytes n.taints.bytes m.memory n.memory
