-- Two plugins with ranges in one window: 02, CR 11, answers 1, 8 and 12. All as whole numbers.
use Rattle.std.specs.Prelude.{ℕ, ◌+◌, Bool, false, not, ◌&&◌, ◌||◌, List, [], ◌∷◌, ◌++◌, ◌==◌, nat_lt}
use Rattle.bits.specs.Choice.{pick}
use Rattle.instruction.specs.declared.answer.Answer.TheVariants.{ReadOnly, NotAllowed}
use Rattle.access.specs.declared.transfer.Transfer.{Transfer}
use Rattle.plan.specs.declared.window.Window.{Window}
use Rattle.plan.specs.declared.ranges.Range.{Range}
use Rattle.plan.specs.declared.ranges.Ranges.{Ranges}
use Rattle.plan.specs.declared.ranges.Reach.{Reach}
use Rattle.plan.specs.declared.ranges.Reach.TheVariants.{Alone, Ranged}
use Rattle.plan.specs.Refusals.{Refusal, refusal}
use Rattle.plan.specs.Admission.{total_of, outside, placed, admit_of}

abbrev pub range : ℕ → ℕ → Range
range address length = record { address = address; length = length }

-- two ranges share a byte: neither is empty, and each begins before the other ends
unfoldable pub share : Range → Range → Bool
share p q =
    not (p.length == 0) && (not (q.length == 0) && (nat_lt p.address (q.address + q.length) && nat_lt q.address (p.address + p.length)))

-- 1: "if two ranges share a byte"
unfoldable pub overlap : Ranges → Bool
overlap r = share r.shared r.own || (share r.shared r.other || share r.own r.other)

-- "or one, empty too, isn't inside the window as 7 counts"
abbrev pub misses : ℕ → ℕ → Range → Bool
misses origin len r = outside r.length r.address origin len

unfoldable pub bad_ranges : Ranges → ℕ → ℕ → Bool
bad_ranges r origin len = overlap r || (misses origin len r.shared || (misses origin len r.own || misses origin len r.other))

-- n bytes at an address don't lie wholly in a range
abbrev pub beyond : ℕ → ℕ → Range → Bool
beyond n a r = outside n a r.address r.length

-- 8: "for a store touching the shared range"
unfoldable pub common : Bool → ℕ → ℕ → Range → Bool
common store n a shared = pick store (share (range a n) shared) false

-- 12: "for any other access not allowed". "A load must lie wholly in the shared range or in the plugin's own, a store wholly in its own"
unfoldable pub strays : Bool → ℕ → ℕ → Ranges → Bool
strays store n a r = beyond n a r.own && (store || beyond n a r.shared)

abbrev pub limits : Ranges → Bool → ℕ → ℕ → List Refusal
limits r store n a = refusal ReadOnly (common store n a r.shared) a ∷ refusal NotAllowed (strays store n a r) a ∷ []

-- the admission of a plugin with ranges
unfoldable pub admit_ranges : ℕ → Ranges → ℕ → Transfer → ℕ → List Refusal
admit_ranges origin r len t a = placed origin len t a ++ limits r t.store (total_of t) a

-- what an access may reach: all of the window, or what ranges allow
abbrev pub admit_in : Window → Reach → ℕ → Transfer → ℕ → List Refusal
admit_in w Alone = admit_of w
admit_in w (Ranged r) = admit_ranges w.origin r
