-- Listings from a stream: 02, CR 5. A call hands out the lines of the words that are whole, or is refused and changes nothing.
use Rattle.std.specs.Prelude.{ℕ, ◌*◌, ◌/◌, Bool, ◌||◌, not, List, [], ◌∷◌, ◌++◌, eqb, ltb, length, take, drop, get_or, Result, Ok, Err}
use Rattle.std.proofs.lemmas.List.Edits.{sets}
use Rattle.bits.specs.Choice.{pick}
use Rattle.instruction.specs.declared.answer.Answer.{Answer}
use Rattle.instruction.specs.declared.answer.Answer.TheVariants.{Done, NoRoom, Closed}
use Rattle.listing.specs.Listing.{listing_of}
use Rattle.stream.specs.declared.Lister.{Lister}

-- 02's bytes over
abbrev pub over_in : Lister → List ℕ
over_in l = take l.count (l.first ∷ l.second ∷ l.third ∷ [])

-- a lister that is open and holds some bytes, at most three
abbrev pub holding : List ℕ → Lister
holding r = record { first = get_or r 0 0; second = get_or r 1 0; third = get_or r 2 0; count = length r; closed = 0 }

-- a lister after its closing
abbrev pub shut_of : Lister → Lister
shut_of l = record { first = l.first; second = l.second; third = l.third; count = l.count; closed = 1 }

-- 16: after closing, or with more than three bytes over
abbrev pub refuses : Lister → Bool
refuses l = not (eqb l.closed 0) || ltb 3 l.count

-- the bytes of whole words, and what is left of them
abbrev pub whole_of : List ℕ → List ℕ
whole_of bs = take (length bs / 4 * 4) bs

abbrev pub rest_of : List ℕ → List ℕ
rest_of bs = drop (length bs / 4 * 4) bs

-- all that a call returns and leaves: the length is 0 where it is refused
pub record Outcome : Type 0 where
  pub lister : Lister
  pub answer : Answer
  pub length : ℕ
  pub buffer : List ℕ

abbrev pub outcome : Lister → Result ℕ Answer → List ℕ → Outcome
outcome l (Ok n) output = record { lister = l; answer = Done; length = n; buffer = output }
outcome l (Err answer) output = record { lister = l; answer = answer; length = 0; buffer = output }

abbrev pub refused : Answer → Lister → List ℕ → Outcome
refused answer l output = record { lister = l; answer = answer; length = 0; buffer = output }

-- 10 for lines that the output can't hold; otherwise they are its start
unfoldable pub handed : Lister → Lister → List ℕ → List ℕ → Outcome
handed l next lines output =
    pick (ltb (length output) (length lines)) (refused NoRoom l output)
    (record { lister = next; answer = Done; length = length lines; buffer = sets output 0 lines })

-- a call with the output that is lent to it
pub data Call : Type 0 where
  push : List ℕ → List ℕ → Call
  close : List ℕ → Call

abbrev pub lent : Call → List ℕ
lent (push fragment output) = output
lent (close output) = output

-- this call's lines: of the words that are whole with a fragment behind the bytes over, or the `short` line
abbrev pub lines_of : Lister → Call → List ℕ
lines_of l (push fragment output) = listing_of (whole_of (over_in l ++ fragment))
lines_of l (close output) = listing_of (over_in l)

abbrev pub next_of : Lister → Call → Lister
next_of l (push fragment output) = holding (rest_of (over_in l ++ fragment))
next_of l (close output) = shut_of l

-- 16, then 10
unfoldable pub call_of : Lister → Call → Outcome
call_of l c = pick (refuses l) (refused Closed l (lent c)) (handed l (next_of l c) (lines_of l c) (lent c))
