-- The loop of `listing::measured` keeps what is left of the room.
use Rattle.listing.proofs.Steps.{Measured}
use Rattle.listing.proofs.measured.Given as goal

abbrev pub invariant-loop-word : goal.invariant-loop-word
invariant-loop-word l = Measured l.bytes l.room l.left l.word-index
