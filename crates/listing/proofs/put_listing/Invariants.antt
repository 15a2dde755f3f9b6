-- The loop of `listing::put_listing` keeps what is put so far.
use Rattle.listing.proofs.Steps.{Listed}
use Rattle.listing.proofs.put_listing.Given as goal

abbrev pub invariant-loop-word : goal.invariant-loop-word
invariant-loop-word l = Listed l.initial.output l.bytes l.output l.next l.word-index
