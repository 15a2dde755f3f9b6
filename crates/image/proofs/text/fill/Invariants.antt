-- The loop of `image::text::fill`: what is left of the text has no fault, and writes what the whole does. Assumes nothing.
use Rattle.std.proofs.Common.{◌≡◌, length}
use Rattle.image.specs.Lines.{lines_of}
use Rattle.image.specs.Records.{places_of}
use Rattle.image.specs.Import.{puts, clears}
use Rattle.image.proofs.Steps.{Sound}
use Rattle.image.proofs.text.fill.Given as goal

abbrev pub invariant-loop-rest : goal.invariant-loop-rest
invariant-loop-rest l = (length l.memory ≡ length l.initial.memory) × (length l.taint ≡ length l.initial.taint)
    × Sound l.origin (length l.initial.memory) l.upper l.rest
    × (puts l.origin (places_of l.upper (lines_of l.rest)) l.memory ≡ puts l.origin (places_of 0 (lines_of l.text)) l.initial.memory)
    × (clears l.origin (places_of l.upper (lines_of l.rest)) l.taint ≡ clears l.origin (places_of 0 (lines_of l.text)) l.initial.taint)

abbrev pub decreases-loop-rest : goal.decreases-loop-rest
decreases-loop-rest l = length l.rest
