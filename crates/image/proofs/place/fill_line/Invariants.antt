-- The loop of `image::place::fill_line`: what is still to do gives the whole. Assumes nothing.
use Rattle.std.proofs.Common.{◌≡◌, ◌+◌, ◌-◌, length}
use Rattle.image.specs.Lines.{bytes_in}
use Rattle.image.specs.Records.{placed}
use Rattle.image.specs.Import.{puts, clears}
use Rattle.image.proofs.place.fill_line.Given as goal

abbrev pub invariant-loop-i : goal.invariant-loop-i
invariant-loop-i l = (length l.memory ≡ length l.initial.memory) × (length l.taint ≡ length l.initial.taint)
    × (puts l.origin (placed (l.first + l.i) (bytes_in l.rest (4 + l.i) (l.count - l.i))) l.memory ≡ puts l.origin (placed l.first (bytes_in l.rest 4 l.count)) l.initial.memory)
    × (clears l.origin (placed (l.first + l.i) (bytes_in l.rest (4 + l.i) (l.count - l.i))) l.taint ≡ clears l.origin (placed l.first (bytes_in l.rest 4 l.count)) l.initial.taint)
