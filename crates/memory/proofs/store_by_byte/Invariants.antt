-- The loop of `memory::store_by_byte`: what is still to do gives the whole. Assumes nothing.
use Rattle.std.proofs.Common.{◌≡◌, ◌-◌}
use Rattle.std.proofs.lemmas.List.Edits.{sets}
use Rattle.bits.specs.Bytes.{bytes_of}
use Rattle.memory.proofs.store_by_byte.Given as goal

abbrev pub invariant-loop-i : goal.invariant-loop-i
invariant-loop-i l = sets l.part l.i (bytes_of (l.n - l.i) l.rest) ≡ sets l.initial.part 0 (bytes_of l.n l.number)
