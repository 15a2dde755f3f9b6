-- What is put, and the lines that are still to end, are all lines.
use Rattle.std.proofs.Common.{drop, length, ◌*◌, ◌+◌, ◌≡◌, ◌≤◌}
use Rattle.assemble.specs.Lines.{newlines}
use Rattle.assemble.proofs.answer_lines.Given as goal

abbrev pub invariant-loop-byte : goal.invariant-loop-byte
invariant-loop-byte l = (l.end ≤ l.byte-index * 11) × (l.end + newlines (drop l.byte-index l.bytes) * 11 ≡ newlines l.bytes * 11)
