-- The loop of `image::text::check_lines`: what is left of the text gives what the whole does. Assumes nothing.
use Rattle.std.proofs.Common.{◌≡◌, ◌+◌, ◌≤◌, false, length}
use Rattle.image.specs.Lines.{lines_of}
use Rattle.image.specs.Import.{checked}
use Rattle.image.proofs.text.check_lines.Given as goal

-- each line has bytes, so that the number of the line is no more than the text has
abbrev pub invariant-loop-rest : goal.invariant-loop-rest
invariant-loop-rest l = (l.line + length l.rest ≤ length l.text + 1)
    × (checked l.span.origin l.span.len l.line l.ended l.upper (lines_of l.rest) ≡ checked l.span.origin l.span.len 1 false 0 (lines_of l.text))

abbrev pub decreases-loop-rest : goal.decreases-loop-rest
decreases-loop-rest l = length l.rest
