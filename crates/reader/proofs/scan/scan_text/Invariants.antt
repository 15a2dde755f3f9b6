-- The loop of `reader::scan::scan_text`: the scan of what is left leads to the scan of the whole.
use mathlib.Core.Path.{◌≡◌}
use mathlib.Core.List.{foldl}
use lib.ListN.{drop}
use Rattle.reader.specs.route.Scanned.{scan_of}
use Rattle.reader.specs.route.Scan.{step_of, scan_start}
use Rattle.reader.proofs.scan.scan_text.Given as goal

abbrev pub invariant-loop-byte : goal.invariant-loop-byte
invariant-loop-byte l = foldl step_of (scan_of l.scan) (drop l.byte-index l.text) ≡ foldl step_of scan_start l.text
