-- `reader::scan::scan_text` meets its contract. Assumes nothing.
use Prim.Native.Nat.{ℕ, ◌+◌, ◌<◌}
use mathlib.Core.Path.{◌≡◌, refl, sym, ap, ◌∙◌}
use mathlib.Core.List.{List, foldl}
use native.Mathlib.Numerals.{add-one}
use lib.ListN.{length, drop, get_or, drop_of_length-le}
use lib.Seq.{drop-cons}
use Rattle.reader.specs.Types.{Scan}
use Rattle.reader.specs.route.Scanned.{scan_of}
use Rattle.reader.specs.route.Scan.{step_of, scan_start}
use Rattle.reader.proofs.scan.scan_text.Goals as goal

next : (s t : Scan) (l : List ℕ) (i : ℕ) → i < length l → t ≡ step_of s (get_or l i 0) → foldl step_of t (drop (i + 1) l) ≡ foldl step_of s (drop i l)
next s t l i h e = rw (e, add-one, drop-cons l i 0)

pub loop-byte-init : goal.loop-byte-init
unfolding scan_start
loop-byte-init c = refl

pub loop-byte-preserved : goal.loop-byte-preserved
loop-byte-preserved c = next _ _ _ _ c.loop-byte-test.true c.step.ensures ∙ c.loop-byte.invariant

pub returns : goal.returns
returns c = ap (foldl step_of (scan_of c.loop-byte.scan)) (sym (drop_of_length-le _ c.loop-byte-test.false)) ∙ c.loop-byte.invariant
