-- `listing::line::four_digits` meets its contract. Assumes nothing.
use native.Mathlib.Omega.{arith}
use native.Mathlib.Nat.{div-one}
use mathlib.Core.Path.{◌≡◌, ap, ◌∙◌}
use Prim.Native.Nat.{◌+◌, ◌*◌}
use Rattle.bits.specs.Bytes.{bytes_of}
use Rattle.bits.proofs.Bytes.{four_are}
use Rattle.listing.specs.Listing.{hex4}
use Rattle.listing.proofs.line.four_digits.Goals as goal

pub returns : goal.returns
unfolding hex4
returns c =
    let sum : c.from.result ≡ c.digit.result + (c.digit-2.result + (c.digit-3.result + c.digit-4.result * 256) * 256) * 256 =
    omega (arith, c.from.ensures, c.from_le_bytes.ensures) in
    let bytes = four_are {a = c.digit.result} {b = c.digit-2.result} {c = c.digit-3.result} {d = c.digit-4.result} (omega arith) (omega arith) (omega arith) (omega arith) in
    (ap (bytes_of 4) sum ∙ bytes ∙ rw (c.digit.ensures, c.digit-2.ensures, c.digit-3.ensures, c.digit-4.ensures, div-one), omega arith)
