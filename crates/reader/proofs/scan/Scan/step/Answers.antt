-- `reader::scan::Scan::step` meets its contract: each arm is an entry of the table. Assumes nothing.
use Prim.Native.Nat.{ℕ}
use mathlib.Core.Path.{◌≡◌, ap, ◌∙◌}
use mathlib.Core.Logic.{inl, inr, ◌⊎◌}
use Rattle.bits.specs.Choice.{lookup}
use Rattle.bits.proofs.Choices.{absent, entry}
use Rattle.reader.specs.Types.{Scan}
use Rattle.reader.specs.route.Scanned.{scan_of}
use Rattle.reader.specs.route.Scan.{keyed, digited, plain_of, step_table, step_of}
use Rattle.reader.proofs.scan.Scan.step.Goals as goal

-- p and z
letter : (s : Scan) (byte : ℕ) → (byte ≡ 112) ⊎ (byte ≡ 122) → keyed (digited s 31) byte ≡ lookup (plain_of s byte) (step_table s byte) byte
letter s byte (inl e) = entry _ (step_table s byte) e
letter s byte (inr e) = entry _ (step_table s byte) e

pub returns-in-32 : goal.returns-in-32
unfolding step_of
returns-in-32 c = entry _ (step_table (scan_of c.args.self.now) c.args.byte) c.in-32.is

pub returns-in-91 : goal.returns-in-91
unfolding step_of
returns-in-91 c =
    let byte = c.args.byte in
    c.put_byte.ensures ∙ entry _ (step_table (scan_of c.args.self.now) byte) c.in-91.is

pub returns-in-112 : goal.returns-in-112
unfolding step_of
returns-in-112 c =
    let byte = c.args.byte in
    c.put_byte-in-112.ensures ∙ ap (λ (t : Scan). keyed t byte) c.put_digit.ensures
    ∙ letter _ byte c.in-112.is

pub returns-in_default : goal.returns-in_default
unfolding step_of
returns-in_default c =
    let rest = c.in_default.in_default-own.rest in
    c.put_plain.ensures ∙ absent _ (step_table (scan_of c.args.self.now) c.args.byte) _ ((rest.0, λ e. rest.1 (inl e)), λ e. rest.1 (inr e))
