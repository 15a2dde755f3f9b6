-- What each return shows, over plain values. Assumes nothing.
use Prim.Native.Nat.{ℕ}
use mathlib.Core.Path.{◌≡◌, sym, ap, ◌∙◌}
use mathlib.Core.Bool.{false}
use lib.Dec.{eqb}
use borrow.Author.Tests.{ne_eqb}
use Rattle.std.specs.Prelude.{Ok, Err}
use Rattle.instruction.specs.declared.answer.Answer.{Answer}
use Rattle.instruction.specs.declared.family.Instruction.{Instruction}
use Rattle.instruction.specs.declared.operation.SizedOp.{SizedOp}
use Rattle.instruction.specs.Operations.{sized_code, sized_at}
use Rattle.instruction.proofs.Codes.{sized_whole}
use Rattle.decoder.specs.Decoding.{decode_of, as_decoded}
use Rattle.plain.specs.declared.record.Plain.{Plain}
use Rattle.plain.specs.Plains.{plain_of}
use Rattle.plain.specs.Coding.{as_decoded_plain, decode_plain}

-- only a prefetch has its code
pub moves : (op : SizedOp) → ¬ (op ≡ SizedOp.Prefetch) → eqb (sized_code op) 0b11_10 ≡ false
unfolding sized_at
moves op n = ne_eqb _ 0b11_10 (λ e. n (sym (sized_whole op) ∙ ap sized_at e))

-- the numbers of the instruction that a word was decoded to, and zeros where it was refused
pub decode_done : (w : ℕ) {i : Instruction} {p : Plain} → as_decoded (Ok i) ≡ decode_of w → p ≡ plain_of i → as_decoded_plain (Ok p) ≡ decode_plain w
unfolding decode_plain
decode_done w e q = rw (q, ← e)

pub decode_refused : (w : ℕ) {a : Answer} → as_decoded (Err a) ≡ decode_of w → as_decoded_plain (Err a) ≡ decode_plain w
unfolding decode_plain plain_of
decode_refused w e = rw (← e)
