-- Laws of answers by number. Assumes nothing.
use Prim.Native.Nat.{ℕ}
use mathlib.Core.Path.{◌≡◌, ◌∙◌}
use mathlib.Core.Logic.{inl, inr}
use Rattle.instruction.specs.Encoded.{Encoded}
use Rattle.instruction.specs.Answers.{answer_number}
use Rattle.plain.specs.declared.record.Plain.{Plain}
use Rattle.plain.specs.Coding.{EncodedFrom}
use Rattle.records.specs.Replies.{EncodedAs}

pub encoded_as_lem : (p : Plain) (r : Encoded) {n : ℕ} → n ≡ answer_number r.answer → EncodedFrom p r → EncodedAs p (record { answer = n; word = r.word })
encoded_as_lem p r e (inl (done, numbers)) = inl (e ∙ done, numbers)
encoded_as_lem p r e (inr (none, zero, never)) = inr (e ∙ none, zero, never)
