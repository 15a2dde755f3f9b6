-- What a host is told is what was returned, with the answer by its number. Assumes nothing.
use Rattle.std.proofs.Common.{◌≡◌, ℕ, List, Result, Ok, Err, ap, ◌∙◌, inl, inr}
use Rattle.instruction.specs.declared.answer.Answer.{Answer}
use Rattle.instruction.specs.Answers.{answer_number}
use Rattle.printer.specs.Writing.{outcome}
use Rattle.reader.specs.Reading.{Reading, ReadOf}
use Rattle.stream.specs.Streams.{outcome as lister_told}
use Rattle.stream.specs.declared.Lister.{Lister}
use Rattle.host.specs.Replies.{Numbered, text_outcome, numbered, lister_outcome, lister_numbered, ReadAs}
use Rattle.host.specs.declared.TextReply.{TextReply}

pub read_as : (t : List ℕ) (r : Reading) {n : ℕ} → n ≡ answer_number r.answer → ReadOf t r → ReadAs t (record { answer = n; word = r.word })
read_as t r e (inl (done, line)) = inl (e ∙ done, line)
read_as t r e (inr (none, zero, never)) = inr (e ∙ none, zero, never)

-- a call of a lister tells what a text does, and the lister
pub lister_as : (l : Lister) (r : Result ℕ Answer) (output : List ℕ) {t : TextReply} → text_outcome t output ≡ numbered (outcome r output)
    → lister_outcome (record { lister = l; answer = t.answer; length = t.length }) output ≡ lister_numbered (lister_told l r output)
lister_as l (Ok n) output e = ap (λ (o : Numbered). record { lister = l; answer = o.answer; length = o.length; buffer = o.buffer }) e
lister_as l (Err a) output e = ap (λ (o : Numbered). record { lister = l; answer = o.answer; length = o.length; buffer = o.buffer }) e
