-- What is promised of instructions as numbers. Assumes nothing.
use Prim.Native.Nat.{ℕ, ◌^◌, ◌<◌}
use mathlib.Core.Path.{◌≡◌, refl, sym, ap, ◌∙◌}
use mathlib.Core.Bool.{Bool, true, false, ◌&&◌, not}
use mathlib.Core.List.{[], ◌∷◌}
use mathlib.Core.Logic.{◌↔◌, inl, inr}
use native.Mathlib.Omega.{arith}
use Rattle.bits.specs.Choice.{pick}
use Rattle.instruction.specs.declared.answer.Answer.{Answer}
use Rattle.instruction.specs.Encoded.{Encoded}
use Rattle.instruction.specs.Answers.{answer_number}
use Rattle.instruction.specs.Table.{in_set, undefined, allocated, instruction_of}
use Rattle.decoder.specs.Decoding.{decode_of, empty}
use Rattle.encoder.specs.Exact.{encoded, no_word}
use Rattle.plain.specs.declared.record.Plain.{Plain}
use Rattle.plain.specs.Coding.{DecodedPlain}
use Rattle.plain.specs.Plains.{plain_of, empty_plain}
use Rattle.plain.specs.Coding.{decode_plain, NumbersOf, EncodedFrom}
use Rattle.plain.proofs.RoundTrip.{encoded_some, encoded_once, encode_numbers, decode_numbers}
use Rattle.plain.proofs.Examples.{examples_hold}
use Rattle.records.specs.declared.PlainReply.{PlainReply}
use Rattle.records.specs.declared.EncodedReply.{EncodedReply}
use Rattle.records.specs.Replies.{decode_numbered, EncodedAs}
use Rattle.records.proofs.Replies.{encoded_as_lem}
use Rattle.promises.specs.Answered.{one_of}
use Rattle.promises.specs.Numbers.{Numbers}
use Rattle.promises.proofs.Demands.{decoded_number, class_number_lem}

decoded_fields : (word : ℕ) (r : PlainReply) → r ≡ decode_numbered (decode_plain word)
    → (one_of (0 ∷ 2 ∷ 3 ∷ []) r.answer ≡ true) × (r.answer ≡ answer_number (decode_of word).answer) × (r.plain ≡ plain_of (decode_of word).instruction)
unfolding decode_plain
decoded_fields word r e =
    let answer : r.answer ≡ answer_number (decode_of word).answer = ap (λ (r : PlainReply). r.answer) e in
    (rw answer (decoded_number word), answer, ap (λ (r : PlainReply). r.plain) e)

not_both : ¬ (◌≡◌ {A = ℕ} 11 0)
not_both e = omega arith

-- a reply is that of an encoding
abbrev replied : Encoded → EncodedReply
replied e = record { answer = answer_number e.answer; word = e.word }

reply_from : (p : Plain) (r : EncodedReply) → EncodedAs p r → (e : Encoded) × (EncodedFrom p e × (r ≡ replied e))
reply_from p r (inl (d, n)) = (record { answer = Answer.Done; word = r.word }, (inl (refl, n), λ i. record { answer = d i; word = r.word }))
reply_from p r (inr (d, z, n)) = (record { answer = Answer.NoSuchInstruction; word = r.word }, (inr (refl, z, n), λ i. record { answer = d i; word = r.word }))

reply_one : (p : Plain) (r s : EncodedReply) → EncodedAs p r → EncodedAs p s → r ≡ s
reply_one p r s h k =
    let (d, (of-d, is-d)) = reply_from p r h in
    let (e, (of-e, is-e)) = reply_from p s k in
    is-d ∙ ap replied (encoded_once p d e of-d of-e) ∙ sym is-e

reply_number : (p : Plain) (r : EncodedReply) → EncodedAs p r → one_of (0 ∷ 11 ∷ []) r.answer ≡ true
reply_number p r (inl (d, n)) = rw d
reply_number p r (inr (d, z, n)) = rw d

reply_some : (p : Plain) → (e : Encoded) × EncodedFrom p e → (r : EncodedReply) × EncodedAs p r
reply_some p (e, h) = (replied e, encoded_as_lem p e refl h)

refused_at : (word : ℕ) (s u : Bool) → ¬ (answer_number (pick s (pick u Answer.Undefined Answer.Done) Answer.NotInSet) ≡ 0)
    → plain_of (pick (s && not u) (instruction_of word) empty) ≡ empty_plain
unfolding plain_of
refused_at word true true n = refl
refused_at word true false n = absurd (n refl)
refused_at word false u n = refl

refused_zeros : (word : ℕ) → ¬ (answer_number (decode_of word).answer ≡ 0) → (decode_plain word).plain ≡ empty_plain
unfolding decode_plain decode_of allocated
refused_zeros word n = refused_at word (in_set word) (undefined word) n

answered_with : (word : ℕ) (b : Bool) {r : EncodedReply} → r ≡ replied (pick b (encoded word) no_word) → r ≡ pick b (record { answer = 0; word = word }) (record { answer = 11; word = 0 })
answered_with word true e = e
answered_with word false e = e

encoded_again : (word : ℕ) → word < 2 ^ 32 → (r : EncodedReply) → EncodedAs (decode_plain word).plain r
    → r ≡ pick (allocated word) (record { answer = 0; word = word }) (record { answer = 11; word = 0 })
encoded_again word h r x =
    let (e, (of-e, is-e)) = reply_from (decode_plain word).plain r x in
    answered_with word (allocated word) (is-e ∙ ap replied (encode_numbers word h e of-e))

decoded_again : (p : Plain) (r : EncodedReply) → EncodedAs p r → r.answer ≡ 0 → (answer_number (decode_plain r.word).answer ≡ 0) × ((decode_plain r.word).plain ≡ p)
decoded_again p r (inl (d, n)) e =
    let back = decode_numbers p (record { answer = Answer.Done; word = r.word }) (inl (refl, n)) refl in
    (ap (λ (d : DecodedPlain). answer_number d.answer) back, ap (λ (d : DecodedPlain). d.plain) back)
decoded_again p r (inr (d, z, n)) e = absurd (not_both (sym d ∙ e))

encoded_fields : (p : Plain) (r : EncodedReply) → EncodedAs p r
    → ((r.answer ≡ 0) ↔ NumbersOf r.word p) × ((r.answer ≡ 11) ↔ ((w : ℕ) → ¬ NumbersOf w p)) × (r.answer ≡ 11 → r.word ≡ 0)
encoded_fields p r (inl (d, n)) =
    (((λ e. n), (λ k. d)), ((λ e. absurd (not_both (sym e ∙ d))), (λ none. absurd (none r.word n))), (λ e. absurd (not_both (sym e ∙ d))))
encoded_fields p r (inr (d, z, n)) = (((λ e. absurd (not_both (sym d ∙ e))), (λ k. absurd (n r.word k))), ((λ e. n), (λ k. d)), (λ e. z))

pub numbers : Numbers
numbers =
    record {
      classify = λ word r e. (rw e (class_number_lem word), e);
      decode = decoded_fields;
      encode = λ p. record { some = reply_some p (encoded_some p); one = reply_one p; answer = reply_number p };
      encode_answers = encoded_fields;
      decode_refused = refused_zeros;
      encode_decoded = encoded_again;
      decode_encoded = decoded_again;
      numbered = examples_hold;
    }
