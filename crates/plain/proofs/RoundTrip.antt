-- Words and numbers lead back to each other. Assumes nothing.
use Prim.Native.Nat.{ℕ, ◌^◌, ◌<◌}
use mathlib.Core.Path.{◌≡◌, refl, sym, ap, ◌∙◌}
use mathlib.Core.Bool.{Bool, true, false}
use mathlib.Core.Logic.{inl, inr}
use native.Mathlib.Omega.{arith}
use Rattle.bits.specs.Choice.{pick}
use Rattle.instruction.specs.declared.answer.Answer.{Answer}
use Rattle.instruction.specs.Encoded.{Encoded}
use Rattle.instruction.specs.declared.family.Instruction.{Instruction}
use Rattle.instruction.specs.Answers.{answer_number}
use Rattle.instruction.specs.Table.{allocated, instruction_of}
use Rattle.instruction.proofs.Answers.{number_once}
use Rattle.decoder.specs.Decoding.{decode_of, empty}
use Rattle.decoder.proofs.Decodes.{decode_answers}
use Rattle.encoder.specs.Encoding.{encode_of}
use Rattle.encoder.specs.Exact.{encoded, no_word, Exact}
use Rattle.encoder.proofs.RoundTrip.{encode_decoded, encode_exact, not_encoded}
use Rattle.plain.specs.declared.record.Plain.{Plain}
use Rattle.plain.specs.Plains.{plain_of}
use Rattle.plain.specs.Coding.{decode_plain, NumbersOf, EncodedFrom}
use Rattle.plain.specs.route.Named.{instruction_named}
use Rattle.plain.proofs.Alike.{same, same_numbers}
use Rattle.plain.proofs.Naming.{named_back}

apart : {b : Bool} → b ≡ false → ¬ (b ≡ true)
apart f t =
    let z : true ≡ false = sym t ∙ f in
    let y : ◌≡◌ {A = ℕ} 0 1 = cc in
    omega arith

-- the instruction of a word is the one that its numbers name
named_word : (w : ℕ) (p : Plain) → NumbersOf w p → instruction_of w ≡ instruction_named p
named_word w p n = sym (named_back (instruction_of w)) ∙ ap instruction_named n.numbers

module _ (p : Plain) where
  exact_from : plain_of (instruction_named p) ≡ p → {r : Encoded} → r ≡ encode_of (instruction_named p) → Exact (instruction_named p) (encode_of (instruction_named p)) → EncodedFrom p r
  exact_from s e (inl (w, q, x)) =
      rw (e ∙ q) (inl (refl, record { below = x.below; defined = x.defined; numbers = ap plain_of x.instruction ∙ s }))
  exact_from s e (inr (q, never)) =
      rw (e ∙ q) (inr (refl, refl, λ w n. never w (record { below = n.below; defined = n.defined; instruction = named_word w p n })))

  -- where the instruction that the numbers name has these numbers, its word
  pub encoded_from : {i : Instruction} {q : Plain} {b : Bool} {r : Encoded} → i ≡ instruction_named p → q ≡ plain_of i → b ≡ same q p → b ≡ true
      → r ≡ encode_of i → EncodedFrom p r
  encoded_from {q = q} named numbers test t e =
      exact_from (ap plain_of (sym named) ∙ sym numbers ∙ (same_numbers q p).0 (sym test ∙ t)) (e ∙ ap encode_of named) (encode_exact (instruction_named p))

  -- and else none
  pub refused_from : {i : Instruction} {q : Plain} {b : Bool} → i ≡ instruction_named p → q ≡ plain_of i → b ≡ same q p → b ≡ false → EncodedFrom p no_word
  refused_from {q = q} named numbers test t =
      inr (refl, refl, λ w n. apart t (test ∙ (same_numbers q p).1 (numbers ∙ ap plain_of (named ∙ sym (named_word w p n)) ∙ n.numbers)))

-- ---- numbers are encoded in just one way

some_by : (p : Plain) (b : Bool) → b ≡ same (plain_of (instruction_named p)) p → (r : Encoded) × EncodedFrom p r
some_by p true test = (encode_of (instruction_named p), encoded_from p refl refl test refl refl)
some_by p false test = (no_word, refused_from p refl refl test refl)

pub encoded_some : (p : Plain) → (r : Encoded) × EncodedFrom p r
encoded_some p = some_by p (same (plain_of (instruction_named p)) p) refl

numbers_once : (w v : ℕ) (p : Plain) → NumbersOf w p → NumbersOf v p → w ≡ v
numbers_once w v p n m =
    ap (λ (x : Encoded). x.word)
    (sym (encode_decoded w n.below n.defined) ∙ ap encode_of (named_word w p n ∙ sym (named_word v p m)) ∙ encode_decoded v m.below m.defined)

beside : (a b : Answer) {w v : ℕ} → answer_number a ≡ answer_number b → w ≡ v → ◌≡◌ {A = Encoded} (record { answer = a; word = w }) (record { answer = b; word = v })
beside a b e f = rw (number_once a b e, f)

pub encoded_once : (p : Plain) (r s : Encoded) → EncodedFrom p r → EncodedFrom p s → r ≡ s
encoded_once p r s (inl (a, n)) (inl (b, m)) = beside r.answer s.answer (a ∙ sym b) (numbers_once r.word s.word p n m)
encoded_once p r s (inl (a, n)) (inr (b, z, never)) = absurd (never r.word n)
encoded_once p r s (inr (a, y, never)) (inl (b, m)) = absurd (never s.word m)
encoded_once p r s (inr (a, y, never)) (inr (b, z, none)) = beside r.answer s.answer (a ∙ sym b) (y ∙ sym z)

-- ---- words to numbers and back, and numbers to words and back

no_empty : (w : ℕ) → ¬ NumbersOf w (plain_of empty)
unfolding encode_of
no_empty w n =
    not_encoded
    (ap encode_of (sym (named_back empty) ∙ sym (named_word w (plain_of empty) n)) ∙ encode_decoded w n.below n.defined)

by_allocated : (w : ℕ) → w < 2 ^ 32 → (b : Bool) → allocated w ≡ b → EncodedFrom (plain_of (pick b (instruction_of w) empty)) (pick b (encoded w) no_word)
by_allocated w h true a = inl (refl, record { below = h; defined = a; numbers = refl })
by_allocated w h false a = inr (refl, refl, no_empty)

-- encoding what a word is decoded to gives the word, and 11 where there is none
pub encode_numbers : (w : ℕ) → w < 2 ^ 32 → (r : Encoded) → EncodedFrom (decode_plain w).plain r → r ≡ pick (allocated w) (encoded w) no_word
unfolding decode_plain decode_of
encode_numbers w h r x = encoded_once _ r _ x (by_allocated w h (allocated w) refl)

numbers_decoded : (w : ℕ) (p : Plain) → NumbersOf w p → decode_plain w ≡ record { answer = Answer.Done; plain = p }
unfolding decode_plain decode_of
numbers_decoded w p n = rw ((decode_answers w).2.1 n.defined, n.defined, n.numbers)

-- decoding the word that numbers are encoded as gives the numbers
pub decode_numbers : (p : Plain) (r : Encoded) → EncodedFrom p r → answer_number r.answer ≡ 0 → decode_plain r.word ≡ record { answer = Answer.Done; plain = p }
decode_numbers p r (inl (a, n)) d = numbers_decoded r.word p n
decode_numbers p r (inr (a, z, never)) d = absurd (omega (arith, a, d))
