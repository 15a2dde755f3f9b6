-- Words, instructions and lines: each pair is a bijection between the allocated words, the instructions that have a word and the
-- texts that are read. Assumes nothing.
use Prim.Native.Nat.{ℕ}
use mathlib.Core.Path.{◌≡◌, refl, sym, ap, ◌∙◌, subst}
use mathlib.Core.List.{List}
use mathlib.Core.Logic.{inl, inr}
use native.Mathlib.Omega.{arith}
use Rattle.instruction.specs.Answers.{answer_number}
use Rattle.instruction.specs.Table.{instruction_of}
use Rattle.encoder.specs.Encoding.{encode_of}
use Rattle.instruction.specs.Encoded.{Encoded}
use Rattle.encoder.specs.Exact.{Exact}
use Rattle.encoder.proofs.RoundTrip.{encode_decoded, encode_exact}
use Rattle.text.specs.Texts.{text_of, word_text}
use Rattle.reader.specs.Types.{Done, Instruction}
use Rattle.reader.specs.Reading.{Reading, LineOf, ReadOf}
use Rattle.reader.specs.Triangle.{Bijection, Allocated, Encodable, Readable}
use Rattle.reader.proofs.RoundTrip.{text_injective}

-- ---- words and instructions

encodes : (w : ℕ) → Allocated w → encode_of (instruction_of w) ≡ record { answer = Done; word = w }
encodes w a = encode_decoded w a.0 a.1

from_word : (i : Instruction) {e : Encoded} → Exact i e → answer_number e.answer ≡ 0 → (w : ℕ) × Allocated w × (instruction_of w ≡ i)
from_word i (inl (w, e, x)) d = (w, (x.below, x.defined), x.instruction)
from_word i (inr (e, n)) d = absurd (omega (arith, d, ap (λ (x : Encoded). answer_number x.answer) e))

pub words_instructions : Bijection Allocated Encodable instruction_of
words_instructions =
    record {
      into = λ w a. ap (λ (e : Encoded). answer_number e.answer) (encodes w a);
      one_one = λ v w a b e. ap (λ (x : Encoded). x.word) (sym (encodes v a) ∙ ap encode_of e ∙ encodes w b);
      onto = λ i d. from_word i (encode_exact i) d;
    }

-- ---- words and lines

line_of : (w : ℕ) → Allocated w → LineOf w (word_text w)
line_of w a = record { below = a.0; defined = a.1; line = refl }

from_line : (t : List ℕ) (r : Reading) → ReadOf t r → answer_number r.answer ≡ 0 → (w : ℕ) × Allocated w × (word_text w ≡ t)
from_line t r (inl (d, l)) e = (r.word, (l.below, l.defined), l.line)
from_line t r (inr (d, k, n)) e = absurd (omega (arith, d, e))

pub words_lines : Bijection Allocated Readable word_text
words_lines =
    record {
      into = λ w a. (record { answer = Done; word = w }, inl (refl, line_of w a), refl);
      one_one = λ v w a b e. text_injective v w (word_text w) (record { below = a.0; defined = a.1; line = e }) (line_of w b);
      onto = λ t r. from_line t r.0 r.1 r.2;
    }

-- ---- instructions and lines

-- the third side of a triangle
module _ {X Y Z : Type 0} {A : X → Type 0} {B : Y → Type 0} {C : Z → Type 0} (f : X → Y) (g : Y → Z) (p : Bijection A B f) (q : Bijection A C (λ x. g (f x))) where
  third_into : (y : Y) → B y → C (g y)
  third_into y b = let (x, a, e) = p.onto y b in subst (λ (k : Y). C (g k)) e (q.into x a)

  third_one : (y z : Y) → B y → B z → g y ≡ g z → y ≡ z
  third_one y z b d h =
      let (x, a, e) = p.onto y b in
      let (u, c, k) = p.onto z d in
      sym e ∙ ap f (q.one_one x u a c (ap g e ∙ h ∙ ap g (sym k))) ∙ k

  third_onto : (t : Z) → C t → (y : Y) × B y × (g y ≡ t)
  third_onto t c = let (x, a, e) = q.onto t c in (f x, p.into x a, e)

  third : Bijection B C g
  third = record { into = third_into; one_one = third_one; onto = third_onto }

pub instructions_lines : Bijection Encodable Readable text_of
unfolding word_text
instructions_lines = third instruction_of text_of words_instructions words_lines

-- the line of a word is the line of its instruction, and each of the three is a bijection
pub triangle : ((w : ℕ) → word_text w ≡ text_of (instruction_of w)) × Bijection Allocated Encodable instruction_of × Bijection Encodable Readable text_of
    × Bijection Allocated Readable word_text
unfolding word_text
triangle = ((λ w. refl), words_instructions, instructions_lines, words_lines)
