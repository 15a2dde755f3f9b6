-- Words, instructions and lines that lead back to each other: the allocated words, the instructions that encoding takes, and
-- the texts that reading takes.
use Rattle.std.specs.Prelude.{ℕ, ◌^◌, ◌<◌, ◌≡◌, true, List}
use Rattle.instruction.specs.Answers.{answer_number}
use Rattle.instruction.specs.Table.{allocated}
use Rattle.encoder.specs.Encoding.{encode_of}
use Rattle.reader.specs.Types.{Instruction}
use Rattle.reader.specs.Reading.{Reading, ReadOf}

-- f leads from the members of A to those of B, to each from exactly one
pub record Bijection {X Y : Type 0} (A : X → Type 0) (B : Y → Type 0) (f : X → Y) : Type 0 where
  pub into : (x : X) → A x → B (f x)
  pub one_one : (x y : X) → A x → A y → f x ≡ f y → x ≡ y
  pub onto : (y : Y) → B y → (x : X) × A x × (f x ≡ y)

abbrev pub Allocated : ℕ → Type 0
Allocated w = (w < 2 ^ 32) × (allocated w ≡ true)

abbrev pub Encodable : Instruction → Type 0
Encodable i = answer_number (encode_of i).answer ≡ 0

abbrev pub Readable : List ℕ → Type 0
Readable t = (r : Reading) × ReadOf t r × (answer_number r.answer ≡ 0)
