-- What encoding is to answer: 01, "What a word says". The one word that decodes to the instruction, or 11 and word 0 where
-- there is none.
use Rattle.std.specs.Prelude.{ℕ, ◌^◌, ◌<◌, ◌≡◌, true, ◌⊎◌}
use Rattle.instruction.specs.declared.answer.Answer.{Answer}
use Rattle.instruction.specs.Encoded.{Encoded}
use Rattle.instruction.specs.declared.family.Instruction.{Instruction}
use Rattle.instruction.specs.Table.{allocated, instruction_of}

abbrev pub encoded : ℕ → Encoded
encoded w = record { answer = Answer.Done; word = w }

abbrev pub no_word : Encoded
no_word = record { answer = Answer.NoSuchInstruction; word = 0 }

-- an instruction is that of the allocated word w
pub record Word (i : Instruction) (w : ℕ) : Type 0 where
  pub below : w < 2 ^ 32
  pub defined : allocated w ≡ true
  pub instruction : instruction_of w ≡ i

abbrev pub Exact : Instruction → Encoded → Type 0
Exact i e = ((w : ℕ) × (e ≡ encoded w) × Word i w) ⊎ ((e ≡ no_word) × ((w : ℕ) → ¬ Word i w))
