-- 02, CR 7: "The reader takes only the new form, so 01's example becomes `prfum pldl1keep, [x1]` and its old line answer 9."
use Prim.Native.String.{String}
use Rattle.std.specs.Prelude.{◌≡◌}
use Rattle.instruction.specs.Answers.{answer_number}
use Rattle.ascii.specs.Ascii.{asc}
use Rattle.reader.specs.Reading.{Reading, ReadOf}

abbrev pub new_line : String
new_line = "prfum pldl1keep, [x1]"

abbrev pub old_line : String
old_line = "prfum #0, [x1]"

-- what reading them gives, whatever reads them
pub record HintsRead : Type 0 where
  pub new : (r : Reading) → ReadOf (asc new_line) r → (answer_number r.answer ≡ 0) × (r.word ≡ 0xf8800020)
  pub old : (r : Reading) → ReadOf (asc old_line) r → (answer_number r.answer ≡ 9) × (r.word ≡ 0)
