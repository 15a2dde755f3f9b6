-- An answer's number tells which it is. Assumes nothing.
use Prim.Native.Nat.{ℕ}
use mathlib.Core.Path.{◌≡◌, refl, sym, ap, ◌∙◌}
use mathlib.Core.List.{◌∷◌, []}
use lib.ListN.{get_or}
use Rattle.instruction.specs.Types.{Answer}
use Rattle.instruction.specs.Answers.{answer_number}

answer_at : ℕ → Answer
answer_at n =
    get_or
    (Answer.Done ∷ Answer.BadWindow ∷ Answer.NotInSet ∷ Answer.Undefined ∷ Answer.Unpredictable ∷ Answer.TaintedAddress ∷ Answer.Misaligned ∷ Answer.OutOfWindow
    ∷ Answer.ReadOnly ∷ Answer.NoSuchText ∷ Answer.NoRoom ∷ Answer.NoSuchInstruction ∷ Answer.NotAllowed ∷ Answer.Malformed ∷ Answer.BadChecksum ∷ Answer.BadRecordType
    ∷ Answer.Closed ∷ Answer.BadTrace ∷ Answer.AfterEnd ∷ [])
    n Answer.Done

number_back : (a : Answer) → answer_at (answer_number a) ≡ a
unfolding answer_at
number_back Answer.Done = refl
number_back Answer.BadWindow = refl
number_back Answer.NotInSet = refl
number_back Answer.Undefined = refl
number_back Answer.Unpredictable = refl
number_back Answer.TaintedAddress = refl
number_back Answer.Misaligned = refl
number_back Answer.OutOfWindow = refl
number_back Answer.ReadOnly = refl
number_back Answer.NoSuchText = refl
number_back Answer.NoRoom = refl
number_back Answer.NoSuchInstruction = refl
number_back Answer.NotAllowed = refl
number_back Answer.Malformed = refl
number_back Answer.BadChecksum = refl
number_back Answer.BadRecordType = refl
number_back Answer.Closed = refl
number_back Answer.BadTrace = refl
number_back Answer.AfterEnd = refl

pub number_once : (a b : Answer) → answer_number a ≡ answer_number b → a ≡ b
number_once a b e = sym (number_back a) ∙ ap answer_at e ∙ number_back b
