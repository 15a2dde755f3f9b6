-- Answers 6, 7 and 8: 01, "Answer numbers", and 02, CR 3. All as whole numbers.
use Rattle.std.specs.Prelude.{ℕ, ◌+◌, ◌%◌, Bool, true, false, not, List, [], ◌∷◌, ◌++◌, ◌==◌, nat_lt}
use Rattle.bits.specs.Choice.{pick}
use Rattle.instruction.specs.declared.answer.Answer.TheVariants.{Misaligned, OutOfWindow, ReadOnly}
use Rattle.access.specs.declared.transfer.Transfer.{Transfer}
use Rattle.plan.specs.declared.window.Window.{Window}
use Rattle.plan.specs.Refusals.{Refusal, refusal}

-- a pair is one access
abbrev pub total_of : Transfer → ℕ
total_of t = t.bytes + t.more

-- 6: an ordered access not wholly inside one 16-byte aligned block
unfoldable pub misaligned : Bool → ℕ → ℕ → Bool
misaligned ordered total a = pick ordered (nat_lt 16 (a % 16 + total)) false

-- 02, CR 3: "an exclusive's address not a multiple of the size is 6"
unfoldable pub unaligned : Bool → ℕ → ℕ → Bool
unaligned exclusive total a = pick exclusive (not (a % total == 0)) false

-- 7: not inside origin to origin + len
unfoldable pub outside : ℕ → ℕ → ℕ → ℕ → Bool
outside total a origin len = pick (nat_lt a origin) true (nat_lt (origin + len) (a + total))

-- 8: a store touching the first bytes
unfoldable pub guarded : Bool → ℕ → Window → Bool
guarded store a w = pick store (nat_lt a (w.origin + w.readonly)) false

abbrev pub guards : Window → Bool → ℕ → List Refusal
guards w store a = refusal ReadOnly (guarded store a w) a ∷ []

-- 6 and 7, whatever may be reached in the window
abbrev pub placed : ℕ → ℕ → Transfer → ℕ → List Refusal
placed origin len t a =
    refusal Misaligned (misaligned t.ordered (total_of t) a) a
    ∷ refusal Misaligned (unaligned t.exclusive (total_of t) a) a
    ∷ refusal OutOfWindow (outside (total_of t) a origin len) a
    ∷ []

-- the admission of a plugin alone
unfoldable pub admit_of : Window → ℕ → Transfer → ℕ → List Refusal
admit_of w len t a = placed w.origin len t a ++ guards w t.store a
