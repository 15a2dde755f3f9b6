-- The rule of the entries, both ways: an entry names the rows that some word with its ten bits matches, and no others.
-- Assumes nothing.
use Prim.Native.Nat.{ℕ, ◌+◌, ◌*◌, ◌^◌, ◌<◌}
use mathlib.Core.Path.{◌≡◌, refl, sym, ap, ◌∙◌}
use mathlib.Core.Bool.{true}
use mathlib.Core.Logic.{◌↔◌}
use native.Mathlib.Omega.{arith}
use lib.ListN.{get_or}
use Rattle.bits.specs.Fields.{part, field, has}
use Rattle.bits.proofs.Parts.{part_lt}
use Rattle.instruction.specs.declared.row.Row.{Row}
use Rattle.instruction.specs.Table.{columns_of, matches}
use Rattle.lookup.specs.Entries.{lower, allows, families_in, code_in, names, operation_code, entries, Allowed}
use Rattle.lookup.proofs.Rule.{names_allowed, entry_is}
use Rattle.lookup.proofs.Same.{matched, allowed, code_same}

-- a word with these ten bits, this bit 21, this bit 15 and these bits 11..10
abbrev made : ℕ → ℕ → ℕ → ℕ → ℕ
made ten a b d = ten * 2 ^ 22 + (a * 2 ^ 21 + (b * 2 ^ 15 + d * 2 ^ 10))

record Made (ten a b d : ℕ) : Type 0 where
  fits : made ten a b d < 2 ^ 32
  above : part 22 10 (made ten a b d) ≡ ten
  one : part 21 1 (made ten a b d) ≡ a
  low : part 15 1 (made ten a b d) ≡ b
  two : part 10 2 (made ten a b d) ≡ d

making : (ten a b d : ℕ) → ten < 1024 → a < 2 → b < 2 → d < 4 → Made ten a b d
unfolding part
making ten a b d h p q r = record { fits = omega arith; above = omega arith; one = omega arith; low = omega arith; two = omega arith }

module _ (ten : ℕ) (h : ten < 1024) where
  made_of : (a b d : ℕ) (r : Row) → Made ten a b d → allows ten r ≡ true → has (made ten a b d) (lower (columns_of r).fixed) ≡ true → Allowed ten r
  made_of a b d r m al low =
      record { word = made ten a b d; fits = m.fits; bits = m.above; matching = matched (made ten a b d) r ∙ rw (m.above, al, low) }

  some : (r : Row) → ¬ (r ≡ Row.NoRow) → allows ten r ≡ true → Allowed ten r
  some Row.NoRow n al = absurd (n refl)
  some Row.LiteralRow n al = let m = making ten 0 0 0 h (omega arith) (omega arith) (omega arith) in made_of 0 0 0 Row.LiteralRow m al refl
  some Row.PairRow n al = let m = making ten 0 0 0 h (omega arith) (omega arith) (omega arith) in made_of 0 0 0 Row.PairRow m al refl
  some Row.OrderedRow n al = let m = making ten 0 0 0 h (omega arith) (omega arith) (omega arith) in made_of 0 0 0 Row.OrderedRow m al (rw (m.one, m.two))
  some Row.UnscaledRow n al = let m = making ten 0 0 0 h (omega arith) (omega arith) (omega arith) in made_of 0 0 0 Row.UnscaledRow m al (rw (m.one, m.two))
  some Row.PostRow n al = let m = making ten 0 0 1 h (omega arith) (omega arith) (omega arith) in made_of 0 0 1 Row.PostRow m al (rw (m.one, m.two))
  some Row.PreRow n al = let m = making ten 0 0 3 h (omega arith) (omega arith) (omega arith) in made_of 0 0 3 Row.PreRow m al (rw (m.one, m.two))
  some Row.RegisterRow n al = let m = making ten 1 0 2 h (omega arith) (omega arith) (omega arith) in made_of 1 0 2 Row.RegisterRow m al (rw (m.one, m.two))
  some Row.UnsignedRow n al = let m = making ten 0 0 0 h (omega arith) (omega arith) (omega arith) in made_of 0 0 0 Row.UnsignedRow m al refl
  some Row.LoadExclusiveRow n al = let m = making ten 0 0 0 h (omega arith) (omega arith) (omega arith) in made_of 0 0 0 Row.LoadExclusiveRow m al (rw m.one)
  some Row.StoreExclusiveRow n al = let m = making ten 0 0 0 h (omega arith) (omega arith) (omega arith) in made_of 0 0 0 Row.StoreExclusiveRow m al (rw m.one)
  some Row.AcquireReleaseRow n al = let m = making ten 0 1 0 h (omega arith) (omega arith) (omega arith) in made_of 0 1 0 Row.AcquireReleaseRow m al (rw (m.one, m.low))

  names_entry : (r : Row) → ¬ (r ≡ Row.NoRow) → names (families_in (get_or entries ten 0)) r ≡ allows ten r
  names_entry r n = ap (λ (e : ℕ). names (families_in e) r) (entry_is ten h) ∙ names_allowed ten h r n

  -- an entry names exactly the rows that its ten bits allow
  pub entry_names : (r : Row) → ¬ (r ≡ Row.NoRow) → (names (families_in (get_or entries ten 0)) r ≡ true) ↔ Allowed ten r
  entry_names r n = ((λ e. some r n (sym (names_entry r n) ∙ e)), (λ a. names_entry r n ∙ ap (λ (t : ℕ). allows t r) (sym a.bits) ∙ allowed a.word r a.matching))

-- and gives their operation code
pub entry_code : (w : ℕ) (r : Row) → ¬ (r ≡ Row.NoRow) → matches w r ≡ true → code_in (get_or entries (field 31 22 w) 0) ≡ operation_code r w
entry_code w r n m = ap code_in (entry_is (part 22 10 w) (part_lt 22 10 w)) ∙ code_same w r n m
