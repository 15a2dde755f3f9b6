-- The value of a digit without a table, tested for every byte. Assumes nothing.
use Rattle.std.proofs.Common.{◌≡◌, ℕ, ◌+◌, ◌*◌, ◌/◌, ◌%◌, ◌<◌, Bool, true, false, ◌&&◌, eqb, ltb, refl, eqb-true, ltb-true}
use Rattle.bits.specs.Choice.{pick}
use Rattle.bits.proofs.Choices.{both, tested}
use Rattle.image.specs.Lines.{digit_of}

value_test : ℕ → Bool
value_test c = pick (ltb (digit_of c) 16) (eqb (c % 16 + c / 64 * 9) (digit_of c) && ltb (c % 16 + c / 64 * 9) 16) (eqb (digit_of c) 16)

value_tested : (c : ℕ) → c < 256 → pick (ltb (digit_of c) 16) (eqb (c % 16 + c / 64 * 9) (digit_of c) && ltb (c % 16 + c / 64 * 9) 16) (eqb (digit_of c) 16) ≡ true
unfolding digit_of value_test
value_tested c h = tested 256 value_test refl c h

by_test : (d v : ℕ) (b : Bool) → pick b (eqb v d && ltb v 16) (eqb d 16) ≡ true → (b ≡ true → (v ≡ d) × (v < 16)) × (b ≡ false → d ≡ 16)
by_test d v true h =
    let t = both (eqb v d) (ltb v 16) h in
    ((λ e. (eqb-true v d t.0, ltb-true v 16 t.1)), (λ e. absurd (cc)))
by_test d v false h = ((λ e. absurd (cc)), (λ e. eqb-true d 16 h))

pub digit_none : (c : ℕ) (b : Bool) → c < 256 → b ≡ ltb (digit_of c) 16 → b ≡ false → digit_of c ≡ 16
digit_none c b h e f = (by_test (digit_of c) (c % 16 + c / 64 * 9) b (rw e (value_tested c h))).1 f

pub digit_value : (c : ℕ) (b : Bool) → c < 256 → b ≡ ltb (digit_of c) 16 → b ≡ true → (c % 16 + c / 64 * 9 ≡ digit_of c) × (c % 16 + c / 64 * 9 < 16)
digit_value c b h e f = (by_test (digit_of c) (c % 16 + c / 64 * 9) b (rw e (value_tested c h))).0 f
