-- The word of fields that have room. An offset's bits do. Assumes nothing.
use Prim.Native.Nat.{ℕ, ◌+◌, ◌*◌, ◌<◌}
use mathlib.Core.Path.{◌≡◌, ap}
use mathlib.Core.Bool.{true, ◌&&◌, and-true}
use mathlib.Core.List.{List, [], ◌∷◌}
use native.Mathlib.Omega.{arith}
use lib.Dec.{ltb}
use lib.IntN.{ℤ}
use borrow.Author.Tests.{lt-ltb}
use Rattle.std.specs.Prelude.{Some, None}
use Rattle.bits.specs.Choice.{pick}
use Rattle.bits.specs.Fields.{Bits, bits, fit, placed}
use Rattle.bits.specs.Signed.{bits_of, plain_bits_of}
use Rattle.bits.proofs.Offsets.{signed_back, plain_is}
use Rattle.instruction.specs.declared.operation.SizedOp.{SizedOp}
use Rattle.instruction.proofs.Codes.{sized}
use Rattle.encoder.specs.Encoding.{word_with, sized_fields}
use Rattle.encoder.specs.route.Sized.{sized_word}

-- ---- the bits of an offset

pub signed_below : (half scale b : ℕ) (z : ℤ) → bits_of half scale z ≡ Some b → b < 2 * half
signed_below half scale b z h = (signed_back half scale b z h).0

pub plain_below : (limit scale b : ℕ) (z : ℤ) → plain_bits_of limit scale z ≡ Some b → b < limit
plain_below limit scale b z h = (plain_is limit scale b z h).0

-- ---- the word of fields

pub word_is : (f : ℕ) (fs : List Bits) {w : ℕ} → fit fs ≡ true → w ≡ f + placed fs → Some w ≡ word_with f fs
unfolding word_with
word_is f fs t e = rw t (ap Some e)

-- those of a family with a size
module _ (f : ℕ) (op : SizedOp) (base target : ℕ) where
  sized_is : (own : List Bits) {w : ℕ} → fit own ≡ true → w ≡ f + placed own → sized_word op base target w ≡ word_with f (sized_fields op base target own)
  unfolding sized_word word_with
  sized_is own {w} t e =
      let s = sized op in
      simp (lt-ltb _ _ s.size, lt-ltb _ _ s.vector, lt-ltb _ _ s.opc, t, and-true)
      (ap (λ (n : ℕ). pick (ltb base 32 && ltb target 32) (Some n) None) (omega arith))

  -- imm9
  pub signed_is : (b : ℕ) → b < 512 → sized_word op base target (f + b * 0x1000) ≡ word_with f (sized_fields op base target (bits 20 12 b ∷ []))
  signed_is b h = sized_is (bits 20 12 b ∷ []) (simp (lt-ltb _ _ h)) (omega arith)

  -- imm12
  pub unsigned_is : (b : ℕ) → b < 4096 → sized_word op base target (f + b * 0x400) ≡ word_with f (sized_fields op base target (bits 21 10 b ∷ []))
  unsigned_is b h = sized_is (bits 21 10 b ∷ []) (simp (lt-ltb _ _ h)) (omega arith)
