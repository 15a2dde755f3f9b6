-- The bytes of a number that are not 0, all at once: `and` and `or` go byte by byte (`and_block`, `or_block` of lib.Bits), and one
-- byte is computed. Assumes nothing.
use Prim.Native.Nat.{ℕ, zero, suc, ◌+◌, ◌*◌, ◌/◌, ◌%◌, ◌<◌}
use mathlib.Core.Path.{◌≡◌, refl, ap, ◌∙◌}
use mathlib.Core.List.{map}
use native.Mathlib.Omega.{arith}
use borrow.Author.Tests.{eqb-true}
use lib.Bits.{bit_and, bit_or, and_zero_r, and_mask, and_block, or_block, or_lt}
use lib.Dec.{eqb, lit<}
use lib.ListN.{replicate}
use Rattle.bits.specs.Bytes.{bytes_of, joined}
use Rattle.bits.proofs.Choices.{tested}
use Rattle.memory.specs.Taints.{normal}

-- n bytes that are all the same
abbrev pub each : ℕ → ℕ → ℕ
each c n = joined (replicate n c)

-- what is done to a number of n bytes
abbrev pub seventh : ℕ → ℕ → ℕ
seventh n v = bit_and (bit_or (bit_and v (each 127 n) + each 127 n) v) (each 128 n)

-- to one byte
byte_seventh : (b : ℕ) → b < 256 → bit_and (bit_or (b % 128 + 127) b) 128 ≡ normal b * 128
byte_seventh b h = eqb-true _ _ (tested 256 (λ b. eqb (bit_and (bit_or (b % 128 + 127) b) 128) (normal b * 128)) refl b h)

-- to a lowest byte and those above it
next_seventh : (n w b : ℕ) → b < 256 → seventh (suc n) (w * 256 + b) ≡ seventh n w * 256 + normal b * 128
unfolding joined
next_seventh n w b h =
    let l = each 127 n in
    let x = bit_and w l + l in
    let y = b % 128 + 127 in
    let front : (c : ℕ) → c + each c n * 256 ≡ each c n * 256 + c = λ c. omega arith in
    let low : bit_and (w * 256 + b) (127 + l * 256) ≡ bit_and w l * 256 + b % 128 =
    ap (bit_and (w * 256 + b)) (front 127) ∙ and_block 8 w l b 127 h (lit< tt) ∙ ap (λ (z : ℕ). bit_and w l * 256 + z) (and_mask b 7) in
    let sum : bit_and w l * 256 + b % 128 + (127 + l * 256) ≡ x * 256 + y = omega arith in
    let any : bit_or (x * 256 + y) (w * 256 + b) ≡ bit_or x w * 256 + bit_or y b = or_block 8 x w y b (omega arith) h in
    let top : bit_and (bit_or x w * 256 + bit_or y b) (128 + each 128 n * 256) ≡ bit_and (bit_or x w) (each 128 n) * 256 + bit_and (bit_or y b) 128 =
    ap (bit_and (bit_or x w * 256 + bit_or y b)) (front 128) ∙ and_block 8 (bit_or x w) (each 128 n) (bit_or y b) 128 (or_lt 8 y b (omega arith) h) (lit< tt) in
    rw (low, sum, any, top, byte_seventh b h)

pub seventh_is : (n v : ℕ) → seventh n v ≡ joined (map normal (bytes_of n v)) * 128
unfolding joined bytes_of
seventh_is zero v = and_zero_r (bit_or (bit_and v 0 + 0) v)
seventh_is (suc n) v =
    let split : v ≡ v / 256 * 256 + v % 256 = omega arith in
    ap (seventh (suc n)) split ∙ next_seventh n (v / 256) (v % 256) (omega arith) ∙ rw (seventh_is n (v / 256)) (omega arith)
