-- The two pieces of a hint: computed for all 32. Assumes nothing.
use Prim.Native.Nat.{ℕ, ◌+◌, ◌*◌, ◌/◌, ◌%◌, ◌^◌, ◌≤◌, ◌<◌}
use mathlib.Core.Path.{◌≡◌, refl, sym, ap, ◌∙◌}
use mathlib.Core.Bool.{Bool, true, false, ◌&&◌, ◌||◌, false≢true}
use mathlib.Core.List.{List, [], ◌++◌, append_assoc, append-nil}
use native.Mathlib.Nat.{pow-le-pow_right, lt_of_lt_of_le, add_comm}
use native.Mathlib.Omega.{arith}
use lib.Arith.{digits_lt}
use lib.Dec.{ltb, lit<}
use lib.ListN.{length}
use lib.Pow.{pow-add}
use Rattle.bits.specs.Choice.{pick}
use Rattle.bits.specs.Fields.{part}
use Rattle.bits.specs.Bytes.{bytes_of}
use Rattle.bits.proofs.Choices.{both, tested}
use Rattle.bits.proofs.Bytes.{length_bytes, bytes_more, bytes_low}
use Rattle.ascii.specs.Ascii.{asc}
use Rattle.mnemonic.proofs.Told.{same, same_is}
use Rattle.text.specs.Hints.{hint_kind, hint_level, hint_policy, unnamed, hint_text}
use Rattle.text.specs.declared.piece.Piece.{Piece}
use Rattle.text.specs.route.Pieces.{text_in, Leads, Shows}
use Rattle.text.proofs.Packing.{constant}
use Rattle.text.specs.route.Hints.{kind_bytes, policy_bytes}
use Rattle.text.specs.route.Lines.{hint_front, hint_rest}

-- ---- a text is the two pieces

two_parts : (u : Bool) (h k p c : List ℕ) → pick u (pick u h (k ++ p) ++ c) k ++ pick u [] (p ++ c) ≡ pick u h (k ++ p) ++ c
two_parts true h k p c = append-nil (h ++ c)
two_parts false h k p c = sym (append_assoc k p c)

pub hint_parts : (r : ℕ) → hint_front r ++ hint_rest r ≡ hint_text r ++ asc ", "
unfolding hint_text
hint_parts r = two_parts (unnamed r) _ (hint_kind r ++ hint_level r) (hint_policy r) (asc ", ")

-- ---- the first

other : (a b : Bool) → a ≡ false → (a || b) ≡ true → b ≡ true
other true b e h = absurd (false≢true (sym e))
other false b e h = h

front_bytes : ℕ → ℕ
front_bytes n = 0x316c_0000_0020 + kind_bytes (n / 8) * 256 + n / 2 % 4 * 0x100_0000_0000

front_test : ℕ → Bool
front_test n = unnamed n || (same (bytes_of 6 (front_bytes n)) (asc " " ++ hint_front n) && ltb (front_bytes n) (256 ^ 6))

front_tested : (n : ℕ) → n < 32 → unnamed n ≡ false → (same (bytes_of 6 (front_bytes n)) (asc " " ++ hint_front n) ≡ true) × (ltb (front_bytes n) (256 ^ 6) ≡ true)
unfolding front_test front_bytes same bytes_of part
front_tested n h u = both (same (bytes_of 6 (front_bytes n)) (asc " " ++ hint_front n)) (ltb (front_bytes n) (256 ^ 6)) (other (unnamed n) _ u (tested 32 front_test refl n h))

pub front_named : (n : ℕ) {q : Piece} → n < 32 → unnamed n ≡ false → q.bytes ≡ 0x316c_0000_0020 + kind_bytes (n / 8) * 256 + n / 2 % 4 * 0x100_0000_0000 → q.length ≡ 6
    → Shows (asc " " ++ hint_front n) q
unfolding front_bytes
front_named n h u e l = constant e l (same_is (bytes_of 6 (front_bytes n)) (asc " " ++ hint_front n) (front_tested n h u).0)

-- ---- the second, before another piece

rest_test : ℕ → Bool
rest_test n = unnamed n || same (bytes_of 6 (policy_bytes (n % 2))) (hint_rest n)

rest_bytes : (n : ℕ) → n < 32 → unnamed n ≡ false → bytes_of 6 (policy_bytes (n % 2)) ≡ hint_rest n
unfolding rest_test same bytes_of part
rest_bytes n h u = same_is (bytes_of 6 (policy_bytes (n % 2))) (hint_rest n) (other (unnamed n) _ u (tested 32 rest_test refl n h))

six_before : (x y l : ℕ) → x < 2 ^ 48 → bytes_of (l + 6) (x + y * 281474976710656) ≡ bytes_of 6 x ++ bytes_of l y
six_before x y l h =
    let e : (x + y * 281474976710656) / 256 ^ 6 ≡ y = omega arith in
    ap (λ (k : ℕ). bytes_of k (x + y * 281474976710656)) (add_comm l 6) ∙ bytes_more 6 l (x + y * 281474976710656) ∙ rw (e, bytes_low 6 x y)

pub small : (p : Piece) → p.length ≤ 2 → p.bytes < 65536
small p h = lt_of_lt_of_le p.low (pow-le-pow_right (lit< tt) h)

pub itself_led : (p : Piece) → Leads [] p p
itself_led p = record { text = refl; longer = omega arith }

pub rest_named : (n : ℕ) (p q : Piece) {x : ℕ} → n < 32 → unnamed n ≡ false → x ≡ policy_bytes (n % 2) → x < 2 ^ 48
    → q.bytes ≡ x + p.bytes * 0x1_0000_0000_0000 → q.length ≡ p.length + 6 → Leads (hint_rest n) p q
unfolding text_in
rest_named n p q {x} h u e b f l =
    let t = ap (bytes_of 6) e ∙ rest_bytes n h u in
    record {
      text = rw (f, l) (six_before x p.bytes p.length b ∙ ap (λ (k : List ℕ). k ++ bytes_of p.length p.bytes) t);
      longer = omega (arith, sym (length_bytes 6 x) ∙ ap length t);
    }

pub rest_low : (p : Piece) (x : ℕ) → x < 2 ^ 48 → x + p.bytes * 0x1_0000_0000_0000 < 256 ^ (p.length + 6)
rest_low p x b = rw (pow-add 256 p.length 6) (omega (arith, digits_lt p.low b))
