-- When two instructions have the same numbers. Assumes nothing.
use Prim.Native.Nat.{ℕ}
use mathlib.Core.Path.{◌≡◌, refl}
use mathlib.Core.Bool.{Bool, true, ◌&&◌}
use mathlib.Core.Logic.{◌↔◌}
use lib.Dec.{eqb}
use lib.IntN.{ℤ}
use borrow.Author.Tests.{eqb-true, eq-eqb}
use Rattle.std.proofs.Common.{int_eq}
use Rattle.std.proofs.lemmas.Bool.Decides.{Decides-int_eq}
use Rattle.bits.proofs.Choices.{both}
use Rattle.plain.specs.declared.record.Plain.{Plain}

equal : (n : ℕ) → eqb n n ≡ true
equal n = eq-eqb n n refl

-- as a derived comparison goes
abbrev pub same : Plain → Plain → Bool
same a b =
    eqb a.family b.family && (eqb a.operation b.operation && (eqb a.direction b.direction && (eqb a.bytes b.bytes
    && (eqb a.target b.target && (eqb a.second b.second && (eqb a.base b.base
    && (eqb a.index b.index && (eqb a.option b.option && (eqb a.scaled b.scaled
    && (eqb a.mode b.mode && (eqb a.status b.status && int_eq a.offset b.offset)))))))))))

-- numbers that are the same one for one
one_for_one : {f g o p d e n m t u s v b c i j k l x y h q r w : ℕ} {z z' : ℤ} → f ≡ g → o ≡ p → d ≡ e → n ≡ m → t ≡ u → s ≡ v → b ≡ c → i ≡ j → k ≡ l → x ≡ y → h ≡ q → r ≡ w → z ≡ z'
    → ◌≡◌ {A = Plain}
    (record { family = f; operation = o; direction = d; bytes = n; target = t; second = s; base = b; index = i; option = k; scaled = x; mode = h; status = r; offset = z })
    (record { family = g; operation = p; direction = e; bytes = m; target = u; second = v; base = c; index = j; option = l; scaled = y; mode = q; status = w; offset = z' })
one_for_one a b c d e f g h i j k l m = rw (a, b, c, d, e, f, g, h, i, j, k, l, m)

pub same_numbers : (a b : Plain) → (same a b ≡ true) ↔ (a ≡ b)
same_numbers a b = (
  (λ h.
      let (family, h1) = both _ _ h in
      let (operation, h2) = both _ _ h1 in
      let (direction, h3) = both _ _ h2 in
      let (bytes, h4) = both _ _ h3 in
      let (target, h5) = both _ _ h4 in
      let (second, h6) = both _ _ h5 in
      let (base, h7) = both _ _ h6 in
      let (index, h8) = both _ _ h7 in
      let (option, h9) = both _ _ h8 in
      let (scaled, h10) = both _ _ h9 in
      let (mode, h11) = both _ _ h10 in
      let (status, offset) = both _ _ h11 in
      one_for_one (eqb-true _ _ family) (eqb-true _ _ operation) (eqb-true _ _ direction) (eqb-true _ _ bytes) (eqb-true _ _ target) (eqb-true _ _ second)
      (eqb-true _ _ base) (eqb-true _ _ index) (eqb-true _ _ option) (eqb-true _ _ scaled) (eqb-true _ _ mode) (eqb-true _ _ status) ((Decides-int_eq _ _).0 offset)),
  λ e. rw e (simp (equal, (Decides-int_eq b.offset b.offset).1 refl)),
)
