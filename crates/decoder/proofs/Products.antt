-- Negations of small numbers, as the proof of signed numbers meets them. Assumes nothing.
use Prim.Native.Nat.{ℕ, zero, suc, ◌^◌, ◌<◌}
use mathlib.Core.Path.{◌≡◌, ◌∙◌}
use native.Mathlib.Omega.{arith}
use lib.IntN.{pos, neg_ℤ, ◌-ℤ◌, +ℤ_idl}
use lib.Signed.{mag}
use mir.Syntax.{w64}
use mir.Val.{SFits, to_z, of_z}
use mir.Facts.{to_z_pos, to_z-of_z}

neg_mag : (m : ℕ) → m < 2 ^ 63 → mag (neg_ℤ (pos m)) < 2 ^ 63
neg_mag zero h = omega arith
neg_mag (suc m) h = omega arith

module _ (m : ℕ) (h : m < 2 ^ 63) where
  pub negated_fits : SFits w64 (pos 0 -ℤ to_z w64 m)
  negated_fits = rw (to_z_pos w64 h, +ℤ_idl (neg_ℤ (pos m))) (record { sfits = neg_mag m h })

  pub negated : to_z w64 (of_z w64 (pos 0 -ℤ to_z w64 m)) ≡ neg_ℤ (pos m)
  negated = to_z-of_z negated_fits ∙ rw (to_z_pos w64 h) (+ℤ_idl (neg_ℤ (pos m)))
