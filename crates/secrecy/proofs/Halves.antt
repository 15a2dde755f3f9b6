-- Copies, signs and constants keep each view. Assumes nothing.
use Prim.Native.Nat.{ℕ}
use mathlib.Core.Path.{◌≡◌, refl, ap}
use mathlib.Core.Bool.{Bool, true, false}
use mathlib.Core.Logic.{inl}
use Rattle.memory.specs.Taints.{tainted}
use Rattle.memory.specs.route.Values.{sign_copy}
use Rattle.secrecy.specs.Halves.{Secret, Opposed}
use Rattle.secrecy.specs.route.Alike.{by_taint, exactly, Copied}

secret_sign : (q : Bool) (a b : ℕ) → Secret q a b → Secret q (sign_copy a) (sign_copy b)
secret_sign true a b r = tt
secret_sign false a b r = ap sign_copy r

-- a view by taint
by_taint_lem : (related : Bool → ℕ → ℕ → Type 0) → ((a b : ℕ) → related false a b → a ≡ b) → ((a : ℕ) → related false a a)
    → ((q : Bool) (a b : ℕ) → related q a b → related q (sign_copy a) (sign_copy b)) → Copied (by_taint related)
by_taint_lem related equal alike sign = record { itself = λ k. refl; sharp = λ k l e. e; still = λ r. inl refl; agree = λ r s h. h; equal = equal; alike = alike; sign = sign }

pub secret : Copied (by_taint Secret)
secret = by_taint_lem Secret (λ a b r. r) (λ a. refl) secret_sign

-- the sign of 0 is 0, and of 255 it is 255
opposed_sign : (q : Bool) (a b : ℕ) → Opposed q a b → Opposed q (sign_copy a) (sign_copy b)
opposed_sign true a b r = (ap sign_copy r.0, ap sign_copy r.1)
opposed_sign false a b r = ap sign_copy r

pub opposed : Copied (by_taint Opposed)
opposed = by_taint_lem Opposed (λ a b r. r) (λ a. refl) opposed_sign

-- and where all is the same they change nothing
pub exact : Copied exactly
exact = record { itself = λ k. refl; sharp = λ k l e. ap tainted e; still = λ r. refl; agree = λ r s e. inl e; equal = λ a b e. e; alike = λ a. refl; sign = λ q a b e. ap sign_copy e }
