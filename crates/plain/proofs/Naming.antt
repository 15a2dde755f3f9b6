-- The instruction that its own numbers name is itself. Assumes nothing.
use Prim.Native.Nat.{ℕ, ◌+◌, ◌*◌, ◌/◌, ◌%◌, ◌<◌}
use mathlib.Core.Path.{◌≡◌, refl, ap}
use mathlib.Core.Bool.{false}
use native.Mathlib.Omega.{arith}
use lib.Dec.{ltb}
use borrow.Author.Tests.{lt-ltb}
use Rattle.instruction.specs.declared.exclusive.AccessSize.{AccessSize}
use Rattle.instruction.specs.declared.exclusive.ExclusiveOp.{ExclusiveOp}
use Rattle.instruction.specs.declared.family.Family.{Family}
use Rattle.instruction.specs.declared.family.Instruction.{Instruction}
use Rattle.instruction.specs.Operations.{access_scale, exclusive_code, store_exclusive_code}
use Rattle.instruction.proofs.Codes.{sized_whole, literal_whole, pair_whole, mode_at_lem, exclusive_at_lem, store_exclusive_at_lem, size_at_lem, exclusive_below, store_exclusive_below}
use Rattle.plain.specs.Plains.{plain_of, family_plain}
use Rattle.plain.specs.route.Named.{family_named, instruction_named}

-- size and code of the ninth family, from the number that has them side by side
size_apart : (s : AccessSize) (k : ℕ) → k < 8 → (access_scale s * 8 + k) / 8 ≡ access_scale s
size_apart s k h = omega (arith, h)

code_apart : (s : AccessSize) (k : ℕ) → k < 8 → (access_scale s * 8 + k) % 8 ≡ k
code_apart s k h = omega (arith, h)

no_store : (op : ExclusiveOp) → ltb (exclusive_code op) 2 ≡ false
no_store ExclusiveOp.LoadExclusive = refl
no_store ExclusiveOp.LoadAcquireExclusive = refl
no_store ExclusiveOp.StoreRelease = refl
no_store ExclusiveOp.LoadAcquire = refl

family_back : (f : Family) → family_named (family_plain f) ≡ f
family_back Family.Empty = refl
family_back (Family.Literal op o) = rw (literal_whole op)
family_back (Family.Pair op o) = rw (pair_whole op, mode_at_lem o.mode)
family_back (Family.Ordered op o) = rw (sized_whole op)
family_back (Family.Unscaled op o) = rw (sized_whole op)
family_back (Family.PostIndex op o) = rw (sized_whole op)
family_back (Family.PreIndex op o) = rw (sized_whole op)
family_back (Family.Register op o) = rw (sized_whole op)
family_back (Family.Unsigned op o) = rw (sized_whole op)
family_back (Family.Exclusive op o) =
    let k = exclusive_below op in
    rw (code_apart o.size _ k, size_apart o.size _ k, no_store op, exclusive_at_lem op, size_at_lem o.size)
family_back (Family.StoreExclusive op o) =
    let k : store_exclusive_code op < 8 = omega (arith, store_exclusive_below op) in
    rw (code_apart o.size _ k, size_apart o.size _ k, lt-ltb _ 2 (store_exclusive_below op), store_exclusive_at_lem op, size_at_lem o.size)

pub named_back : (i : Instruction) → instruction_named (plain_of i) ≡ i
unfolding instruction_named plain_of
named_back i = ap (λ (f : Family). record { family = f }) (family_back i.family)
