-- 01's examples on the definitions: the instructions of the starred words, and the starred answers; and some of 02, CR 3. Assumes nothing.
use Prim.Native.Nat.{ℕ}
use mathlib.Core.Path.{◌≡◌, refl}
use mathlib.Core.Bool.{Bool, true, false}
use mathlib.Core.List.{List, [], ◌∷◌}
use lib.IntN.{pos, negsuc}
use Rattle.bits.specs.Fields.{part}
use Rattle.bits.specs.Signed.{signed_of}
use Rattle.instruction.specs.Types.{Family, SizedOp, PairOp, LiteralOp, PairMode, AccessSize, ExclusiveOp, StoreExclusiveOp}
use Rattle.instruction.specs.Operations.{sized_at, literal_at, pair_at, mode_at, exclusive_at, store_exclusive_at, size_at}
use Rattle.instruction.specs.Undefined.{undefined_size, undefined_prefetch, undefined_option, undefined_literal, undefined_pair, undefined_second, undefined_unused}
use Rattle.instruction.specs.Unpredictable.{base_is, over_base, unpredictable_pair, unpredictable_status}
use Rattle.instruction.specs.Operands.{sized_in, literal_op_in, literal_in, pair_op_in, pair_in, signed_in, index_in, unsigned_in, exclusive_op_in, store_exclusive_op_in, exclusive_in, store_exclusive_in}
use Rattle.instruction.specs.Table.{in_set, row_of, undefined, unpredictable, instruction_of}

abbrev Decodes : List (ℕ × Family) → Type 0
Decodes [] = Unit {0}
Decodes (e ∷ es) = (instruction_of e.0 ≡ record { family = e.1 }) × Decodes es

abbrev examples : List (ℕ × Family)
examples =
    (0x385ff020, Family.Unscaled SizedOp.LoadByte (record { target = 0; base = 1; offset = negsuc 0 }))
    ∷ (0xf9400420, Family.Unsigned SizedOp.LoadDouble (record { target = 0; base = 1; offset = pos 8 }))
    ∷ (0xf84107e0, Family.PostIndex SizedOp.LoadDouble (record { target = 0; base = 31; offset = pos 16 }))
    ∷ (0xa9bf7bfd, Family.Pair PairOp.StoreDoubles (record { first = 29; second = 30; base = 31; mode = PairMode.Pre; offset = negsuc 15 }))
    ∷ (0x38e4c862, Family.Register SizedOp.LoadSignedByte32 (record { target = 2; base = 3; index = 4; option = 6; scaled = 0 }))
    ∷ (0x198000c5, Family.Ordered SizedOp.LoadSignedByte64 (record { target = 5; base = 6; offset = pos 0 }))
    ∷ (0x58ffffe7, Family.Literal LiteralOp.LiteralDouble (record { target = 7; offset = negsuc 3 }))
    ∷ (0xf8800020, Family.Unscaled SizedOp.Prefetch (record { target = 0; base = 1; offset = pos 0 }))
    ∷ (0x390003ff, Family.Unsigned SizedOp.StoreByte (record { target = 31; base = 31; offset = pos 0 }))
    ∷ (0xc85f7c20, Family.Exclusive ExclusiveOp.LoadExclusive (record { size = AccessSize.Double; target = 0; base = 1 }))
    ∷ (0x085fffe0, Family.Exclusive ExclusiveOp.LoadAcquireExclusive (record { size = AccessSize.Byte; target = 0; base = 31 }))
    ∷ (0x889ffc20, Family.Exclusive ExclusiveOp.StoreRelease (record { size = AccessSize.Word; target = 0; base = 1 }))
    ∷ (0xc8dffc20, Family.Exclusive ExclusiveOp.LoadAcquire (record { size = AccessSize.Double; target = 0; base = 1 }))
    ∷ (0xc8027c20, Family.StoreExclusive StoreExclusiveOp.StorePlainExclusive (record { size = AccessSize.Double; status = 2; target = 0; base = 1 }))
    ∷ (0x4802fc20, Family.StoreExclusive StoreExclusiveOp.StoreReleaseExclusive (record { size = AccessSize.Half; status = 2; target = 0; base = 1 }))
    ∷ (0x3ce27820, Family.Register SizedOp.LoadVectorQuad (record { target = 0; base = 1; index = 2; option = 3; scaled = 1 }))
    ∷ (0x6dbf27e8, Family.Pair PairOp.StoreVectorDoubles (record { first = 8; second = 9; base = 31; mode = PairMode.Pre; offset = negsuc 15 }))
    ∷ (0x1cffffe3, Family.Literal LiteralOp.LiteralVectorWord (record { target = 3; offset = negsuc 3 }))
    ∷ (0x3dfffc3f, Family.Unsigned SizedOp.LoadVectorQuad (record { target = 31; base = 1; offset = pos 65520 }))
    ∷ []

pub starred_instructions : Decodes examples
unfolding instruction_of row_of part signed_of sized_at literal_at pair_at mode_at sized_in literal_op_in literal_in pair_op_in pair_in signed_in index_in unsigned_in
    exclusive_at store_exclusive_at size_at exclusive_op_in store_exclusive_op_in exclusive_in store_exclusive_in
starred_instructions = (refl, (refl, (refl, (refl, (refl, (refl, (refl, (refl, (refl, (refl, (refl, (refl, (refl, (refl, (refl, (refl, (refl, (refl, (refl, tt)))))))))))))))))))

-- whether a word is of the set, undefined and unpredictable
abbrev Sorted : List (ℕ × Bool × Bool × Bool) → Type 0
Sorted [] = Unit {0}
Sorted (e ∷ es) = (in_set e.0 ≡ e.1) × (undefined e.0 ≡ e.2) × (unpredictable e.0 ≡ e.3) × Sorted es

-- with the answers of the listing, a prefetch whose option bit 1 is 0, and of the ninth family ldar, stllr, an Rt2 and an Rs that
-- are not 31, and store-exclusives whose status is Rt, Rt as 31, Rn, Rn as 31, and neither where Rt is Rn
abbrev answered : List (ℕ × Bool × Bool × Bool)
answered =
    (0xb8c00020, true, true, false)
    ∷ (0x38e00862, true, true, false)
    ∷ (0xf8a00862, true, true, false)
    ∷ (0xa9400020, true, false, true)
    ∷ (0xf8408421, true, false, true)
    ∷ (0x91000000, false, false, false)
    ∷ (0x385ff020, true, false, false)
    ∷ (0xc8dffc20, true, false, false)
    ∷ (0xc8827c20, false, false, false)
    ∷ (0xc85f0020, true, true, false)
    ∷ (0xc85e7c20, true, true, false)
    ∷ (0xc8027c22, true, false, true)
    ∷ (0xc81f7c3f, true, false, true)
    ∷ (0xc8017c20, true, false, true)
    ∷ (0xc81f7fe0, true, false, false)
    ∷ (0xc8027c21, true, false, false)
    ∷ (0x1d400020, false, false, false)
    ∷ (0x7c800020, true, true, false)
    ∷ (0xdc000000, true, true, false)
    ∷ (0xec000000, true, true, false)
    ∷ (0x6cc00421, true, false, true)
    ∷ (0x6cc00821, true, false, false)
    ∷ (0xfc408421, true, false, false)
    ∷ []

pub starred_answers : Sorted answered
unfolding row_of in_set part undefined undefined_size undefined_prefetch undefined_option undefined_literal undefined_pair unpredictable base_is over_base unpredictable_pair
    undefined_second undefined_unused unpredictable_status
starred_answers =
    (refl, refl, refl, (refl, refl, refl, (refl, refl, refl, (refl, refl, refl, (refl, refl, refl, (refl, refl, refl, (refl, refl, refl, (refl, refl, refl, (refl, refl, refl, (refl, refl, refl, (refl, refl, refl, (refl, refl, refl, (refl, refl, refl, (refl, refl, refl, (refl, refl, refl, (refl, refl, refl, (refl, refl, refl, (refl, refl, refl, (refl, refl, refl, (refl, refl, refl, (refl, refl, refl, (refl, refl, refl, (refl, refl, refl, tt)))))))))))))))))))))))
