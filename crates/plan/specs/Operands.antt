-- What an access reads to form its address: 01, "What a word says" and answer 5.
use Rattle.std.specs.Prelude.{ℕ, ◌%◌, ◌^◌, Bool, true, ◌||◌, List, ◌==◌, slice_index}
use Rattle.bits.specs.Choice.{pick}
use Rattle.memory.specs.Taints.{tainted}
use Rattle.registers.specs.File.{taint_in}
use Rattle.access.specs.declared.addressing.Addressing.{Addressing}
use Rattle.plan.specs.declared.operands.Operands.{Operands}

-- the part of an index that is used: "its low four" bytes "for uxtw and sxtw" (02, CR 13), options 010 and 110
unfoldable pub used_of : ℕ → ℕ → ℕ
used_of option x = pick (option == 0b010 || option == 0b110) (x % 2 ^ 32) x

-- 5: "a marked byte in the base or in the used part of the index"
abbrev pub tainted_in : Addressing → List ℕ → Bool
tainted_in a taints = pick (taint_in taints a.base) true (tainted (used_of a.option (slice_index taints a.index)))

abbrev pub operands_in : Addressing → ℕ → List ℕ → List ℕ → Operands
operands_in a pc values taints =
    record {
      base = pick a.relative pc (slice_index values a.base);
      index = slice_index values a.index;
      tainted = tainted_in a taints;
    }
