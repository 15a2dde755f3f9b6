-- The numbers of some words: of a family each, those of two kinds of the ninth, and a prefetch.
use Rattle.std.specs.Prelude.{ℕ, ◌≡◌, List, [], ◌∷◌, ℤ, pos, negsuc}
use Rattle.instruction.specs.Table.{instruction_of}
use Rattle.plain.specs.declared.record.Plain.{Plain}
use Rattle.plain.specs.Plains.{plain_of}

-- family, operation, direction and bytes; target, second and base; index, option and S; mode and status; offset
abbrev numbers : ℕ × ℕ × ℕ × ℕ → ℕ × ℕ × ℕ → ℕ × ℕ × ℕ → ℕ × ℕ → ℤ → Plain
numbers (f, o, d, n) (t, s, b) (i, k, x) (m, r) z =
    record {
      family = f;
      operation = o;
      direction = d;
      bytes = n;
      target = t;
      second = s;
      base = b;
      index = i;
      option = k;
      scaled = x;
      mode = m;
      status = r;
      offset = z;
    }

abbrev pub Holds : List (ℕ × Plain) → Type 0
Holds [] = Unit {0}
Holds (e ∷ es) = (plain_of (instruction_of e.0) ≡ e.1) × Holds es

-- ldr x7, #-4; stp x29, x30, [sp, #-16]!; ldapursb x5, [x6]; ldurb w0, [x1, #-1]; ldr x0, [sp], #16; ldr x0, [x1, #8]!;
-- ldrsb w2, [x3, w4, sxtw]; strb wzr, [sp]; ldar x0, [x1]; stlxrh w2, w0, [x1]; prfum pldl1keep, [x1]
abbrev pub examples : List (ℕ × Plain)
examples =
    (0x58ffffe7, numbers (1, 0b01, 1, 8) (7, 0, 0) (0, 0, 0) (0, 0) (negsuc 3))
    ∷ (0xa9bf7bfd, numbers (2, 0b10_0, 2, 16) (29, 30, 31) (0, 0, 0) (3, 0) (negsuc 15))
    ∷ (0x198000c5, numbers (3, 0b00_10, 1, 1) (5, 0, 6) (0, 0, 0) (0, 0) (pos 0))
    ∷ (0x385ff020, numbers (4, 0b00_01, 1, 1) (0, 0, 1) (0, 0, 0) (0, 0) (negsuc 0))
    ∷ (0xf84107e0, numbers (5, 0b11_01, 1, 8) (0, 0, 31) (0, 0, 0) (0, 0) (pos 16))
    ∷ (0xf8408c20, numbers (6, 0b11_01, 1, 8) (0, 0, 1) (0, 0, 0) (0, 0) (pos 8))
    ∷ (0x38e4c862, numbers (7, 0b00_11, 1, 1) (2, 0, 3) (4, 6, 0) (0, 0) (pos 0))
    ∷ (0x390003ff, numbers (8, 0b00_00, 2, 1) (31, 0, 31) (0, 0, 0) (0, 0) (pos 0))
    ∷ (0xc8dffc20, numbers (9, 0b11_111, 1, 8) (0, 0, 1) (0, 0, 0) (0, 0) (pos 0))
    ∷ (0x4802fc20, numbers (9, 0b01_001, 2, 2) (0, 0, 1) (0, 0, 0) (0, 2) (pos 0))
    ∷ (0xf8800020, numbers (4, 0b11_10, 0, 0) (0, 0, 1) (0, 0, 0) (0, 0) (pos 0))
    ∷ (0x1cffffe3, numbers (1, 0b1_00, 1, 4) (3, 0, 0) (0, 0, 0) (0, 0) (negsuc 3))
    ∷ (0xad7fffff, numbers (2, 0b1_10_1, 1, 32) (31, 31, 31) (0, 0, 0) (2, 0) (negsuc 15))
    ∷ (0x3c9f0420, numbers (5, 0b1_00_10, 2, 16) (0, 0, 1) (0, 0, 0) (0, 0) (negsuc 15))
    ∷ []
