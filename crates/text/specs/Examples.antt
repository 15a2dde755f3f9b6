-- 01's starred examples as one list: "Examples, starred ones proved"; and examples of 02, CR 3.
use Rattle.std.specs.Prelude.{ℕ, ◌≡◌, true, List, [], ◌∷◌}
use Prim.Native.String.{String}
use Rattle.instruction.specs.Answers.{answer_number}
use Rattle.instruction.specs.Table.{allocated}
use Rattle.decoder.specs.Decoding.{class_of}
use Rattle.ascii.specs.Ascii.{asc}
use Rattle.text.specs.Texts.{word_text}

-- an allocated word with its text, or a word with its answer
pub data Example : Type 0 where
  line : ℕ → String → Example
  answer : ℕ → ℕ → Example

abbrev pub Holds : List Example → Type 0
Holds [] = Unit {0}
Holds (line w t ∷ es) = (allocated w ≡ true) × (word_text w ≡ asc t) × Holds es
Holds (answer w n ∷ es) = (answer_number (class_of w) ≡ n) × Holds es

abbrev pub examples : List Example
examples =
    line 0x385ff020 "ldurb w0, [x1, #-1]"
    ∷ line 0xf9400420 "ldr x0, [x1, #8]"
    ∷ line 0xf84107e0 "ldr x0, [sp], #16"
    ∷ line 0xa9bf7bfd "stp x29, x30, [sp, #-16]!"
    ∷ line 0x38e4c862 "ldrsb w2, [x3, w4, sxtw]"
    ∷ line 0x198000c5 "ldapursb x5, [x6]"
    ∷ line 0x58ffffe7 "ldr x7, #-4"
    ∷ line 0xf8800020 "prfum pldl1keep, [x1]"
    ∷ line 0xc85f7c20 "ldxr x0, [x1]"
    ∷ line 0x085fffe0 "ldaxrb w0, [sp]"
    ∷ line 0xc8dffc20 "ldar x0, [x1]"
    ∷ line 0x089ffc20 "stlrb w0, [x1]"
    ∷ line 0xc8027c20 "stxr w2, x0, [x1]"
    ∷ line 0x4802fc20 "stlxrh w2, w0, [x1]"
    ∷ line 0x881f7fe0 "stxr wzr, w0, [sp]"
    ∷ line 0x3ce27820 "ldr q0, [x1, x2, lsl #4]"
    ∷ line 0x6dbf27e8 "stp d8, d9, [sp, #-16]!"
    ∷ line 0x1cffffe3 "ldr s3, #-4"
    ∷ line 0x7c5fe041 "ldur h1, [x2, #-2]"
    ∷ line 0x3c3f7bff "str b31, [sp, xzr, lsl #0]"
    ∷ line 0x2c7f7fff "ldnp s31, s31, [sp, #-8]"
    ∷ line 0x3d80003f "str q31, [x1]"
    ∷ answer 0x7c800020 3
    ∷ answer 0x2c7f7fff 4
    ∷ answer 0x1d000000 2
    ∷ answer 0xfc408421 0
    ∷ answer 0xb8c00020 3
    ∷ answer 0x38e00862 3
    ∷ answer 0xa9400020 4
    ∷ answer 0xc85f0020 3
    ∷ answer 0xc85e7c20 3
    ∷ answer 0xc8017c20 4
    ∷ answer 0xc8027c22 4
    ∷ answer 0xc8827c20 2
    ∷ []
