-- What a mnemonic and the letter of its first operand are as the code has them.
use Rattle.std.specs.Prelude.{ℕ, ◌/◌, ◌%◌, ◌^◌, Bool, true, ◌&&◌, List, nat_le, nat_lt}
use Rattle.bits.specs.Bytes.{bytes_of}
use Rattle.mnemonic.specs.Operands.{Operand, letter_of}
use Rattle.mnemonic.specs.declared.Mnemonic.{Mnemonic}

-- its letters, the letter of the operand, and whether there are at most eight letters and nothing above them
pub record Known : Type 0 where
  pub letters : List ℕ
  pub letter : ℕ
  pub fits : Bool

abbrev pub known : Mnemonic → Known
known m =
    record {
      letters = bytes_of (m.shape % 256) m.letters;
      letter = m.shape / 256;
      fits = nat_le (m.shape % 256) 8 && nat_lt m.letters (256 ^ (m.shape % 256));
    }

abbrev pub told : List ℕ → Operand → Known
told name operand = record { letters = name; letter = letter_of operand; fits = true }
