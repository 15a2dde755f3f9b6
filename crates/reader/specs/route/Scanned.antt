-- A scanned text as the definitions speak of it: the keys of its words, their numbers, and the word that the scan is in.
use Rattle.std.specs.Prelude.{ℕ, List, map}
use Rattle.reader.specs.declared.scan.Word.{Word}
use Rattle.reader.specs.declared.scan

pub record Scan : Type 0 where
  pub keys : List ℕ
  pub nums : List ℕ
  pub at : ℕ

-- what the code's scan says
abbrev pub scan_of : scan.Scan.Scan → Scan
scan_of s = record { keys = map (λ (w : Word). w.key) s.words; nums = map (λ (w : Word). w.number) s.words; at = s.at }
