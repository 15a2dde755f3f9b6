-- The words of a scan, as the code has them and as the definitions do. Assumes nothing.
use Prim.Native.Nat.{ℕ, ◌+◌, ◌*◌, ◌%◌}
use mathlib.Core.Path.{◌≡◌, refl, sym, ◌∙◌}
use lib.ListN.{get_or, get_or-map, set}
use lib.Seq.{map-set_same}
use Rattle.std.proofs.lemmas.List.{map-set}
use Rattle.reader.specs.declared.scan.Word.{Word}
use Rattle.reader.specs.declared.scan
use Rattle.reader.specs.route.Scanned.{scan_of}
use Rattle.reader.specs.route.Scan.{packed, keyed, digited}
use Rattle.reader.specs.route.Build.{key_in, num_in}

abbrev pub empty : Word
empty = record { key = 0; number = 0 }

-- the word at an index
abbrev pub held : scan.Scan.Scan → ℕ → Word
held s i = get_or s.words i empty

module _ (s : scan.Scan.Scan) where
  pub key_held : (i : ℕ) → key_in (scan_of s) i ≡ (held s i).key
  key_held i = get_or-map (λ (w : Word). w.key) s.words i empty

  pub num_held : (i : ℕ) → num_in (scan_of s) i ≡ (held s i).number
  num_held i = get_or-map (λ (w : Word). w.number) s.words i empty

  abbrev place : ℕ
  place = s.at % 8

  pub key_set : (byte : ℕ) {b : ℕ} → b ≡ byte
      → scan_of (record { words = set s.words place (record { key = packed (held s place).key b; number = (held s place).number }); at = s.at }) ≡ keyed (scan_of s) byte
  key_set byte {b} e =
      let w : Word = record { key = packed (held s place).key b; number = (held s place).number } in
      let k = map-set (λ (w : Word). w.key) s.words place w ∙ (λ i. set (scan_of s).keys place (packed (sym (key_held place) i) (e i))) in
      let n = map-set_same (λ (w : Word). w.number) s.words place w empty refl in
      λ i. record { keys = k i; nums = n i; at = s.at }

  pub num_set : (digit : ℕ) {d : ℕ} → d ≡ digit
      → scan_of (record { words = set s.words place (record { key = (held s place).key; number = (held s place).number % 1000000000000000000 * 10 + d }); at = s.at })
      ≡ digited (scan_of s) digit
  num_set digit {d} e =
      let w : Word = record { key = (held s place).key; number = (held s place).number % 1000000000000000000 * 10 + d } in
      let k = map-set_same (λ (w : Word). w.key) s.words place w empty refl in
      let n = map-set (λ (w : Word). w.number) s.words place w ∙ (λ i. set (scan_of s).nums place (sym (num_held place) i % 1000000000000000000 * 10 + e i)) in
      λ i. record { keys = k i; nums = n i; at = s.at }
