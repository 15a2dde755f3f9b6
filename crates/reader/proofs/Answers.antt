-- What each return of `read` shows, over plain values. Assumes nothing.
use Prim.Native.Nat.{ℕ, ◌^◌, ◌<◌}
use mathlib.Core.Path.{◌≡◌, refl, ap, ◌∙◌}
use mathlib.Core.Bool.{Bool, true, false}
use mathlib.Core.List.{List, foldl}
use mathlib.Core.Logic.{inl, inr, ◌↔◌}
use native.Mathlib.Omega.{arith}
use lib.ListN.{length}
use Rattle.instruction.specs.declared.answer.Answer.TheVariants.{NoSuchInstruction}
use Rattle.bits.specs.Fields.{part}
use Rattle.instruction.specs.Table.{in_set, row_of, allocated}
use Rattle.encoder.specs.Encoding.{encode_of}
use Rattle.encoder.specs.Exact.{Exact}
use Rattle.encoder.proofs.RoundTrip.{encode_exact}
use Rattle.instruction.specs.Encoded.{Encoded}
use Rattle.text.specs.Texts.{word_text, text_most}
use Rattle.text.proofs.Lengths.{text_short}
use Rattle.reader.specs.Types.{Answer, Done, NoSuchText, Scan, Instruction}
use Rattle.reader.specs.route.Scan.{step_of, scan_start}
use Rattle.reader.specs.route.Build.{build_of}
use Rattle.reader.specs.Reading.{LineOf, ReadOf}
use Rattle.reader.proofs.RoundTrip.{line_encodes}

pub never : {b : Bool} → b ≡ true → b ≡ false → ⊥
never p q = let z : ◌≡◌ {A = ℕ} 0 1 = cc in omega arith

-- a text that is longer than any line
pub read_long : (t : List ℕ) → text_most < length t → ReadOf t (record { answer = NoSuchText; word = 0 })
read_long t h = inr (refl, refl, λ w l. absurd (omega (arith, h, text_short w l.defined, ap length l.line)))

pub nothing_at_0 : allocated 0 ≡ false
unfolding allocated in_set row_of part
nothing_at_0 = refl

module _ (t : List ℕ) {s : Scan} {i : Instruction} (scanned : s ≡ foldl step_of scan_start t) (built : i ≡ build_of s) where
  -- a word that has this line is the one that was found
  candidate : (w : ℕ) → LineOf w t → encode_of i ≡ record { answer = Done; word = w }
  candidate w l = ap encode_of (built ∙ ap build_of scanned) ∙ line_encodes w t l

  pub read_refused : {a : Answer} → record { answer = a; word = 0 } ≡ encode_of i → ReadOf t (record { answer = NoSuchText; word = 0 })
  read_refused e = inr (refl, refl, λ w l. never (ap allocated (ap (λ (x : Encoded). x.word) (e ∙ candidate w l)) ∙ l.defined) nothing_at_0)

  module _ {v : ℕ} (found : record { answer = Done; word = v } ≡ encode_of i) where
    defined_by : Exact i (encode_of i) → allocated v ≡ true
    defined_by (inl (w, e, x)) = ap allocated (ap (λ (x : Encoded). x.word) (found ∙ e)) ∙ x.defined
    defined_by (inr (e, n)) = let k : Done ≡ NoSuchInstruction = ap (λ (x : Encoded). x.answer) (found ∙ e) in absurd (cc)

    pub read_defined : allocated v ≡ true
    read_defined = defined_by (encode_exact i)

    module _ {b : Bool} (line : (b ≡ true) ↔ (word_text v ≡ t)) where
      pub read_taken : v < 2 ^ 32 → b ≡ true → ReadOf t (record { answer = Done; word = v })
      read_taken h q = inl (refl, record { below = h; defined = read_defined; line = line.0 q })

      pub read_other : b ≡ false → ReadOf t (record { answer = NoSuchText; word = 0 })
      read_other f = inr (refl, refl, λ w l. never (line.1 (ap word_text (ap (λ (x : Encoded). x.word) (found ∙ candidate w l)) ∙ l.line)) f)
