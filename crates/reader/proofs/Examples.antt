-- The example's line is read, and its old line is none: both would be built to the same instruction, which has one line. Assumes
-- nothing.
use Prim.Native.Nat.{ℕ}
use mathlib.Core.Path.{◌≡◌, refl, sym, ap, ◌∙◌}
use mathlib.Core.List.{foldl}
use mathlib.Core.Logic.{inl, inr}
use native.Mathlib.Omega.{arith}
use lib.Dec.{lit<}
use lib.ListN.{length}
use Rattle.instruction.specs.Answers.{answer_number}
use Rattle.instruction.specs.Operations.{sized_at, pair_at}
use Rattle.encoder.specs.Encoding.{encode_of}
use Rattle.instruction.specs.Encoded.{Encoded}
use Rattle.ascii.specs.Ascii.{asc}
use Rattle.mnemonic.specs.route.Names.{stem_at, name_at}
use Rattle.text.specs.Texts.{word_text}
use Rattle.text.proofs.Examples.{starred_examples}
use Rattle.reader.specs.route.Scan.{plain_of, step_of, scan_start}
use Rattle.reader.specs.route.Names.{letter_for, is_name, searched, name_for}
use Rattle.reader.specs.route.Targets.{low_bits, target_at}
use Rattle.reader.specs.route.Tails.{tail_at, plus_of, offset_at}
use Rattle.reader.specs.route.Build.{offset_from, build_of}
use Rattle.reader.specs.Reading.{Reading, LineOf, ReadOf}
use Rattle.reader.specs.Examples.{new_line, old_line, HintsRead}
use Rattle.reader.proofs.RoundTrip.{line_encodes, text_injective}

new_is : LineOf 0xf8800020 (asc new_line)
new_is = let e = starred_examples.2.2.2.2.2.2.2 in record { below = lit< tt; defined = e.0; line = e.1 }

same_built : build_of (foldl step_of scan_start (asc old_line)) ≡ build_of (foldl step_of scan_start (asc new_line))
unfolding plain_of step_of scan_start letter_for is_name searched name_for stem_at name_at sized_at pair_at low_bits target_at tail_at plus_of offset_at offset_from build_of
same_built = refl

no_line : (w : ℕ) → ¬ LineOf w (asc old_line)
no_line w l =
    let e = ap (λ (x : Encoded). x.word) (sym (line_encodes w _ l) ∙ ap encode_of same_built ∙ line_encodes 0xf8800020 _ new_is) in
    let t : asc old_line ≡ asc new_line = sym l.line ∙ ap word_text e ∙ new_is.line in
    absurd (omega (arith, ap length t))

pub hints_read : HintsRead
hints_read = record { new = taken; old = refused }
  where
    taken : (r : Reading) → ReadOf (asc new_line) r → (answer_number r.answer ≡ 0) × (r.word ≡ 0xf8800020)
    taken r (inl (d, l)) = (d, text_injective r.word 0xf8800020 _ l new_is)
    taken r (inr (d, z, n)) = absurd (n 0xf8800020 new_is)

    refused : (r : Reading) → ReadOf (asc old_line) r → (answer_number r.answer ≡ 9) × (r.word ≡ 0)
    refused r (inl (d, l)) = absurd (no_line r.word l)
    refused r (inr (d, z, n)) = (d, z)
