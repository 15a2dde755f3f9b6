-- Lines and words lead back to each other: what is built of an allocated word's line is its instruction, so no two allocated
-- words have the same line, reading it gives the word, and every text is read in just one way. Assumes nothing.
use Prim.Native.Nat.{ℕ, ◌^◌, ◌<◌}
use mathlib.Core.Path.{◌≡◌, refl, sym, ap, ◌∙◌}
use mathlib.Core.Bool.{true, not}
use mathlib.Core.List.{List, foldl, List-discrete}
use mathlib.Core.Logic.{inl, inr}
use native.Mathlib.Decide.{ℕ_discrete}
use borrow.Author.Tests.{not-true}
use Rattle.bits.proofs.Choices.{both}
use Rattle.instruction.specs.Table.{columns_of, in_set, row_of, undefined, allocated, instruction_of}
use Rattle.instruction.proofs.Answers.{number_once}
use Rattle.instruction.proofs.Rows.{row_has}
use Rattle.encoder.specs.Encoding.{encode_of}
use Rattle.instruction.specs.Encoded.{Encoded}
use Rattle.encoder.specs.Exact.{Exact}
use Rattle.encoder.proofs.RoundTrip.{encode_decoded, encode_exact, not_encoded}
use Rattle.text.specs.Texts.{text_of, word_text}
use Rattle.reader.specs.Types.{Done, NoSuchText}
use Rattle.reader.specs.route.Scan.{step_of, scan_start}
use Rattle.reader.specs.route.Build.{build_of}
use Rattle.reader.specs.Reading.{Reading, LineOf, ReadOf}
use Rattle.reader.proofs.Families.{family_comes}
use Rattle.reader.proofs.Ranges.{in_range}

pub build_back : (w : ℕ) → allocated w ≡ true → build_of (foldl step_of scan_start (word_text w)) ≡ instruction_of w
unfolding word_text text_of allocated undefined instruction_of
build_back w a =
    let p = both (in_set w) (not ((columns_of (row_of w)).undefined w)) a in
    family_comes ((columns_of (row_of w)).family w) (in_range w (row_of w) (row_has w p.0) (not-true _ p.1))

-- the word of a line is the word that its candidate is encoded to
pub line_encodes : (w : ℕ) (t : List ℕ) → LineOf w t → encode_of (build_of (foldl step_of scan_start t)) ≡ record { answer = Done; word = w }
line_encodes w t l =
    ap (λ (x : List ℕ). encode_of (build_of (foldl step_of scan_start x))) (sym l.line) ∙ ap encode_of (build_back w l.defined)
    ∙ encode_decoded w l.below l.defined

-- no two allocated words have the same line
pub text_injective : (v w : ℕ) (t : List ℕ) → LineOf v t → LineOf w t → v ≡ w
text_injective v w t a b = ap (λ (e : Encoded). e.word) (sym (line_encodes v t a) ∙ line_encodes w t b)

-- reading the line of an allocated word gives that word
pub read_back : (w : ℕ) → w < 2 ^ 32 → allocated w ≡ true → (r : Reading) → ReadOf (word_text w) r → r ≡ record { answer = Done; word = w }
read_back w h a r (inl (d, l)) = let e = text_injective r.word w (word_text w) l (record { below = h; defined = a; line = refl }) in λ i. record { answer = number_once r.answer Done d i; word = e i }
read_back w h a r (inr (d, z, n)) = absurd (n w (record { below = h; defined = a; line = refl }))

-- ---- a text is read in just one way

some_from : (t : List ℕ) → let i = build_of (foldl step_of scan_start t) in Exact i (encode_of i) → (r : Reading) × ReadOf t r
some_from t (inl (w, e, x)) = by_text (List-discrete ℕ_discrete (word_text w) t)
  where
    one_word : (v : ℕ) → LineOf v t → v ≡ w
    one_word v l = ap (λ (z : Encoded). z.word) (sym (line_encodes v t l) ∙ e)

    by_text : Dec (word_text w ≡ t) → (r : Reading) × ReadOf t r
    by_text (yes h) = (record { answer = Done; word = w }, inl (refl, record { below = x.below; defined = x.defined; line = h }))
    by_text (no n) = (record { answer = NoSuchText; word = 0 }, inr (refl, refl, λ v l. n (ap word_text (sym (one_word v l)) ∙ l.line)))
some_from t (inr (e, n)) =
    (record { answer = NoSuchText; word = 0 }, inr (refl, refl, λ v l. not_encoded (sym e ∙ line_encodes v t l)))

pub read_some : (t : List ℕ) → (r : Reading) × ReadOf t r
read_some t = some_from t (encode_exact (build_of (foldl step_of scan_start t)))

pub read_once : (t : List ℕ) (r s : Reading) → ReadOf t r → ReadOf t s → r ≡ s
read_once t r s (inl (d, l)) (inl (e, k)) = let same = text_injective r.word s.word t l k in λ i. record { answer = number_once r.answer s.answer (d ∙ sym e) i; word = same i }
read_once t r s (inl (d, l)) (inr (e, z, n)) = absurd (n r.word l)
read_once t r s (inr (d, z, n)) (inl (e, l)) = absurd (n s.word l)
read_once t r s (inr (d, z, n)) (inr (e, y, k)) = λ i. record { answer = number_once r.answer s.answer (d ∙ sym e) i; word = (z ∙ sym y) i }
