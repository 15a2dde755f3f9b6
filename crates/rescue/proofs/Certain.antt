-- Lines whose fate is told by what stands in them. Assumes nothing.
use Prim.Native.Nat.{ℕ, zero, suc, ◌+◌, ◌^◌, ◌≤◌, ◌<◌}
use mathlib.Core.Path.{◌≡◌, refl, sym, ap, ◌∙◌, subst}
use mathlib.Core.Bool.{true, not}
use mathlib.Core.List.{List, [], ◌∷◌, ◌++◌}
use mathlib.Core.Logic.{◌↔◌, inr}
use native.Mathlib.Omega.{arith}
use borrow.Author.Tests.{ne_eqb, not-true}
use lib.ListN.{length, length-append}
use Rattle.bits.proofs.Choices.{both}
use Rattle.ascii.specs.Ascii.{asc, signed_dec}
use Rattle.instruction.specs.declared.operation.SizedOp.{SizedOp}
use Rattle.instruction.specs.declared.family.Family.{Family}
use Rattle.instruction.specs.declared.family.Family.TheVariants.{Empty, Literal, Pair, Ordered, Unscaled, PostIndex, PreIndex, Register, Unsigned, Exclusive, StoreExclusive}
use Rattle.instruction.specs.Answers.{answer_number}
use Rattle.instruction.specs.Operations.{exclusive_code, store_exclusive_code}
use Rattle.instruction.specs.Table.{columns_of, in_set, row_of, undefined, allocated, instruction_of}
use Rattle.instruction.proofs.Rows.{row_has}
use Rattle.instruction.specs.declared.answer.Answer.TheVariants.{Unpredictable}
use Rattle.instruction.proofs.Answers.{number_once}
use Rattle.decoder.specs.Decoding.{class_of}
use Rattle.decoder.proofs.Arms.{allocated_when}
use Rattle.mnemonic.specs.Operands.{Operand, Narrow, sized_operand, literal_operand, pair_operand, access_operand}
use Rattle.mnemonic.specs.Mnemonics.{plain_name, unscaled_name, ordered_name, literal_name, pair_name, exclusive_name}
use Rattle.text.specs.Texts.{base_text, operand_text, offset_tail, pre_tail, post_tail, pair_tail, index_tail, front_text, literal_text, pair_text, sized_text, exclusive_text, store_exclusive_text, family_text, text_of, word_text}
use Rattle.text.proofs.Clean.{known, text_clean}
use Rattle.reader.specs.Reading.{LineOf}
use Rattle.reader.proofs.Families.{InRange}
use Rattle.reader.proofs.Ranges.{in_range}
use Rattle.listing.specs.Listing.{line_text, short_text}
use Rattle.rescue.specs.Lines.{lines_of, fields_of}
use Rattle.rescue.specs.Rescue.{Digits, KeptAs, RestoredAs, FateOf, line_out}
use Rattle.rescue.specs.Whole.{Without, TextLine}
use Rattle.rescue.specs.declared.Fate.{Fate}
use Rattle.rescue.specs.declared.Fate.TheVariants.{Restored, Dropped}
use Rattle.rescue.proofs.Parts.{Free, nil, cons, Parted, only, more, parted, clean_free, parts_part, parts_last, lines_last}
use Rattle.rescue.proofs.Hex.{hex_length}
use Rattle.rescue.proofs.Lined.{digits_are}
use Rattle.rescue.proofs.Fates.{fate_once, text_dropped, no_newline}

-- ---- parting

without_free : (s : ℕ) (t : List ℕ) → Without s t → Free s t
without_free s [] h = nil
without_free s (b ∷ bs) h = cons {b = b} (h 0 (omega arith)) (without_free s bs (λ i k. h (suc i) (omega arith)))

free_without : {s : ℕ} {t : List ℕ} → Free s t → Without s t
free_without nil i h = absurd (omega (arith, h))
free_without (cons h c) zero k = h
free_without (cons h c) (suc i) k = free_without c i (omega arith)

pub first_line : (t rest : List ℕ) → Without 10 t → lines_of (t ++ (10 ∷ rest)) ≡ t ∷ lines_of rest
first_line t rest h = parts_part 10 [] (without_free 10 t h) rest

pub last_line : (t : List ℕ) → Without 10 t → 0 < length t → lines_of t ≡ t ∷ []
last_line t h k = lines_last 10 (without_free 10 t h) k

fields_of_lem : {a t : List ℕ} (b : List ℕ) → Free 9 a → Free 9 t → Free 9 b → fields_of (a ++ (9 ∷ (t ++ (9 ∷ b)))) ≡ a ∷ t ∷ b ∷ []
fields_of_lem {a} {t} b f g h =
    parts_part 9 ([] ∷ []) f (t ++ (9 ∷ b)) ∙ ap (λ (l : List (List ℕ)). a ∷ l) (parts_part 9 ([] ∷ []) g b ∙ ap (λ (l : List (List ℕ)). t ∷ l) (parts_last 9 h))

pub three_fields : (a t b : List ℕ) → Without 9 a → Without 9 t → Without 9 b → fields_of (a ++ (9 ∷ (t ++ (9 ∷ b)))) ≡ a ∷ t ∷ b ∷ []
three_fields a t b f g h = fields_of_lem b (without_free 9 a f) (without_free 9 t g) (without_free 9 b h)

-- ---- kept and restored

pub kept_is : (line : List ℕ) (w : ℕ) → KeptAs line w ↔ ((w < 2 ^ 32) × (line ++ (10 ∷ []) ≡ line_text w))
kept_is line w = ((λ k. (k.below, k.whole)), (λ k. record { below = k.0; whole = k.1 }))

-- three fields, and the bytes of the line
record Three (line a t b : List ℕ) : Type 0 where
  whole : line ≡ a ++ (9 ∷ (t ++ (9 ∷ b)))
  no_tab : Without 9 a × Without 9 b

three_by : {line a t b : List ℕ} → Parted 9 (a ∷ t ∷ b ∷ []) line → Three line a t b
three_by (more f (more g (only h))) = record { whole = refl; no_tab = (free_without f, free_without h) }
three_by (more f (more g (more h none))) = elim none [ ]

three_of : (line a t b : List ℕ) → fields_of line ≡ a ∷ t ∷ b ∷ [] → Three line a t b
three_of line a t b e = three_by (subst (λ ps. Parted 9 ps line) e (parted 9 line))

text_line : (line : List ℕ) (w : ℕ) → RestoredAs line w → TextLine line w
text_line line w r =
    let q = three_of line r.first r.second r.third r.fields in
    record {
      before = r.first;
      behind = r.third;
      whole = q.whole ∙ ap (λ (t : List ℕ). r.first ++ (9 ∷ (t ++ (9 ∷ r.third)))) (sym r.text.line);
      no_tab = q.no_tab;
      other = λ d. r.other ((digits_are r.first).1 d);
      below = r.text.below;
      defined = r.text.defined;
    }

restored_as : (a b : List ℕ) (w : ℕ) → Without 9 a → Without 9 b → ¬ Digits a → w < 2 ^ 32 → allocated w ≡ true → RestoredAs (a ++ (9 ∷ (word_text w ++ (9 ∷ b)))) w
restored_as a b w h k n below defined =
    record {
      first = a;
      second = word_text w;
      third = b;
      fields = fields_of_lem b (without_free 9 a h) (clean_free 9 (omega arith) (text_clean w)) (without_free 9 b k);
      other = n;
      text = record { below = below; defined = defined; line = refl };
    }

pub restored_is : (line : List ℕ) (w : ℕ) → RestoredAs line w ↔ TextLine line w
restored_is line w = (text_line line w, back)
  where
    back : TextLine line w → RestoredAs line w
    back t =
        subst (λ l. RestoredAs l w) (sym t.whole) (restored_as t.before t.behind w t.no_tab.0 t.no_tab.1 (λ d. t.other ((digits_are t.before).0 d)) t.below t.defined)

-- a word of answer 4 is allocated
pub answer_4_restored : (a b : List ℕ) (w : ℕ) → Without 9 a → Without 9 b → ¬ Digits a → w < 2 ^ 32 → answer_number (class_of w) ≡ 4
    → (f : Fate) → FateOf (a ++ (9 ∷ (word_text w ++ (9 ∷ b)))) f → line_out f ≡ line_text w
answer_4_restored a b w h k n below answer f x =
    let defined : allocated w ≡ true = sym (allocated_when w refl (inr (number_once (class_of w) Unpredictable answer))) in
    ap line_out (fate_once (a ++ (9 ∷ (word_text w ++ (9 ∷ b)))) f (Restored w) x (restored_as a b w h k n below defined))

pub digits_not_restored : (line a : List ℕ) (rest : List (List ℕ)) → fields_of line ≡ a ∷ rest → Digits a → (w : ℕ) → ¬ FateOf line (Restored w)
digits_not_restored line a rest e d w r =
    let p = r.fields in
    let q : a ≡ r.first = cc in
    r.other (d.0, d.1, d.2 ∙ q)

-- ---- a short line

-- a text is longer than a dash: it has a space and a comma behind its name
record Long (p : List ℕ) : Type 0 where
  least : 2 ≤ length p

longer : {p : List ℕ} (q : List ℕ) → Long p → Long (p ++ q)
longer {p} q h = record { least = omega (arith, h.least, length-append p q) }

front : (name : List ℕ) (o : Operand) (r : ℕ) → Long (front_text name o r)
unfolding front_text
front name o r = record { least = omega (arith, length-append (name ++ asc " " ++ operand_text o r) (asc ", ")) }

sized : (name : List ℕ) (op : SizedOp) (t b : ℕ) (tail : List ℕ) → Long (sized_text name op t b tail)
unfolding sized_text
sized name op t b tail = longer tail (longer (base_text b) (longer (asc "[") (front name (sized_operand op) t)))

family_long : (f : Family) → InRange f → Long (family_text f)
unfolding literal_text pair_text exclusive_text store_exclusive_text
family_long Empty h = absurd h
family_long (Literal op o) h = longer (signed_dec o.offset) (longer (asc "#") (front (literal_name op) (literal_operand op) o.target))
family_long (Pair op o) h =
    longer (pair_tail o.mode o.offset)
    (longer (base_text o.base) (longer (asc ", [") (longer (operand_text (pair_operand op) o.second) (front (pair_name o.mode op) (pair_operand op) o.first))))
family_long (Ordered op o) h = sized (ordered_name op) op o.target o.base (offset_tail o.offset)
family_long (Unscaled op o) h = sized (unscaled_name op) op o.target o.base (offset_tail o.offset)
family_long (PostIndex op o) h = sized (plain_name op) op o.target o.base (post_tail o.offset)
family_long (PreIndex op o) h = sized (plain_name op) op o.target o.base (pre_tail o.offset)
family_long (Register op o) h = sized (plain_name op) op o.target o.base (index_tail op o)
family_long (Unsigned op o) h = sized (plain_name op) op o.target o.base (offset_tail o.offset)
family_long (Exclusive op o) h =
    longer (asc "]") (longer (base_text o.base) (longer (asc "[") (front (exclusive_name (exclusive_code op) o.size) (access_operand o.size) o.target)))
family_long (StoreExclusive op o) h =
    longer (asc "]")
    (longer (base_text o.base)
    (longer (asc ", [") (longer (operand_text (access_operand o.size) o.target) (front (exclusive_name (store_exclusive_code op) o.size) Narrow o.status))))

text_long : (w : ℕ) → allocated w ≡ true → Long (word_text w)
unfolding word_text text_of allocated undefined instruction_of
text_long w a =
    let p = both (in_set w) (not ((columns_of (row_of w)).undefined w)) a in
    family_long ((columns_of (row_of w)).family w) (in_range w (row_of w) (row_has w p.0) (not-true _ p.1))

no_dash : (w : ℕ) → ¬ LineOf w (asc "-")
no_dash w l = omega (arith, (text_long w l.defined).least, ap length l.line)

not_digits : (t : List ℕ) → ¬ (length t ≡ 8) → ¬ Digits t
not_digits t h d = h (ap length (sym d.2) ∙ hex_length d.0)

short_is : (n : ℕ) → 0 < n → short_text n ≡ asc "short" ++ (9 ∷ (asc "-" ++ (9 ∷ ((48 + n) ∷ 10 ∷ []))))
unfolding short_text
short_is n h = rw (ne_eqb n 0 (λ e. omega (arith, e, h)))

pub short_dropped : (line : List ℕ) (n : ℕ) → 0 < n → line ++ (10 ∷ []) ≡ short_text n → (f : Fate) → FateOf line f → f ≡ Dropped
short_dropped line n h e f a =
    let body = asc "short" ++ (9 ∷ (asc "-" ++ (9 ∷ ((48 + n) ∷ [])))) in
    let whole : body ++ (10 ∷ []) ≡ short_text n = sym (short_is n h) in
    let same = no_newline line body (e ∙ sym whole) in
    let fields = ap fields_of same ∙ fields_of_lem ((48 + n) ∷ []) (clean_free 9 (omega arith) (known (asc "short") refl)) (clean_free 9 (omega arith) (known (asc "-") refl)) (cons {b = 48 + n} (λ z. omega (arith, z)) nil) in
    fate_once line f Dropped a (text_dropped line (asc "short") (asc "-") ((48 + n) ∷ []) fields (not_digits (asc "short") (λ z. omega (arith, z))) no_dash)
