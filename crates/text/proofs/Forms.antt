-- The texts of lines, by their six pieces. Assumes nothing.
use Prim.Native.Nat.{ℕ, zero, suc, ◌+◌, ◌*◌, ◌/◌, ◌%◌, ◌<◌}
use mathlib.Core.Path.{◌≡◌, refl, sym, ap, ◌∙◌}
use mathlib.Core.Bool.{Bool, true, false, false≢true}
use mathlib.Core.List.{List, [], ◌++◌, append_assoc, append-nil}
use native.Mathlib.Omega.{arith}
use borrow.Author.Tests.{ne_eqb}
use lib.Dec.{eqb}
use lib.IntN.{ℤ, pos, nat_abs}
use Rattle.bits.specs.Choice.{pick}
use Rattle.bits.specs.Bytes.{bytes_of}
use Rattle.ascii.specs.Ascii.{asc, dec, signed_dec}
use Rattle.mnemonic.specs.declared.Mnemonic.{Mnemonic}
use Rattle.mnemonic.specs.Operands.{Operand, Narrow, Wide, Hint, VectorB, VectorH, VectorS, VectorD, VectorQ, letter_of}
use Rattle.mnemonic.specs.route.Named.{Known, known, told}
use Rattle.mnemonic.proofs.Registers.{Registered}
use Rattle.text.specs.declared.piece.Piece.{Piece}
use Rattle.text.specs.declared.piece.Pieces.{Pieces}
use Rattle.text.specs.Texts.{register_text, operand_text, offset_tail, extend_name, extend_text, amount_text, front_text}
use Rattle.text.specs.route.Pieces.{text_in, Leads, Shows}
use Rattle.text.proofs.Packing.{constant}
use Rattle.text.proofs.Hinted.{hint_parts}
use Rattle.text.specs.route.Lines.{Made, first_part, rest_part, front_in, ahead, extend_part, amount_part}

pub nothing_shown : {q : Piece} → q.bytes ≡ 0 → q.length ≡ 0 → Shows [] q
unfolding bytes_of
nothing_shown e l = constant e l refl

-- ---- mnemonics

pub name_shown : (m : Mnemonic) {q : Piece} → q.bytes ≡ m.letters → q.length ≡ m.shape % 256 → Shows (known m).letters q
name_shown m e l = constant e l refl

first_rest : (o : Operand) (r : ℕ) → first_part (letter_of o) r ++ rest_part (letter_of o) r ≡ operand_text o r ++ asc ", "
unfolding first_part rest_part
first_rest Narrow r = append-nil (register_text 119 r ++ asc ", ")
first_rest Wide r = append-nil (register_text 120 r ++ asc ", ")
first_rest Hint r = hint_parts r
first_rest VectorB r = append-nil (register_text 98 r ++ asc ", ")
first_rest VectorH r = append-nil (register_text 104 r ++ asc ", ")
first_rest VectorS r = append-nil (register_text 115 r ++ asc ", ")
first_rest VectorD r = append-nil (register_text 100 r ++ asc ", ")
first_rest VectorQ r = append-nil (register_text 113 r ++ asc ", ")

-- a mnemonic, and both pieces of the first operand
pub front_is : (m : Mnemonic) (name : List ℕ) (o : Operand) (r : ℕ) → known m ≡ told name o → front_in m r ++ rest_part (known m).letter r ≡ front_text name o r
unfolding front_in front_text
front_is m name o r e =
    rw (ap (λ (k : Known). k.letters) e, ap (λ (k : Known). k.letter) e)
    (append_assoc (name ++ asc " ") (first_part (letter_of o) r) (rest_part (letter_of o) r) ∙ ap (λ (l : List ℕ). name ++ asc " " ++ l) (first_rest o r)
    ∙ sym (append_assoc (name ++ asc " ") (operand_text o r) (asc ", ")))

-- an operand that is a register
pub register_is : (o : Operand) → Registered o → (r : ℕ) → register_text (letter_of o) r ≡ operand_text o r
register_is Narrow h r = refl
register_is Wide h r = refl
register_is Hint h r = absurd (false≢true (sym h))
register_is VectorB h r = refl
register_is VectorH h r = refl
register_is VectorS h r = refl
register_is VectorD h r = refl
register_is VectorQ h r = refl

first_is : (o : Operand) → Registered o → (r : ℕ) → first_part (letter_of o) r ≡ operand_text o r ++ asc ", "
unfolding first_part
first_is o h r = rw h (ap (λ (l : List ℕ). l ++ asc ", ") (register_is o h r))

module _ (m : Mnemonic) (name : List ℕ) (o : Operand) (g : Registered o) (r : ℕ) (e : known m ≡ told name o) where
  pub register_operand : register_text (m.shape / 256) r ≡ operand_text o r
  register_operand = rw (ap (λ (k : Known). k.letter) e) (register_is o g r)

  pub register_front : front_in m r ≡ front_text name o r
  unfolding front_in front_text
  register_front =
      rw (ap (λ (k : Known). k.letters) e, ap (λ (k : Known). k.letter) e, first_is o g r)
      (sym (append_assoc (name ++ asc " ") (operand_text o r) (asc ", ")))

pub fits : (m : Mnemonic) (name : List ℕ) (o : Operand) → known m ≡ told name o → (known m).fits ≡ true
fits m name o e = ap (λ (k : Known). k.fits) e

-- ---- six pieces

pub made_as : {s t : List ℕ} {p : Pieces} → s ≡ t → Made s p → Made t p
made_as e a = record { text = a.text ∙ e }

pub front_made : (m : Mnemonic) (n : ℕ) {a b : Piece} → Shows (known m).letters a → Shows (asc " " ++ first_part (known m).letter n) b
    → ahead (record { name = a; first = b }) ≡ front_in m n
unfolding front_in
front_made m n p q =
    let x = (known m).letters in
    rw (p.text, q.text) (sym (append_assoc x (asc " ") (first_part (known m).letter n)))

-- ---- what stands behind the operands

hidden_or_shown : (d : List ℕ) (b : Bool) → pick b [] (asc ", #") ++ pick b [] d ++ asc "]" ≡ pick b (asc "]") (asc ", #" ++ d ++ asc "]")
hidden_or_shown d true = refl
hidden_or_shown d false = refl

pub offset_parts : {y z : ℤ} {far : ℕ} → y ≡ z → far ≡ nat_abs y → pick (eqb far 0) [] (asc ", #") ++ pick (eqb far 0) [] (signed_dec z) ++ asc "]" ≡ offset_tail z
unfolding offset_tail
offset_parts {y} {z} e f = rw (f, e) (hidden_or_shown (signed_dec z) (eqb (nat_abs z) 0))

-- no offset
pub no_offset : offset_tail (pos 0) ≡ asc "]"
unfolding offset_tail
no_offset = refl

grouped : (f a base sign number close : List ℕ) → f ++ (a ++ base ++ sign) ++ number ++ close ≡ f ++ a ++ base ++ (sign ++ number ++ close)
grouped f a base sign number close = simp append_assoc

pub ended : (f : List ℕ) {base sign number close tail : List ℕ} {q o n c : Piece} {p : Pieces} → Leads (asc "[" ++ base) q o → Shows sign q → Shows number n → Shows close c
    → sign ++ number ++ close ≡ tail → Made (f ++ text_in o ++ text_in n ++ text_in c) p → Made (f ++ asc "[" ++ base ++ tail) p
ended f {base} {sign} {number} {close} l s n c e m =
    made_as (grouped f (asc "[") base sign number close ∙ ap (λ (t : List ℕ). f ++ asc "[" ++ base ++ t) e) (rw (l.text, s.text, n.text, c.text) at m)

index_grouped : (f base comma index extend amount : List ℕ) → f ++ (base ++ (comma ++ (index ++ []))) ++ extend ++ amount ≡ f ++ base ++ (comma ++ index ++ (extend ++ amount))
index_grouped f base comma index extend amount = simp (append_assoc, append-nil)

pub indexed_by : (f end : List ℕ) {base index extend amount : List ℕ} {q o r i x a : Piece} {p : Pieces} → Leads base q o → Leads (asc ", ") i q
    → Leads index r i → Shows [] r → Shows extend x → Shows amount a → extend ++ amount ≡ end ++ asc "]" → Made (f ++ text_in o ++ text_in x ++ text_in a) p
    → Made (f ++ base ++ (asc ", " ++ index ++ end ++ asc "]")) p
indexed_by f end {base} {index} {extend} {amount} l q i r x a e m =
    let h : asc ", " ++ index ++ (end ++ asc "]") ≡ asc ", " ++ index ++ end ++ asc "]" = sym (append_assoc (asc ", " ++ index) end (asc "]")) in
    let g : List ℕ → List ℕ = λ t. f ++ base ++ t in
    made_as (index_grouped f base (asc ", ") index extend amount ∙ ap (λ (t : List ℕ). g (asc ", " ++ index ++ t)) e ∙ ap g h)
    (rw (l.text, q.text, i.text, r.text, x.text, a.text) at m)

-- the rest of an operand, and the bracket before a base
pub opened : {rest : List ℕ} {k s : Piece} → Leads rest k s → Shows (asc "[") k → text_in s ≡ rest ++ asc "["
opened {rest} l k = l.text ∙ ap (λ (t : List ℕ). rest ++ t) k.text

-- ---- pieces that are always the same

pub open_shown : {q : Piece} → q.bytes ≡ 0x5b → q.length ≡ 1 → Shows (asc "[") q
unfolding bytes_of
open_shown e l = constant e l refl

pub sign_shown : {q : Piece} → q.bytes ≡ 0x23_202c → q.length ≡ 3 → Shows (asc ", #") q
unfolding bytes_of
sign_shown e l = constant e l refl

pub post_sign_shown : {q : Piece} → q.bytes ≡ 0x2320_2c5d → q.length ≡ 4 → Shows (asc "], #") q
unfolding bytes_of
post_sign_shown e l = constant e l refl

pub hash_shown : {q : Piece} → q.bytes ≡ 0x23 → q.length ≡ 1 → Shows (asc "#") q
unfolding bytes_of
hash_shown e l = constant e l refl

pub bracket_shown : {q : Piece} → q.bytes ≡ 0x5d → q.length ≡ 1 → Shows (asc "]") q
unfolding bytes_of
bracket_shown e l = constant e l refl

pub close_shown : {q : Piece} → q.bytes ≡ 0x215d → q.length ≡ 2 → Shows (asc "]!") q
unfolding bytes_of
close_shown e l = constant e l refl

pub lsl_shown : {q : Piece} → q.bytes ≡ 0x6c_736c_202c → q.length ≡ 5 → Shows (extend_part 0b011 1) q
unfolding bytes_of extend_part
lsl_shown e l = constant e l refl

pub uxtw_shown : (s : ℕ) → {q : Piece} → q.bytes ≡ 0x7774_7875_202c → q.length ≡ 6 → Shows (extend_part 0b010 s) q
unfolding bytes_of extend_part extend_name
uxtw_shown s e l = constant e l refl

pub sxtw_shown : (s : ℕ) → {q : Piece} → q.bytes ≡ 0x7774_7873_202c → q.length ≡ 6 → Shows (extend_part 0b110 s) q
unfolding bytes_of extend_part extend_name
sxtw_shown s e l = constant e l refl

pub sxtx_shown : (option s : ℕ) → ¬ (option ≡ 0b011) → ¬ (option ≡ 0b010) → ¬ (option ≡ 0b110) → {q : Piece} → q.bytes ≡ 0x7874_7873_202c → q.length ≡ 6 → Shows (extend_part option s) q
unfolding bytes_of extend_part extend_name
sxtx_shown option s h i j e l = rw (ne_eqb option 0b011 h, ne_eqb option 0b010 i, ne_eqb option 0b110 j) (constant e l refl)

pub amount_shown : (size : ℕ) → size < 5 → {q : Piece} → q.bytes ≡ 0x5d30_2320 + size * 0x1_0000 → q.length ≡ 4 → Shows (amount_part 1 size) q
unfolding bytes_of amount_part amount_text dec
amount_shown zero h e l = constant e l refl
amount_shown (suc zero) h e l = constant e l refl
amount_shown (suc (suc zero)) h e l = constant e l refl
amount_shown (suc (suc (suc zero))) h e l = constant e l refl
amount_shown (suc (suc (suc (suc zero)))) h e l = constant e l refl
amount_shown (suc (suc (suc (suc (suc n))))) h e l = absurd (omega arith)

-- ---- an index

by_parts : (l s a : List ℕ) (b d : Bool) → pick b (pick d (asc ", lsl") []) s ++ (pick d a [] ++ asc "]") ≡ pick b (pick d (asc ", lsl" ++ pick d a []) []) (s ++ pick d a []) ++ asc "]"
by_parts l s a true true = sym (append_assoc (asc ", lsl") a (asc "]"))
by_parts l s a true false = refl
by_parts l s a false d = sym (append_assoc s (pick d a []) (asc "]"))

pub index_parts : (option scaled size : ℕ) → extend_part option scaled ++ amount_part scaled size ≡ extend_text option scaled size ++ asc "]"
unfolding extend_part amount_part extend_text amount_text
index_parts option scaled size = by_parts [] (asc ", " ++ extend_name option) (asc " #" ++ dec size) (eqb option 0b011) (eqb scaled 1)

-- ---- lengths

-- the rest of a first operand with nothing behind it
pub rest_alone : {t : List ℕ} {q p : Piece} → Leads t q p → Shows [] q → text_in p ≡ t
rest_alone {t} l q = l.text ∙ ap (λ (k : List ℕ). t ++ k) q.text ∙ append-nil t

-- a literal's offset
pub literal_by : (f : List ℕ) {number : List ℕ} {h n e : Piece} {p : Pieces} → Shows (asc "#") h → Shows number n → Shows [] e
    → Made (f ++ text_in h ++ text_in n ++ text_in e) p → Made (f ++ asc "#" ++ number) p
literal_by f h n e m = made_as (simp append-nil) (rw (h.text, n.text, e.text) at m)
