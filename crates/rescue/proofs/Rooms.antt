-- The rooms that any input of so many bytes and lines needs at most. Assumes nothing.
use Prim.Native.Nat.{ℕ, zero, suc, ◌+◌, ◌*◌, ◌/◌, ◌%◌, ◌-◌, ◌≤◌}
use mathlib.Core.Path.{◌≡◌, refl, ap}
use mathlib.Core.Bool.{Bool, true, false}
use mathlib.Core.List.{List, [], ◌∷◌, ◌++◌}
use native.Mathlib.Omega.{arith}
use borrow.Author.Tests.{le-ltb}
use lib.Dec.{eqb, ltb}
use lib.ListN.{length, length-append}
use Rattle.bits.specs.Choice.{pick}
use Rattle.ascii.specs.Ascii.{digits, dec}
use Rattle.reader.specs.Reading.{LineOf}
use Rattle.listing.specs.Listing.{content_text, line_most}
use Rattle.listing.proofs.Steps.{line_short}
use Rattle.rescue.specs.Lines.{lead, parts_at, lines_of, fields_of}
use Rattle.rescue.specs.Rescue.{FateOf, Fates, none, next, line_out, output_of, fate_name, report_line, report_from, report_of}
use Rattle.rescue.specs.declared.Fate.{Fate}
use Rattle.rescue.specs.declared.Fate.TheVariants.{Kept, Restored, Dropped}
use Rattle.rescue.specs.route.Steps.{FitsAs, LongAs}
use Rattle.rescue.proofs.Fates.{line_length, fates_some}

-- ---- parts

-- the bytes of some parts
abbrev bytes_in : List (List ℕ) → ℕ
bytes_in [] = 0
bytes_in (p ∷ ps) = length p + bytes_in ps

lead_bytes : (b : ℕ) (ps : List (List ℕ)) → bytes_in (lead b ps) ≡ suc (bytes_in ps)
lead_bytes b [] = refl
lead_bytes b (p ∷ ps) = omega arith

lines_by : (b n : ℕ) (ps : List (List ℕ)) → bytes_in ps ≤ n → (z : Bool) → bytes_in (pick z ([] ∷ ps) (lead b ps)) ≤ suc n
lines_by b n ps h true = omega arith
lines_by b n ps h false = omega (arith, lead_bytes b ps)

-- lines have no more bytes than the input
lines_bytes : (s : ℕ) (bs : List ℕ) → bytes_in (parts_at s [] bs) ≤ length bs
lines_bytes s [] = omega arith
lines_bytes s (b ∷ bs) = lines_by b (length bs) (parts_at s [] bs) (lines_bytes s bs) (eqb b s)

fields_by : (b n : ℕ) (ps : List (List ℕ)) → bytes_in ps + length ps ≡ suc n → (z : Bool)
    → bytes_in (pick z ([] ∷ ps) (lead b ps)) + length (pick z ([] ∷ ps) (lead b ps)) ≡ suc (suc n)
fields_by b n ps h true = omega arith
fields_by b n [] h false = absurd (omega (arith, h))
fields_by b n (p ∷ ps) h false = omega arith

-- a line has the bytes of its fields, and one between each two
fields_bytes : (s : ℕ) (bs : List ℕ) → bytes_in (parts_at s ([] ∷ []) bs) + length (parts_at s ([] ∷ []) bs) ≡ suc (length bs)
fields_bytes s [] = refl
fields_bytes s (b ∷ bs) = fields_by b (length bs) (parts_at s ([] ∷ []) bs) (fields_bytes s bs) (eqb b s)

-- ---- a line

content_of : {w : ℕ} {t : List ℕ} → LineOf w t → content_text w ≡ t
unfolding content_text
content_of l = rw l.defined l.line

gains : (line : List ℕ) (f : Fate) → FateOf line f → length (line_out f) ≤ length line + 10
gains line (Kept w) k = omega (arith, ap length k.whole, length-append line (10 ∷ []))
gains line (Restored w) r =
    let fields = fields_bytes 9 line in
    let three : bytes_in (fields_of line) + length (fields_of line) ≡ length r.first + (length r.second + (length r.third + 0)) + 3 =
    ap (λ (l : List (List ℕ)). bytes_in l + length l) r.fields in
    omega (arith, line_length w, ap length (content_of r.text), fields, three)
gains line Dropped d = omega arith

-- where a line is kept, one byte more than it has is no more than a line's
module _ (n : ℕ) {w : ℕ} where
  pub kept_short : (f : Fate) → LongAs n f → f ≡ Kept w → n + 1 ≤ line_most + 1
  kept_short (Kept v) l e = omega (arith, l, line_short v)
  kept_short (Restored v) l e = absurd (let z : ◌≡◌ {A = ℕ} 0 1 = cc in omega (arith, z))
  kept_short Dropped l e = absurd (let z : ◌≡◌ {A = ℕ} 0 1 = cc in omega (arith, z))

name_short : (f : Fate) → length (fate_name f) ≤ 8
name_short (Kept w) = omega arith
name_short (Restored w) = omega arith
name_short Dropped = omega arith

digits_by : (f m d : ℕ) (p : List ℕ) → length p ≤ f → (z : Bool) → length (pick z (m ∷ []) (p ++ (d ∷ []))) ≤ suc f
digits_by f m d p h true = omega arith
digits_by f m d p h false = omega (arith, length-append p (d ∷ []))

digits_most : (f n : ℕ) → length (digits f n) ≤ f
digits_most zero n = omega arith
digits_most (suc f) n = digits_by f (48 + n) (48 + n % 10) (digits f (n / 10)) (digits_most f (n / 10)) (ltb n 10)

dec_most : (n : ℕ) → length (dec n) ≤ 20
unfolding dec
dec_most n = digits_most 20 n

pub row_short : (n : ℕ) (f : Fate) → length (report_line n f ++ (10 ∷ [])) ≤ 30
unfolding report_line
row_short n f =
    omega (
      arith,
      dec_most n,
      name_short f,
      length-append (dec n) (9 ∷ []),
      length-append (dec n ++ (9 ∷ [])) (fate_name f),
      length-append (dec n ++ (9 ∷ []) ++ fate_name f) (10 ∷ []),
    )

-- ---- an input

count_by : (b n : ℕ) (ps : List (List ℕ)) → length ps ≤ n → (z : Bool) → length (pick z ([] ∷ ps) (lead b ps)) ≤ suc n
count_by b n ps h true = omega arith
count_by b n [] h false = omega arith
count_by b n (p ∷ ps) h false = omega arith

-- there are no more lines than bytes
pub lines_count : (s : ℕ) (bs : List ℕ) → length (parts_at s [] bs) ≤ length bs
lines_count s [] = omega arith
lines_count s (b ∷ bs) = count_by b (length bs) (parts_at s [] bs) (lines_count s bs) (eqb b s)

output_most : {lines : List (List ℕ)} {fs : List Fate} → Fates lines fs → length (output_of fs) ≤ bytes_in lines + length lines * 10
output_most none = omega arith
output_most (next {line = line} {fate = f} {fates = fs} a r) = omega (arith, output_most r, gains line f a, length-append (line_out f) (output_of fs))

report_most : (n : ℕ) {lines : List (List ℕ)} {fs : List Fate} → Fates lines fs → length (report_from n fs) ≤ length lines * 30
report_most n none = omega arith
report_most n (next {fate = f} {fates = fs} a r) =
    omega (arith, report_most (suc n) r, row_short n f, length-append (report_line n f ++ (10 ∷ [])) (report_from (suc n) fs))

-- the rooms that always suffice
pub text_most_lem : (input : List ℕ) {fs : List Fate} → Fates (lines_of input) fs → length (output_of fs) ≤ length input + length (lines_of input) * 10
text_most_lem input a = omega (arith, output_most a, lines_bytes 10 input)

pub rows_most : (input : List ℕ) {fs : List Fate} → Fates (lines_of input) fs → length (report_of fs) ≤ length (lines_of input) * 30
rows_most input a = report_most 1 a

pub room_known : (input : List ℕ) {room space n : ℕ} → n ≡ length (lines_of input) → length input ≤ room → n ≤ (room - length input) / 10 → n ≤ space / 30
    → FitsAs input room space true
room_known input {room} {space} e h k l =
    let (fs, each) = fates_some (lines_of input) in
    let a : length (output_of fs) ≤ room = omega (arith, text_most_lem input each) in
    let b : length (report_of fs) ≤ space = omega (arith, rows_most input each) in
    record { fates = fs; each = each; is = rw (le-ltb room (length (output_of fs)) a, le-ltb space (length (report_of fs)) b) }
