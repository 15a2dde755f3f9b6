-- The line of a word where it stands in an input, and bytes copied eight at a time. Assumes nothing.
use Prim.Native.Nat.{ℕ, ◌+◌, ◌-◌, ◌^◌, ◌≤◌, ◌<◌}
use mathlib.Core.Path.{◌≡◌, refl, sym, ap, ◌∙◌}
use mathlib.Core.List.{List, [], ◌∷◌, ◌++◌, append_assoc}
use native.Mathlib.Omega.{arith}
use borrow.Author.Tests.{eq-eqb, ne_eqb}
use lib.ListN.{length, take, drop, length-append, length-drop, take-append-drop}
use lib.Seq.{sets-eq, take_at, take_all}
use Rattle.ascii.specs.route.Puts.{Puts}
use Rattle.ascii.proofs.Pieces.{fits}
use Rattle.listing.specs.Listing.{line_text, line_most}
use Rattle.listing.proofs.Steps.{line_short}
use Rattle.rescue.specs.declared.Fate.TheVariants.{Kept}
use Rattle.rescue.specs.route.Search.{until}
use Rattle.rescue.specs.route.Steps.{LineAt, Stands}
use Rattle.rescue.proofs.Parts.{Free, nil, cons}
use Rattle.rescue.proofs.Fates.{body_of, line_is, body_free}

-- ---- a word's line in an input

until_part : (s : ℕ) {p : List ℕ} → Free s p → (rest : List ℕ) → until s (p ++ (s ∷ rest)) ≡ length p
until_part s nil rest = rw (eq-eqb s s refl)
until_part s (cons {b} h c) rest = rw (ne_eqb b s h, until_part s c rest)

module _ {input : List ℕ} {at w long : ℕ} (s : Stands input at w long) where
  long_is : long ≡ length (body_of w) + 1
  long_is = s.all ∙ ap length (line_is w) ∙ length-append (body_of w) (10 ∷ [])

  stands_rest : drop at input ≡ body_of w ++ (10 ∷ drop long (drop at input))
  stands_rest =
      sym (take-append-drop long (drop at input))
      ∙ ap (λ (t : List ℕ). t ++ drop long (drop at input)) (s.is ∙ line_is w)
      ∙ append_assoc (body_of w) (10 ∷ []) (drop long (drop at input))

  stands_until : until 10 (drop at input) ≡ length (body_of w)
  stands_until = ap (until 10) stands_rest ∙ until_part 10 (body_free w) (drop long (drop at input))

  stands_body : take (length (body_of w)) (drop at input) ≡ body_of w
  stands_body = ap (take (length (body_of w))) stands_rest ∙ take_at (body_of w) (10 ∷ drop long (drop at input)) (length (body_of w)) refl

  -- it is a line of the input, and kept
  pub stands_line : at ≤ length input → w < 2 ^ 32 → LineAt input at (at + (long - 1)) (Kept w)
  stands_line h below =
      let n : at + (long - 1) - at ≡ length (body_of w) = omega (arith, long_is) in
      let rest = ap length stands_rest ∙ length-append (body_of w) (10 ∷ drop long (drop at input)) in
      record {
        ends = omega (arith, long_is, stands_until);
        most = omega (arith, long_is, rest, length-drop at input, h);
        is = record {
          below = below;
          whole = ap (λ (k : ℕ). take k (drop at input) ++ (10 ∷ [])) n ∙ ap (λ (t : List ℕ). t ++ (10 ∷ [])) stands_body ∙ sym (line_is w);
        };
      }

-- all that is behind a place
pub to_end : (xs : List ℕ) (n : ℕ) → take (length xs - n) (drop n xs) ≡ drop n xs
to_end xs n = take_all (length xs - n) (drop n xs) (omega (arith, length-drop n xs))

-- what stands in a buffer is what an input begins with
pub stands_told : {input xs ys s : List ℕ} {at w r : ℕ} → Puts xs 0 (line_text w) ys r → line_most + 1 ≤ length xs → (n : ℕ) → n ≡ r → s ≡ drop at input
    → s ≡ take n ys ++ drop (length (take n ys)) s → Stands input at w r
stands_told {input} {xs} {ys} {s} {at} {w} {r} p h n a e t =
    let room : 0 + length (line_text w) ≤ length xs = omega (arith, line_short w) in
    let all : r ≡ length (line_text w) = omega (arith, fits p room) in
    let front : take (length (line_text w)) ys ≡ line_text w =
    ap (take (length (line_text w))) (p.text ∙ sets-eq (line_text w) xs 0 room) ∙ take_at (line_text w) (drop (0 + length (line_text w)) xs) (length (line_text w)) refl in
    let line : take n ys ≡ line_text w = ap (λ (k : ℕ). take k ys) (a ∙ all) ∙ front in
    record {
      all = all;
      is = ap (take r) (sym e ∙ t) ∙ take_at (take n ys) (drop (length (take n ys)) s) r (ap length line ∙ sym all) ∙ line;
    }
