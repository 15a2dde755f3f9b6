-- Bytes cut into whole words and what is left of them, and the listing of both: a listing of whole words and then of others is
-- the listing of all (`listing_append`). Assumes nothing.
use Prim.Native.Nat.{ℕ, ◌+◌, ◌*◌, ◌/◌, ◌%◌, ◌≤◌, ◌<◌}
use mathlib.Core.Path.{◌≡◌, refl, sym, ap, ◌∙◌}
use mathlib.Core.List.{List, [], ◌∷◌, ◌++◌, append_assoc}
use native.Mathlib.Omega.{arith}
use lib.ListN.{length, length-append, length-drop, take-append-drop}
use lib.Seq.{take_at, drop_at, length-take-le}
use Rattle.listing.specs.Listing.{short_text, line_text, word_of, line_most, listing_of}
use Rattle.listing.proofs.Steps.{line_short}
use Rattle.stream.specs.Streams.{over_in, holding, whole_of, rest_of}

pub listing_append : (a b : List ℕ) → length a % 4 ≡ 0 → listing_of (a ++ b) ≡ listing_of a ++ listing_of b
unfolding short_text
listing_append [] ys h = refl
listing_append (a ∷ []) ys h = absurd (omega (arith, h))
listing_append (a ∷ b ∷ []) ys h = absurd (omega (arith, h))
listing_append (a ∷ b ∷ c ∷ []) ys h = absurd (omega (arith, h))
listing_append (a ∷ b ∷ c ∷ d ∷ rest) ys h =
    ap (λ (l : List ℕ). line_text (word_of a b c d) ++ l) (listing_append rest ys (omega (arith, h)))
    ∙ sym (append_assoc (line_text (word_of a b c d)) (listing_of rest) (listing_of ys))

-- the line of one word
pub one_short : (a b c d : ℕ) → length (listing_of (a ∷ b ∷ c ∷ d ∷ [])) ≤ line_most + 1
unfolding short_text
one_short a b c d = omega (arith, line_short (word_of a b c d), length-append (line_text (word_of a b c d)) (listing_of []))

-- ---- whole words and the rest

module _ (w t : List ℕ) (whole : length w % 4 ≡ 0) (few : length t < 4) where
  pub whole_is : whole_of (w ++ t) ≡ w
  whole_is = take_at w t (length (w ++ t) / 4 * 4) (omega (arith, whole, length-append w t))

  pub rest_is : rest_of (w ++ t) ≡ t
  rest_is = drop_at w t (length (w ++ t) / 4 * 4) (omega (arith, whole, length-append w t))

module _ (bs : List ℕ) where
  pub parts : whole_of bs ++ rest_of bs ≡ bs
  parts = take-append-drop (length bs / 4 * 4) bs

  pub whole_words : length (whole_of bs) % 4 ≡ 0
  whole_words = omega (arith, length-take-le (length bs / 4 * 4) bs (omega arith))

  pub rest_few : length (rest_of bs) < 4
  rest_few = omega (arith, length-drop (length bs / 4 * 4) bs)

-- a lister gives back what it holds
pub held_is : (r : List ℕ) → length r < 4 → over_in (holding r) ≡ r
held_is [] h = refl
held_is (a ∷ []) h = refl
held_is (a ∷ b ∷ []) h = refl
held_is (a ∷ b ∷ c ∷ []) h = refl
held_is (a ∷ b ∷ c ∷ d ∷ r) h = absurd (omega (arith, h))
