-- An output with room for the longest line of each word and for a `short` line is never too short: no line is lost.
-- Assumes nothing.
use Prim.Native.Nat.{ℕ, suc, ◌+◌, ◌*◌, ◌/◌, ◌≤◌}
use mathlib.Core.Path.{◌≡◌, refl, ap, ◌∙◌}
use mathlib.Core.Bool.{false}
use mathlib.Core.List.{List, [], ◌∷◌, ◌++◌}
use native.Mathlib.Omega.{arith}
use borrow.Author.Tests.{le-ltb}
use lib.ListN.{length, take, length-append, length-take}
use lib.Seq.{sets}
use Rattle.bits.proofs.Lists.{sets_front}
use Rattle.std.proofs.Common.{Result, Ok, Err}
use Rattle.std.specs.Result.{IfErr, IsOk}
use Rattle.instruction.specs.declared.answer.Answer.{Answer}
use Rattle.instruction.specs.declared.answer.Answer.TheVariants.{Done}
use Rattle.listing.specs.Listing.{listing_of, line_most}
use Rattle.listing.proofs.Steps.{listing_most}
use Rattle.stream.specs.declared.Lister.{Lister}
use Rattle.stream.specs.Streams.{Outcome, outcome, over_in, refuses, whole_of, rest_of, handed, push, close, call_of}
use Rattle.stream.proofs.Splits.{rest_few}
use Rattle.stream.proofs.Returns.{open_few}
use Rattle.stream.proofs.Calls.{holds}

ok_is : {n m : ℕ} → ◌≡◌ {A = Result ℕ Answer} (Ok n) (Ok m) → n ≡ m
ok_is q = cc

module _ (l : Lister) (o : List ℕ) (h : refuses l ≡ false) where
  over_few : length (over_in l) ≤ 3
  over_few = omega (arith, open_few l h, length-take l.count (l.first ∷ l.second ∷ l.third ∷ []))

  front : (lines : List ℕ) → length lines ≤ length o → {n m : ℕ} {after : List ℕ} → n ≡ length lines → after ≡ sets o 0 lines → ◌≡◌ {A = Result ℕ Answer} (Ok n) (Ok m) → take m after ≡ lines
  front lines fits e b q = let same = ok_is q in rw (← same, e, b) (sets_front lines o fits)

  push_fits : (f : List ℕ) → (3 + length f) / 4 * suc line_most + 10 ≤ length o → length (listing_of (whole_of (over_in l ++ f))) ≤ length o
  push_fits f room =
      let bs = over_in l ++ f in
      omega (arith, listing_most (whole_of bs), length-take (length bs / 4 * 4) bs, length-append (over_in l) f, over_few, room)

  -- what a call that has room returns is a length, of lines that are the output's start
  pub push_room : (f : List ℕ) (r : Result ℕ Answer) (k : Lister) (after : List ℕ) → outcome k r after ≡ call_of l (push f o) → IfErr r (λ answer. ¬ (answer ≡ Done))
      → (3 + length f) / 4 * suc line_most + 10 ≤ length o → IsOk r × (refuses k ≡ false) × ((n : ℕ) → r ≡ Ok n → take n after ≡ listing_of (whole_of (over_in l ++ f)))
  unfolding call_of handed
  push_room f (Ok n) k after e refused room =
      let bs = over_in l ++ f in
      let lines = listing_of (whole_of bs) in
      let fits = push_fits f room in
      let all = rw (h, le-ltb (length o) (length lines) fits) at e in
      let ready = ap (λ (x : Outcome). refuses x.lister) all ∙ holds (rest_of bs) (rest_few bs) in
      (refl, ready, λ m q. front lines fits (ap (λ (x : Outcome). x.length) all) (ap (λ (x : Outcome). x.buffer) all) q)
  push_room f (Err a) k after e refused room =
      let lines = listing_of (whole_of (over_in l ++ f)) in
      absurd (refused (ap (λ (x : Outcome). x.answer) (rw (h, le-ltb (length o) (length lines) (push_fits f room)) at e)))

  close_fits : 10 ≤ length o → length (listing_of (over_in l)) ≤ length o
  close_fits room = omega (arith, listing_most (over_in l), over_few, room)

  pub close_room : (r : Result ℕ Answer) (k : Lister) (after : List ℕ) → outcome k r after ≡ call_of l (close o) → IfErr r (λ answer. ¬ (answer ≡ Done)) → 10 ≤ length o
      → IsOk r × ((n : ℕ) → r ≡ Ok n → take n after ≡ listing_of (over_in l))
  unfolding call_of handed
  close_room (Ok n) k after e refused room =
      let lines = listing_of (over_in l) in
      let fits = close_fits room in
      let all = rw (h, le-ltb (length o) (length lines) fits) at e in
      (refl, λ m q. front lines fits (ap (λ (x : Outcome). x.length) all) (ap (λ (x : Outcome). x.buffer) all) q)
  close_room (Err a) k after e refused room =
      let lines = listing_of (over_in l) in
      absurd (refused (ap (λ (x : Outcome). x.answer) (rw (h, le-ltb (length o) (length lines) (close_fits room)) at e)))
