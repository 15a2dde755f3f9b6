-- What a list of calls comes to, refused ones among them: 02, CR 5.
use Rattle.std.specs.Prelude.{ℕ, Bool, List, [], ◌∷◌, ◌++◌, eqb, take}
use Rattle.bits.specs.Choice.{pick}
use Rattle.instruction.specs.Answers.{answer_number}
use Rattle.stream.specs.declared.Lister.{Lister}
use Rattle.stream.specs.Streams.{Outcome, Call, push, close, call_of}

abbrev pub fragment_of : Call → List ℕ
fragment_of (push fragment output) = fragment
fragment_of (close output) = []

-- what calls come to in order: the lister after them, the joined output of those that weren't refused, and their joined fragments
pub record Played : Type 0 where
  pub lister : Lister
  pub output : List ℕ
  pub fragments : List ℕ

abbrev pub unrefused : Outcome → Bool
unrefused r = eqb (answer_number r.answer) 0

abbrev pub ahead : Outcome → List ℕ → Played → Played
ahead r fragment rest =
    record {
      lister = rest.lister;
      output = pick (unrefused r) (take r.length r.buffer) [] ++ rest.output;
      fragments = pick (unrefused r) fragment [] ++ rest.fragments;
    }

abbrev pub played : Lister → List Call → Played
played l [] = record { lister = l; output = []; fragments = [] }
played l (c ∷ cs) = ahead (call_of l c) (fragment_of c) (played (call_of l c).lister cs)
