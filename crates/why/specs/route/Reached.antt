-- What the code has written.
use Rattle.std.specs.Prelude.{ℕ, ◌+◌, ◌*◌, ◌/◌, List, [], ◌∷◌, length, nat_lt}
use Rattle.std.proofs.lemmas.List.Edits.{sets}
use Rattle.bits.specs.Choice.{pick}
use Rattle.instruction.specs.declared.answer.Answer.TheVariants.{NoRoom}
use Rattle.instruction.specs.Answers.{answer_number}
use Rattle.why.specs.Reply.{Said, said_from}
use Rattle.why.specs.Trail.{Link, numbers_of, Trail}

-- one link behind d others; what has no room is dropped
unfoldable pub put_one : ℕ → List ℕ → List ℕ → List ℕ
put_one d numbers before = pick (nat_lt d (length before / 3)) (sets before (d * 3) numbers) before

unfoldable pub put_all : ℕ → ℕ → List Link → List ℕ → List ℕ
put_all origin d [] before = before
put_all origin d (l ∷ ls) before = put_all origin (d + 1) ls (put_one d (numbers_of origin l) before)

-- what is written behind d other links, and how many there are then, or 0
pub record Written : Type 0 where
  pub links : List ℕ
  pub count : ℕ

abbrev pub written_of : ℕ → ℕ → Trail → List ℕ → Written
written_of origin d t before = record { links = put_all origin d t.links before; count = pick t.marked (d + length t.links) 0 }

-- what is said of the links where the question isn't refused
unfoldable pub listed_of : ℕ → List Link → List ℕ → Said
listed_of origin ls before = said_from origin (pick (nat_lt (length before) (length ls * 3)) (answer_number NoRoom) 0) ls before
