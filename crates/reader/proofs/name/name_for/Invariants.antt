-- The search of `reader::name::name_for`: what is left finds what the whole search does.
use mathlib.Core.Path.{◌≡◌}
use Rattle.mnemonic.specs.route.Names.{name_count}
use Rattle.reader.specs.route.Names.{searched}
use Rattle.reader.proofs.name.name_for.Given as goal

abbrev pub invariant-loop-number : goal.invariant-loop-number
invariant-loop-number l = searched l.number l.name l.letter ≡ searched name_count l.name l.letter
