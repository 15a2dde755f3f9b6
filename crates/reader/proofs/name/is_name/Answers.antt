-- `reader::name::is_name` meets its contract. Assumes nothing.
use Rattle.mnemonic.specs.route.Names.{name_at, name_text, name_operand}
use Rattle.mnemonic.proofs.Numbered.{letters_of}
use Rattle.reader.specs.route.Names.{is_name}
use Rattle.reader.proofs.name.is_name.Goals as goal

pub returns : goal.returns
unfolding is_name
returns c =
    let found = name_at c.args.number in
    let l = letters_of _ (name_text found) (name_operand found) c.mnemonic_at-m.ensures in
    rw (c.high.ensures, l.letters, l.count, l.letter)
