-- `lookup::decode_in` meets its contract. Assumes nothing.
use mathlib.Core.Path.{◌∙◌, ap}
use Rattle.decoder.specs.Decoding.{decoded_from}
use Rattle.decoder.proofs.Arms.{found_is}
use Rattle.lookup.proofs.Refused.{refused_empty}
use Rattle.lookup.proofs.decode_in.Goals as goal

pub returns-clause-exact : goal.returns-clause-exact
returns-clause-exact c =
    found_is (c.decoded.ensures ∙ ap decoded_from c.examine_in-examined.ensures) (refused_empty c.args.lent.now c.args.word)
    c.found.ensures.done c.found.ensures.refused
