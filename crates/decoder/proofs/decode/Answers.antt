-- `decoder::decode` meets its contract. Assumes nothing.
use mathlib.Core.Path.{◌∙◌}
use Rattle.decoder.proofs.Arms.{decoded_is, found_is, refused_empty}
use Rattle.decoder.proofs.decode.Goals as goal

pub returns-clause-exact : goal.returns-clause-exact
returns-clause-exact c =
    found_is (c.decoded.ensures ∙ decoded_is c.args.word c.examine-examined.ensures) (refused_empty c.args.word) c.found.ensures.done c.found.ensures.refused
