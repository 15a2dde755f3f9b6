-- What a read may give. Which bytes come is the system's to say.
use Rattle.std.specs.Prelude.{ℕ, ◌<◌, List, Option, Some, None, Result, Ok, Err}
use Prim.{Unit}
use Rattle.io.specs.Counts.{IsPrefixLen}
use Rattle.console.specs.declared.Failed.{Failed}

-- some bytes at the start of a buffer, the end of the input, or a failure
abbrev pub Came : Result (Option ℕ) Failed → List ℕ → Type 0
Came (Ok (Some n)) buffer = (0 < n) × IsPrefixLen n buffer
Came (Ok None) buffer = Unit
Came (Err _) buffer = Unit
