-- What is lent of a run, as the definitions have it.
use Rattle.why.specs.declared.history.History.{History}
use Rattle.why.specs.Trail.{Past, lent}
use Rattle.why.specs.route.Came.{Steps, steps_of}

abbrev pub past_in : History → Past
past_in h = lent h.words.now h.trace.now h.statuses.now h.origin h.register_taint.now h.vector_taint.now h.taint.now

-- and without the start
abbrev pub steps_in : History → Steps
steps_in h = steps_of h.words.now h.trace.now h.statuses.now h.origin
