-- `reader::name::letter_for` meets its contract: each arm is an entry of the table. Assumes nothing.
use Rattle.bits.proofs.Choices.{absent, entry}
use Rattle.reader.specs.route.Names.{letter_for, letter_table}
use Rattle.reader.proofs.name.letter_for.Goals as goal

pub returns-in-3204029659897397248 : goal.returns-in-3204029659897397248
unfolding letter_for
returns-in-3204029659897397248 c = entry _ letter_table c.in-3204029659897397248.is

pub returns-in-3202756936533540864 : goal.returns-in-3202756936533540864
unfolding letter_for
returns-in-3202756936533540864 c = entry _ letter_table c.in-3202756936533540864.is

pub returns-in-3204311134874107904 : goal.returns-in-3204311134874107904
unfolding letter_for
returns-in-3204311134874107904 c = entry _ letter_table c.in-3204311134874107904.is

pub returns-in-3202756940828508160 : goal.returns-in-3202756940828508160
unfolding letter_for
returns-in-3202756940828508160 c = entry _ letter_table c.in-3202756940828508160.is

pub returns-in-3198118685386473472 : goal.returns-in-3198118685386473472
unfolding letter_for
returns-in-3198118685386473472 c = entry _ letter_table c.in-3198118685386473472.is

pub returns-in-3199807535246737408 : goal.returns-in-3199807535246737408
unfolding letter_for
returns-in-3199807535246737408 c = entry _ letter_table c.in-3199807535246737408.is

pub returns-in-3202903759990554624 : goal.returns-in-3202903759990554624
unfolding letter_for
returns-in-3202903759990554624 c = entry _ letter_table c.in-3202903759990554624.is

pub returns-in-3198681635339894784 : goal.returns-in-3198681635339894784
unfolding letter_for
returns-in-3198681635339894784 c = entry _ letter_table c.in-3198681635339894784.is

pub returns-in-3202340810037133312 : goal.returns-in-3202340810037133312
unfolding letter_for
returns-in-3202340810037133312 c = entry _ letter_table c.in-3202340810037133312.is

pub returns-in_default : goal.returns-in_default
unfolding letter_for
returns-in_default c = absent _ letter_table _ c.in_default.in_default-own.rest
