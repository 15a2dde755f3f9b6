-- `reader::tail::option_at` meets its contract: each arm is an entry of the table. Assumes nothing.
use Rattle.bits.proofs.Choices.{absent, entry}
use Rattle.reader.specs.route.Tails.{option_at, option_table}
use Rattle.reader.proofs.tail.option_at.Goals as goal

pub returns-in-0 : goal.returns-in-0
unfolding option_at
returns-in-0 c = entry _ option_table c.in-0.is

pub returns-in-7814708525673742336 : goal.returns-in-7814708525673742336
unfolding option_at
returns-in-7814708525673742336 c = entry _ option_table c.in-7814708525673742336.is

pub returns-in-6734979828463697920 : goal.returns-in-6734979828463697920
unfolding option_at
returns-in-6734979828463697920 c = entry _ option_table c.in-6734979828463697920.is

pub returns-in-8607637231718367232 : goal.returns-in-8607637231718367232
unfolding option_at
returns-in-8607637231718367232 c = entry _ option_table c.in-8607637231718367232.is

pub returns-in-6734979828430143488 : goal.returns-in-6734979828430143488
unfolding option_at
returns-in-6734979828430143488 c = entry _ option_table c.in-6734979828430143488.is

pub returns-in-8607637223128432640 : goal.returns-in-8607637223128432640
unfolding option_at
returns-in-8607637223128432640 c = entry _ option_table c.in-8607637223128432640.is

pub returns-in_default : goal.returns-in_default
unfolding option_at
returns-in_default c = absent _ option_table _ c.in_default.in_default-own.rest
