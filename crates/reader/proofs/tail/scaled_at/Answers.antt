-- `reader::tail::scaled_at` meets its contract: each arm is an entry of the table. Assumes nothing.
use Rattle.bits.proofs.Choices.{absent, entry}
use Rattle.reader.specs.route.Tails.{scaled_at, scaled_table}
use Rattle.reader.proofs.tail.scaled_at.Goals as goal

pub returns-in-7814708525673742336 : goal.returns-in-7814708525673742336
unfolding scaled_at
returns-in-7814708525673742336 c = entry _ scaled_table c.in-7814708525673742336.is

pub returns-in-8607637231718367232 : goal.returns-in-8607637231718367232
unfolding scaled_at
returns-in-8607637231718367232 c = entry _ scaled_table c.in-8607637231718367232.is

pub returns-in-8607637223128432640 : goal.returns-in-8607637223128432640
unfolding scaled_at
returns-in-8607637223128432640 c = entry _ scaled_table c.in-8607637223128432640.is

pub returns-in-8679694817166360576 : goal.returns-in-8679694817166360576
unfolding scaled_at
returns-in-8679694817166360576 c = entry _ scaled_table c.in-8679694817166360576.is

pub returns-in_default : goal.returns-in_default
unfolding scaled_at
returns-in_default c = absent _ scaled_table _ c.in_default.in_default-own.rest
