-- `reader::tail::tail_at` meets its contract: each arm is an entry of the table. Assumes nothing.
use Rattle.bits.proofs.Choices.{absent, entry}
use Rattle.reader.specs.route.Tails.{tail_at, tail_table}
use Rattle.reader.proofs.tail.tail_at.Goals as goal

pub returns-in-0 : goal.returns-in-0
unfolding tail_at
returns-in-0 c = entry _ tail_table c.in-0.is

pub returns-in-6711207869712171008 : goal.returns-in-6711207869712171008
unfolding tail_at
returns-in-6711207869712171008 c = entry _ tail_table c.in-6711207869712171008.is

pub returns-in-6714061102386249728 : goal.returns-in-6714061102386249728
unfolding tail_at
returns-in-6714061102386249728 c = entry _ tail_table c.in-6714061102386249728.is

pub returns-in-2404116258992685056 : goal.returns-in-2404116258992685056
unfolding tail_at
returns-in-2404116258992685056 c = entry _ tail_table c.in-2404116258992685056.is

pub returns-in-2404127404432818176 : goal.returns-in-2404127404432818176
unfolding tail_at
returns-in-2404127404432818176 c = entry _ tail_table c.in-2404127404432818176.is

pub returns-in-2522015791327477760 : goal.returns-in-2522015791327477760
unfolding tail_at
returns-in-2522015791327477760 c = entry _ tail_table c.in-2522015791327477760.is

pub returns-in-3252443355891630080 : goal.returns-in-3252443355891630080
unfolding tail_at
returns-in-3252443355891630080 c = entry _ tail_table c.in-3252443355891630080.is

pub returns-in_default : goal.returns-in_default
unfolding tail_at
returns-in_default c = absent _ tail_table _ c.in_default.in_default-own.rest
