-- `reader::first::low_bits` meets its contract: each arm is an entry of the table. Assumes nothing.
use native.Mathlib.Omega.{arith}
use Rattle.bits.proofs.Choices.{absent, entry}
use Rattle.reader.specs.route.Targets.{low_table, low_bits}
use Rattle.reader.proofs.first.low_bits.Goals as goal

pub returns-in-3141 : goal.returns-in-3141
unfolding low_bits
returns-in-3141 c = (entry _ low_table c.in-3141.is, omega arith)

pub returns-in-311 : goal.returns-in-311
unfolding low_bits
returns-in-311 c = (entry _ low_table c.in-311.is, omega arith)

pub returns-in-3151 : goal.returns-in-3151
unfolding low_bits
returns-in-3151 c = (entry _ low_table c.in-3151.is, omega arith)

pub returns-in-312 : goal.returns-in-312
unfolding low_bits
returns-in-312 c = (entry _ low_table c.in-312.is, omega arith)

pub returns-in-3161 : goal.returns-in-3161
unfolding low_bits
returns-in-3161 c = (entry _ low_table c.in-3161.is, omega arith)

pub returns-in_default : goal.returns-in_default
unfolding low_bits
returns-in_default c = (absent _ low_table _ c.in_default.in_default-own.rest, omega arith)
