-- `image::line::sum` meets its contract. Assumes nothing.
use Rattle.std.proofs.Common.{◌∙◌, arith}
use Rattle.image.proofs.Tests.{begins_not, sum_not, sum_is}
use Rattle.image.proofs.line.sum.Goals as goal

pub returns-then-byte_at-ne58 : goal.returns-then-byte_at-ne58
returns-then-byte_at-ne58 c = begins_not c.args.rest.now _ c.byte_at.ensures c.if-byte_at-ne58.true

pub returns-then-byte_at-ne10 : goal.returns-then-byte_at-ne10
returns-then-byte_at-ne10 c = sum_not c.args.rest.now _ _ _ c.byte_at.ensures c.if-byte_at-ne58.false (c.from-count.ensures ∙ c.byte_in.ensures) c.byte_at-2.ensures c.if-byte_at-ne10.true

pub returns : goal.returns
returns c = sum_is c.args.rest.now _ _ _ c.byte_at.ensures c.if-byte_at-ne58.false (c.from-count.ensures ∙ c.byte_in.ensures) c.byte_at-2.ensures _ _ c.sum_of.ensures c.if-byte_at-ne10.false (omega arith)
