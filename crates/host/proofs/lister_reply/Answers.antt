-- `host::lister_reply` meets its contract. Assumes nothing.
use Rattle.host.proofs.Replies.{lister_as}
use Rattle.host.proofs.lister_reply.Goals as goal

pub returns : goal.returns
returns c output = lister_as c.args.lister c.args.returned output (c.text_reply-reply.ensures output)
