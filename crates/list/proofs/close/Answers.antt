-- The law of a `short` line that has room (`close_room`).
use Rattle.stream.proofs.Rooms.{close_room}
use Rattle.list.proofs.close.Goals as goal

pub unwrap-requires : goal.unwrap-requires
unwrap-requires c = (close_room c.args.lister.now c.args.output.now c.requires.ready c.close.result _ _ c.close.ensures.value c.close.ensures.refused c.requires.room).0

pub returns : goal.returns
returns c = (close_room c.args.lister.now c.args.output.now c.requires.ready c.close.result _ _ c.close.ensures.value c.close.ensures.refused c.requires.room).1 _ c.unwrap.ensures
