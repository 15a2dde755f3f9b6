-- The law of lines that have room (`push_room`).
use Rattle.std.proofs.Common.{arith}
use Rattle.stream.proofs.Rooms.{push_room}
use Rattle.list.proofs.push_part.Goals as goal

pub unwrap-requires : goal.unwrap-requires
unwrap-requires c =
    let r = push_room c.args.lister.now c.args.output.now c.requires.ready c.args.part.now c.push.result _ _ c.push.ensures.value c.push.ensures.refused (omega (arith, c.requires.few, c.requires.room)) in
    r.0

pub returns : goal.returns
returns c =
    let r = push_room c.args.lister.now c.args.output.now c.requires.ready c.args.part.now c.push.result _ _ c.push.ensures.value c.push.ensures.refused (omega (arith, c.requires.few, c.requires.room)) in
    record { ready = r.1; lines = r.2 _ c.unwrap.ensures }
