-- `image::milestarling_import` meets its contract. Assumes nothing.
use Rattle.image.proofs.Texts.{import_not, import_sound, import_done}
use Rattle.image.proofs.milestarling_import.Goals as goal

pub fill-requires : goal.fill-requires
fill-requires c = import_sound _ c.args.text.now c.args.memory.now c.args.taint.now c.in-Ok.ensures

pub returns-in-Ok : goal.returns-in-Ok
returns-in-Ok c = import_done _ c.args.text.now c.args.memory.now c.args.taint.now c.in-Ok.ensures _ _ _ c.replied.ensures c.fill.ensures.0 c.fill.ensures.1

pub returns-in-Err : goal.returns-in-Err
returns-in-Err c = import_not _ c.args.text.now c.args.memory.now c.args.taint.now _ c.in-Err.fault c.in-Err.ensures c.replied-in-Err.ensures
