-- `rescue::fits` meets its contract: by counting (`room_known`), or by measuring. Assumes nothing.
use Rattle.rescue.proofs.Rooms.{room_known}
use Rattle.rescue.proofs.fits.Goals as goal

pub returns-then-lines-space : goal.returns-then-lines-space
returns-then-lines-space c = room_known _ c.count-lines.ensures c.if-input-room.true c.if-lines-room.true c.if-lines-space.true
