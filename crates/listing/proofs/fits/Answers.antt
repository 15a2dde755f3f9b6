-- `listing::fits` meets its contract. Assumes nothing.
use Rattle.listing.proofs.Steps.{enough}
use mathlib.Core.Path.{sym}
use Rattle.listing.proofs.fits.Goals as goal

pub returns-then-bytes-room : goal.returns-then-bytes-room
returns-then-bytes-room c = sym (enough c.args.bytes.now c.args.room c.if-room-ge-SHORT_MAX.true c.if-bytes-room.true)
