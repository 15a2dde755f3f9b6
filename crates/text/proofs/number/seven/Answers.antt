-- `text::number::seven` meets its contract. Assumes nothing.
use mathlib.Core.Path.{refl}
use Rattle.bits.specs.Bytes.{bytes_of}
use Rattle.text.proofs.Packing.{on, spelled, shows_as, constant}
use Rattle.text.proofs.Numbers.{seven_are}
use Rattle.text.proofs.number.seven.Goals as goal

pub returns : goal.returns
unfolding bytes_of
returns c =
    let leads = on (on (on (on (on (on c.led-7.ensures c.led-6.ensures) c.led-5.ensures) c.led-4.ensures) c.led-3.ensures) c.led-2.ensures) c.led.ensures in
    shows_as (rw (c.digit.ensures, c.digit-2.ensures, c.digit-3.ensures, c.digit-4.ensures, c.digit-5.ensures, c.digit-6.ensures, c.digit-7.ensures) (seven_are c.args.n)) (spelled leads (constant refl refl refl))
