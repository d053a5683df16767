-- The sign, then the magnitude. Assumes nothing.
use mir.Facts.{to_z-of_z}
use Rattle.endian.proofs.Writes.{then}
use Rattle.lines.proofs.Text.{signed_below, signed_above}
use Rattle.lines.proofs.number.put_signed.Goals as goal

pub returns-then-x-lt0 : goal.returns-then-x-lt0
returns-then-x-lt0 c =
    let back = to_z-of_z c.ranges.x in
    let size = rw back at c.magnitude-n.ensures in
    let below = rw back at c.if-x-lt0.true in
    signed_below _ _ size below (then c.put_byte-next.ensures c.put_decimal.ensures)

pub returns : goal.returns
returns c =
    let back = to_z-of_z c.ranges.x in
    let size = rw back at c.magnitude-n.ensures in
    let above = rw back at c.if-x-lt0.false in
    signed_above _ _ size above c.put_decimal-2.ensures
