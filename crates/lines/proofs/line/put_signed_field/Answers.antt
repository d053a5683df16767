-- Its parts in turn. Assumes nothing.
use mir.Facts.{to_z-of_z}
use Rattle.endian.proofs.Writes.{then}
use Rattle.lines.proofs.line.put_signed_field.Goals as goal

pub returns : goal.returns
returns c = rw (to_z-of_z c.ranges.x) at (then c.put_byte-next.ensures c.put_signed.ensures)
