-- Its parts in turn. Assumes nothing.
use Rattle.endian.proofs.Writes.{then}
use Rattle.lines.proofs.line.put_first.Goals as goal

pub returns : goal.returns
returns c = then c.put_byte-next.ensures c.put_field.ensures
