-- Its parts in turn. Assumes nothing.
use Rattle.rules.specs.Lines.{fields_of}
use Rattle.endian.proofs.Writes.{then}
use Rattle.lines.proofs.line.put_last.Goals as goal

pub returns : goal.returns
unfolding fields_of
returns c = then c.put_field-next.ensures c.put_byte.ensures
