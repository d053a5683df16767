-- Assumes nothing.
use Rattle.rules.specs.Lines.{fields_of}
use Rattle.endian.proofs.Writes.{then}
use Rattle.lines.proofs.line.put_price.Goals as goal

pub returns : goal.returns
unfolding fields_of
returns c = then (rw c.from.ensures at c.put_first-contract.ensures) (rw c.from-2.ensures at c.put_last.ensures)
