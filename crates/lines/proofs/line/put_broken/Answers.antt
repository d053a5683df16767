-- Assumes nothing.
use Rattle.std.proofs.Common.{◌∙◌}
use Rattle.rules.specs.Lines.{fields_of, decimal, digits}
use Rattle.endian.proofs.Writes.{then}
use Rattle.lines.proofs.line.put_broken.Goals as goal

pub returns : goal.returns
unfolding fields_of decimal digits
returns c = then c.put_byte-letter.ensures (rw (c.from.ensures ∙ c.number.ensures) at c.put_last.ensures)
