-- Assumes nothing.
use Rattle.endian.proofs.Writes.{then}
use Rattle.mending.proofs.verdict.put_entry.Goals as goal

pub returns : goal.returns
returns c = then c.put_u64-next.ensures c.put_byte.ensures
