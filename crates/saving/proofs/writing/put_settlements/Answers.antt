-- Assumes nothing.
use Rattle.endian.proofs.Writes.{then}
use Rattle.saving.proofs.writing.put_settlements.Goals as goal

pub returns : goal.returns
returns c = then c.put_u32-next.ensures c.put_u32.ensures
