-- Assumes nothing.
use Rattle.sections.proofs.Held.{holding_written}
use Rattle.sections.proofs.put_holding.Goals as goal

pub returns : goal.returns
returns c = holding_written _ c.put_u32-next.ensures c.put_u32.ensures
