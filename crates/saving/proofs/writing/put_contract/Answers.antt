-- Its fields one after the other. Assumes nothing.
use Rattle.saving.proofs.Sections.{contract_written}
use Rattle.saving.proofs.writing.put_contract.Goals as goal

pub returns : goal.returns
returns c =
    contract_written _ c.put_u16-multiplier.ensures c.put_u16-tick.ensures c.put_u32-reference.ensures c.put_u32-band.ensures
    c.put_u32-limit.ensures c.put_u16-rate.ensures c.put_u16-method.ensures c.put_u32.ensures
