-- Eight fields, one after the other.
use Rattle.statements.proofs.Sections.{leg_written}
use Rattle.statements.proofs.writing.put_leg.Goals as goal

pub returns : goal.returns
returns c =
    leg_written _ _ _ _ _ _ c.mark.ensures c.put_byte-first.ensures c.put_byte-second.ensures c.put_byte-third.ensures
    c.put_byte-fourth.ensures c.put_u32-price.ensures c.put_u32-lots.ensures c.put_u32.ensures
