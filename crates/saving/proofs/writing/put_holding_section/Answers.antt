-- Assumes nothing.
use Rattle.std.proofs.Common.{◌*◌}
use Rattle.sections.specs.Sections.{holdings_bytes}
use Rattle.saving.proofs.Sections.{both_written, count_room}
use Rattle.saving.proofs.writing.put_holding_section.Goals as goal

pub put_u32-next-requires : goal.put_u32-next-requires
put_u32-next-requires c = count_room (c.args.n * c.args.contracts) (holdings_bytes c.args.list c.args.n c.args.contracts) _ _ c.requires.2

pub returns : goal.returns
returns c = both_written _ _ c.put_u32-next.ensures c.put_holdings.ensures
