-- The closing part, then the holding part.
use mir.Facts.{to_z-of_z}
use Rattle.std.proofs.Common.{ap, ◌∙◌}
use Rattle.endian.specs.Numbers.{unsigned}
use Rattle.statements.proofs.Sections.{profit_written}
use Rattle.statements.proofs.writing.put_profit.Goals as goal

pub returns : goal.returns
returns c =
    profit_written c.args.closing c.args.holding _ _ (c.unsigned.ensures ∙ ap unsigned (to_z-of_z c.ranges.closing))
    (c.unsigned-2.ensures ∙ ap unsigned (to_z-of_z c.ranges.holding)) c.put_u64-next.ensures c.put_u64.ensures
