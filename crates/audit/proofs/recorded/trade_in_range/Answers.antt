use Rattle.std.proofs.Common.{arith}
use Rattle.std.proofs.lemmas.Grind.{common_steps}
use Rattle.audit.proofs.TestedTrades.{trade_tested}
use Rattle.audit.proofs.recorded.trade_in_range.Goals as goal

pub returns-then-t-le1 : goal.returns-then-t-le1
returns-then-t-le1 c = rw trade_tested (grind (arith, common_steps))
