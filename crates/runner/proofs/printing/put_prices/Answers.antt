-- Assumes nothing.
use Rattle.std.proofs.Common.{arith}
use Rattle.lines.specs.Tables.{price_line_most}
use Rattle.runner.proofs.Tables.{rows_none, rows_more}
use Rattle.runner.proofs.printing.put_prices.Goals as goal

pub loop-c-init : goal.loop-c-init
loop-c-init c = rows_none _ (omega arith)

pub loop-c-preserved : goal.loop-c-preserved
loop-c-preserved c = rows_more _ _ _ price_line_most _ (omega arith) c.loop-c.invariant c.put_price-next.ensures
