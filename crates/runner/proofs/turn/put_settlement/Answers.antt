-- Its two tables. Assumes nothing.
use Rattle.std.proofs.Common.{arith}
use Rattle.endian.proofs.Writes.{looser, then}
use Rattle.runner.specs.Rows.{settlement_rows}
use Rattle.runner.specs.Turns.{settlement_most}
use Rattle.runner.proofs.turn.put_settlement.Goals as goal

pub returns : goal.returns
unfolding settlement_rows
returns c = looser (then c.put_prices-next.ensures c.put_accounts.ensures) settlement_most (omega arith)
