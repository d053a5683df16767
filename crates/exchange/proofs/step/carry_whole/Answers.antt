-- `step::carry_whole` meets its contract, each kind by its own promise. Assumes nothing.
use Rattle.std.proofs.Common.{refl}
use Rattle.exchange.proofs.Decided.{plain_left}
use Rattle.exchange.proofs.step.carry_whole.Goals as goal

pub returns-in-Quoting : goal.returns-in-Quoting
returns-in-Quoting c = plain_left _ _ c.in-Quoting.is refl c.trade.ensures c.plain.ensures
