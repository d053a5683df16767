-- `settling::all_closed` meets its contract. Assumes nothing.
use Rattle.std.proofs.Common.{rules, tests}
use Rattle.audit.proofs.Iterated.{count_tested}
use Rattle.exchange.proofs.settling.all_closed.Goals as goal

pub returns : goal.returns
returns c = count_tested _ _ c.all.ensures.ran (λ x b q k. search (rules, tests))
