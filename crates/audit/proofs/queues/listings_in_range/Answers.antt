use Rattle.std.proofs.Common.{rules, tests}
use Rattle.audit.proofs.Iterated.{count_tested}
use Rattle.audit.proofs.queues.listings_in_range.Goals as goal

pub returns : goal.returns
returns c = count_tested _ _ c.all.ensures.ran (λ x b q k. search (rules, tests))
