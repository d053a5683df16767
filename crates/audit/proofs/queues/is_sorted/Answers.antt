use Rattle.std.proofs.Common.{◌∙◌, rules, tests}
use Rattle.audit.proofs.Iterated.{range_tested}
use Rattle.audit.proofs.SortedQueues.{in_order, sorted_queue}
use Rattle.audit.proofs.queues.is_sorted.Goals as goal

pub returns : goal.returns
returns c =
    range_tested (in_order c.args.sell c.args.queue.now) _ _ c.all.ensures.ran (λ x b q k. search (rules, tests))
    ∙ rw (← c.len.ensures) at (sorted_queue c.args.sell c.args.queue.now)
