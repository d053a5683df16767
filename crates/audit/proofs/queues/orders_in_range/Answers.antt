use Rattle.std.proofs.Common.{sym, ◌∙◌, get_or, rules, tests}
use Rattle.laws.specs.Choice.{all_of_all}
use Rattle.rules.specs.Exchange.{no_order}
use Rattle.rules.specs.WellFormed.{order_in_range}
use Rattle.audit.proofs.Iterated.{count_tested}
use Rattle.audit.proofs.queues.orders_in_range.Goals as goal

pub returns : goal.returns
returns c =
    let passes = order_in_range c.args.accounts c.args.next c.args.nextstamp c.args.contract in
    count_tested (λ i. passes (get_or c.args.queue.now i no_order)) _ c.all.ensures.ran (λ x b q k. search (rules, tests))
    ∙ rw c.len.ensures (sym (all_of_all passes c.args.queue.now no_order))
