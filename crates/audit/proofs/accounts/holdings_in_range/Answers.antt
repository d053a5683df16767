use Rattle.std.proofs.Common.{rules, tests, sym, ◌∙◌}
use Rattle.std.proofs.lemmas.Iterator.{serves_from_Range}
use Rattle.laws.specs.Choice.{all_at}
use Rattle.rules.specs.Exchange.{holding_at}
use Rattle.rules.specs.WellFormed.{holding_in_range}
use Rattle.audit.specs.Parts.{listing}
use Rattle.audit.proofs.Iterated.{count_tested}
use Rattle.audit.proofs.Walks.{all_swap}
use Rattle.audit.proofs.accounts.holdings_in_range.Goals as goal

pub all-requires-clause-callable : goal.all-requires-clause-callable
all-requires-clause-callable c =
    serves_from_Range (λ x q k. search rules) (λ x low high. let listings = all_at _ _ _ c.requires.1 high in search rules)

pub returns : goal.returns
returns c =
    count_tested _ _ c.all.ensures.ran (λ x b q k. search (rules, tests))
    ∙ sym (all_swap (λ a c'. holding_in_range (listing c.args.state c.args.buys.now c.args.sells.now c') a (holding_at c.args.state.accounts a c')) _ _)
