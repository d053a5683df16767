use Rattle.std.proofs.Common.{rules, tests}
use Rattle.std.proofs.lemmas.Iterator.{serves_from_Range}
use Rattle.laws.specs.Choice.{all_at}
use Rattle.audit.proofs.Iterated.{count_tested}
use Rattle.audit.proofs.quotes.listings_quoted.Goals as goal

pub all-requires-clause-callable : goal.all-requires-clause-callable
all-requires-clause-callable c =
    serves_from_Range (λ x q k. search rules) (λ x low high. let listings = all_at _ _ _ c.requires.1 high in search rules)

pub returns : goal.returns
returns c = count_tested _ _ c.all.ensures.ran (λ x b q k. search (rules, tests))
