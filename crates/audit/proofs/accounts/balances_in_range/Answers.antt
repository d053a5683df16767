use Rattle.std.proofs.Common.{rules, tests}
use Rattle.audit.proofs.Iterated.{slice_tested}
use Rattle.audit.proofs.accounts.balances_in_range.Goals as goal

pub returns : goal.returns
returns c = slice_tested _ _ (cc) c.all.ensures.ran (λ x b q k. search (rules, tests))
