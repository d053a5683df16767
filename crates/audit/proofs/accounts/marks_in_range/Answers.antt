use Rattle.std.proofs.Common.{rules, tests}
use Rattle.rules.specs.WellFormed.{mark_in_range}
use Rattle.audit.proofs.Iterated.{slice_tested}
use Rattle.audit.proofs.accounts.marks_in_range.Goals as goal

pub returns : goal.returns
unfolding mark_in_range
returns c = slice_tested _ _ (cc) c.all.ensures.ran (λ x b q k. search (rules, tests))
