-- By the definition.
use Rattle.std.proofs.Common.{rules}
use Rattle.rules.specs.Settlement.{settled_contract}
use Rattle.settlement.proofs.reopen.reopened.Goals as goal

pub returns : goal.returns
unfolding settled_contract
returns c = search rules
