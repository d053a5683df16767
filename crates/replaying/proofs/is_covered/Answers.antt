-- An open needs no cover, a close what its side holds.
use Rattle.std.proofs.Common.{arith}
use Rattle.std.proofs.lemmas.Grind.{common_steps}
use Rattle.rules.specs.Exchange.{account_at, holding_at}
use Rattle.rules.specs.Holdings.{leg_covered}
use Rattle.replaying.proofs.is_covered.Goals as goal

pub returns-then-close-eq0 : goal.returns-then-close-eq0
unfolding leg_covered holding_at account_at
returns-then-close-eq0 c = grind (arith, common_steps)

pub returns-else-close-eq0 : goal.returns-else-close-eq0
unfolding leg_covered holding_at account_at
returns-else-close-eq0 c = grind (arith, common_steps)
