-- Assumes nothing.
use Rattle.std.proofs.Common.{arith}
use Rattle.laws.specs.Written.{writing_none, writing_more, writing_done}
use Rattle.saving.proofs.loading.holdings_over.Goals as goal

pub loop-c-init : goal.loop-c-init
loop-c-init c = writing_none _ _ _

pub loop-c-preserved : goal.loop-c-preserved
loop-c-preserved c = writing_more _ _ _ (omega arith) _ _ _ c.loop-c-test.true c.holding_from.ensures c.loop-c.invariant

pub returns : goal.returns
returns c = writing_done _ _ _ _ _ c.loop-c-test.false c.loop-c.invariant
