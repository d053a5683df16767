-- Assumes nothing.
use Rattle.std.proofs.Common.{refl, arith}
use Rattle.saving.proofs.AddedUp.{adding_none, adding_more, adding_done}
use Rattle.saving.proofs.totals.totals_equal.Goals as goal

pub loop-a-init : goal.loop-a-init
loop-a-init c = adding_none _ _

pub loop-a-preserved : goal.loop-a-preserved
loop-a-preserved c = adding_more _ _ c.loop-a-test.true c.loop-a.invariant refl refl (omega arith) (omega arith)

pub returns : goal.returns
returns c = adding_done _ _ c.loop-a-test.false c.loop-a.invariant
