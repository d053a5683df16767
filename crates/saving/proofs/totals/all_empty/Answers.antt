-- Assumes nothing.
use Rattle.std.proofs.Common.{sym}
use Rattle.laws.specs.Choice.{all_more, all_none, all_stop}
use Rattle.saving.proofs.AddedUp.{is_empty, not_pre_open, some_buys, some_sells}
use Rattle.saving.proofs.totals.all_empty.Goals as goal
use Rattle.saving.proofs.totals.all_empty.Goals.{then-state-c-ne-PRE_OPEN-via-then-state-c-ne-PRE_OPEN}
use Rattle.saving.proofs.totals.all_empty.Goals.{then-state-c-ne-PRE_OPEN-via-else-state-c-ne-PRE_OPEN+then-state-c-ne0}
use Rattle.saving.proofs.totals.all_empty.Goals.{then-state-c-ne-PRE_OPEN-via-else-state-c-ne-PRE_OPEN+else-state-c-ne0+then-state-c-ne0-2}

pub loop-c-init : goal.loop-c-init
loop-c-init c = all_none _

pub returns-then-state-c-ne-PRE_OPEN : goal.returns-then-state-c-ne-PRE_OPEN
returns-then-state-c-ne-PRE_OPEN c = sym (all_stop _ _ _ c.loop-c-test.true (elim c.then-state-c-ne-PRE_OPEN.branch [
  | then-state-c-ne-PRE_OPEN-via-then-state-c-ne-PRE_OPEN w ↦ not_pre_open c.args.state c.loop-c.c w.if-state-c-ne-PRE_OPEN.true
  | then-state-c-ne-PRE_OPEN-via-else-state-c-ne-PRE_OPEN+then-state-c-ne0 w ↦ some_buys c.args.state c.loop-c.c w.if-state-c-ne0.true
  | then-state-c-ne-PRE_OPEN-via-else-state-c-ne-PRE_OPEN+else-state-c-ne0+then-state-c-ne0-2 w ↦ some_sells c.args.state c.loop-c.c w.if-state-c-ne0-2.true
]))

pub loop-c-preserved : goal.loop-c-preserved
loop-c-preserved c = all_more _ _ c.loop-c.invariant (is_empty c.args.state c.loop-c.c c.if-state-c-ne-PRE_OPEN.false c.if-state-c-ne0.false c.if-state-c-ne0-2.false)
